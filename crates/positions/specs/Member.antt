-- A set of places as a number: which places it has, and the words that the contracts are written in. Assumes nothing.
use Rattle.std.specs.Prelude.{◌≡◌, Bool, true, false, cond, ℕ, zero, suc, ◌+◌, ◌*◌, ◌/◌, ◌%◌, ◌^◌, ◌≤◌, ◌<◌, eqb}

-- x has the place k: digit k of x, counted from the lowest, is 1
unfoldable pub has : ℕ → ℕ → Bool
has x k = eqb (x / 2 ^ k % 2) 1

-- x has exactly the places that pass the test f. No second number fits (`proofs/Laws.antt`, `unique`)
abbrev pub Is : ℕ → (ℕ → Bool) → Type 0
Is x f = (k : ℕ) → has x k ≡ f k

-- the number whose places are those below w that pass the test f
unfoldable pub collect : ℕ → (ℕ → Bool) → ℕ
collect zero f = 0
collect (suc w) f = collect w (λ k. f (suc k)) * 2 + cond (f 0) 1 0

-- l is the lowest place of x below w, and w itself where x has none there. No second l fits (`proofs/Lowest.antt`, `lowest_unique`)
pub record Lowest (w x l : ℕ) : Type 0 where
  pub within : l ≤ w
  pub below : (k : ℕ) → k < l → has x k ≡ false
  pub there : l < w → has x l ≡ true
