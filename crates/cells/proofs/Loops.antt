-- Sets that a loop makes place by place, and tests on sets that are known by their places. Assumes nothing.
use mathlib.Core.Path.{◌≡◌, refl, ap, ◌∙◌}
use mathlib.Core.Bool.{Bool, true, false, not, ◌||◌, ◌&&◌, or-false, and-false, and-true, not-not}
use Prim.Native.Nat.{ℕ, suc, ◌+◌, ◌<◌, ◌≤◌}
use native.Mathlib.Omega.{arith}
use lib.Dec.{eqb, leb, ltb}
use borrow.Author.Tests.{lt-ltb, le-ltb, eqb-true, eqb-false, leb-true, leb-false}
use Rattle.telling.specs.Tells.{some}
use Rattle.telling.proofs.Telling.{some_same, leb_same}
use Rattle.positions.specs.Member.{has, Is}

-- ---- a loop that asks the places 0, 1, ..

pub taken_none : (f : ℕ → Bool) (x : ℕ) → Is x (λ j. false) → Is x (λ j. ltb j 0 && f j)
taken_none f x h j = rw (le-ltb j 0 (omega arith)) (h j)

-- place k, asked last, is taken where it passes
pub taken_more : (f : ℕ → Bool) (k x y : ℕ) (t : Bool) → Is x (λ j. ltb j k && f j) → t ≡ f k → Is y (λ j. has x j || (t && eqb j k))
    → Is y (λ j. ltb j (k + 1) && f j)
taken_more f k x y t ex et ey j = ey j ∙ ap (λ b. b || (t && eqb j k)) (ex j) ∙ go (eqb j k) refl
  where
    go : (e : Bool) → eqb j k ≡ e → ((ltb j k && f j) || (t && e)) ≡ (ltb j (k + 1) && f j)
    go true p = let q = eqb-true j k p in rw (et, ← q, le-ltb j j (omega arith), lt-ltb j (j + 1) (omega arith)) (and-true (f j))
    go false p =
        rw (and-false t, or-false)
        (ap (λ b. b && f j) (leb_same (suc j) k (suc j) (k + 1) (λ u. omega arith) (λ u. omega (arith, eqb-false j k p))))

-- the places up to n, asked below n + 1
pub asked_upto : (x k n : ℕ) (f : ℕ → Bool) → Is x (λ j. ltb j k && f j) → k ≡ n + 1 → Is x (λ j. leb j n && f j)
asked_upto x k n f h e j = h j ∙ ap (λ b. b && f j) (leb_same (suc j) k j n (λ u. omega arith) (λ u. omega arith))

-- what the answers tell: x has the places up to n at which f holds
pub asked_is : (f : ℕ → Bool) (n x : ℕ) → ((i : ℕ) → i ≤ n → has x i ≡ f i) → ((i : ℕ) → n < i → has x i ≡ false) → Is x (λ j. leb j n && f j)
asked_is f n x told within j = go (leb j n) refl
  where
    go : (b : Bool) → leb j n ≡ b → has x j ≡ (b && f j)
    go true e = told j (leb-true j n e)
    go false e = within j (leb-false j n e)

-- ---- a set that is asked whether it has a place

pub not_empty : (x : ℕ) (f : ℕ → Bool) (e : Bool) → e ≡ not (some (has x) 0 64) → Is x f → not e ≡ some f 0 64
not_empty x f e ee ex = ap not ee ∙ not-not (some (has x) 0 64) ∙ some_same 0 64 (λ k u v. ex k)

pub within_as : (x y : ℕ) (f : ℕ → Bool) (t : Bool) → t ≡ not (some (λ k. has x k && not (has y k)) 0 64) → Is x f
    → t ≡ not (some (λ k. f k && not (has y k)) 0 64)
within_as x y f t et ex = et ∙ ap not (some_same 0 64 (λ k u v. ap (λ b. b && not (has y k)) (ex k)))

pub met_in : (x y : ℕ) (f : ℕ → Bool) (t : Bool) → t ≡ some (λ k. has x k && has y k) 0 64 → Is x f → t ≡ some (λ k. f k && has y k) 0 64
met_in x y f t et ex = et ∙ some_same 0 64 (λ k u v. ap (λ b. b && has y k) (ex k))
