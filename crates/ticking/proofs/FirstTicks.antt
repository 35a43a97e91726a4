-- What the bit of a letter says: its last letter is the first tick, and satisfies b. Assumes nothing.
use mathlib.Core.Bool.{Bool, not}
use Prim.Native.Nat.{ℕ, ◌-◌, ◌≤◌, ◌<◌}
use native.Mathlib.Omega.{arith}
use lib.Dec.{T}
use Rattle.telling.specs.Tells.{Tells}
use Rattle.telling.proofs.Telling.{is_map, is_and, is_lt, is_test, is_every}
use Rattle.ticking.specs.Ticks.{letter_bit}

-- the last letter j - 1 is the first tick from i on, and satisfies b
abbrev pub First : (ℕ → Bool) → (ℕ → Bool) → ℕ → ℕ → Type 0
First B T₀ i j = (i < j) × (T (T₀ (j - 1)) × (T (B (j - 1)) × ((m : ℕ) → i ≤ m → m < j - 1 → T (not (T₀ m)))))

pub letter_tells : (B T₀ : ℕ → Bool) (i j : ℕ) → Tells (letter_bit B T₀ i j) (First B T₀ i j)
unfolding letter_bit
letter_tells B T₀ i j =
    is_and (is_lt i j)
    (is_and (is_test (T₀ (j - 1)))
    (is_and (is_test (B (j - 1)))
    (is_map (is_every i (j - 1 - i) (λ m u v. is_test (not (T₀ m)))) (λ f m u v. f m u (omega arith)) (λ f m u v. f m u (omega arith)))))
