-- A signal's word moved up by a place tells of the sample before; so risen and fallen are told by word operations. Assumes nothing.
use native.Mathlib.Omega.{arith}
use borrow.Author.Tests.{lt-ltb, le-ltb, le-leb}
use mathlib.Core.Path.{◌≡◌, ◌∙◌, sym}
use mathlib.Core.Bool.{not, ◌&&◌, and-true}
use mathlib.Core.List.{List}
use mathlib.Core.Logic.{⊎_elim}
use Prim.Native.Nat.{ℕ, zero, suc, ◌-◌, ◌≤◌, ◌<◌}
use lib.Dec.{ltb, leb}
use lib.ListN.{length}
use Rattle.telling.proofs.Telling.{side}
use Rattle.positions.specs.Member.{has, Is}
use Rattle.positions.proofs.Laws.{has_none}
use Rattle.cells.specs.Shares.{longest}
use Rattle.cells.specs.Bits.{signal_bit, sample_before, risen_bit, fallen_bit}

-- `high` is the signal's word, and `up` that word moved
module _ (xs : List ℕ) (s : ℕ) (short : length xs ≤ longest) (high : ℕ) (eh : Is high (signal_bit xs s))
    (up : ℕ) (eu : Is up (λ k. (leb 1 k && has high (k - 1)) && ltb k 64)) where
  before : (k : ℕ) → k < length xs → has up k ≡ has (sample_before xs k) s
  before zero l = eu 0 ∙ sym (has_none s)
  before (suc k) l =
      let e : suc k - 1 ≡ k = omega arith in
      eu (suc k) ∙ rw (le-leb 1 (suc k) (omega arith), lt-ltb (suc k) 64 (omega arith), e, eh k, lt-ltb k (length xs) (omega arith)) (and-true _)

  pub risen : (r : ℕ) → Is r (λ k. has high k && not (has up k)) → Is r (risen_bit xs s)
  risen r e k =
      e k
      ∙ ⊎_elim (λ (l : k < length xs). rw (eh k, before k l, lt-ltb k (length xs) l)) (λ (l : length xs ≤ k). rw (eh k, le-ltb k (length xs) l))
      (side k (length xs))

  pub fallen : (all : ℕ) → Is all (λ k. ltb k (length xs)) → (low : ℕ) → Is low (λ k. has all k && not (has high k)) → (r : ℕ)
      → Is r (λ k. has low k && has up k) → Is r (fallen_bit xs s)
  fallen all ea low el r e k =
      e k ∙ rw (el k, ea k)
      (⊎_elim (λ (l : k < length xs). rw (eh k, before k l, lt-ltb k (length xs) l)) (λ (l : length xs ≤ k). rw (le-ltb k (length xs) l)) (side k (length xs)))
