-- An operand byte by its new number, where an array has the new numbers of the nodes below k. Assumes nothing.
use native.Mathlib.Omega.{arith}
use borrow.Author.Tests.{lt-ltb, eqb-true, eqb-false}
use mathlib.Core.Path.{◌≡◌, refl}
use mathlib.Core.Bool.{Bool, true, false, cond}
use mathlib.Core.List.{List}
use Prim.Native.Nat.{ℕ, ◌<◌, ◌≤◌}
use lib.Dec.{eqb}
use lib.ListN.{get_or}
use Rattle.nodes.specs.Operators.{none}
use Rattle.nodes.specs.Nodes.{Operand}
use Rattle.nodes.specs.Computed.{named_by}
use Rattle.nodes.proofs.Fits.{Lower, lower}
use Rattle.encoding.specs.Moved.{moved}

module _ (ν : ℕ → ℕ) (numbers : List ℕ) (k : ℕ) (few : k ≤ 120) (right : (v : ℕ) → v < k → get_or numbers v 0 ≡ ν v) where
  pub looked_up : (v : ℕ) → v < k → get_or numbers (named_by v) 0 ≡ ν v
  unfolding named_by
  looked_up v l = rw (lt-ltb v 120 (omega arith)) (right v l)

  -- an operand by its new number, and any other byte as it is
  pub looked_moved : (sort v : ℕ) → (¬ (sort ≡ none) → v < k) → cond (eqb sort none) v (get_or numbers (named_by v) 0) ≡ moved ν sort v
  unfolding moved
  looked_moved sort v l = go (eqb sort none) refl
    where
      go : (t : Bool) → eqb sort none ≡ t → cond t v (get_or numbers (named_by v) 0) ≡ cond t v (ν v)
      go true e = refl
      go false e = looked_up v (l (eqb-false sort none e))

-- a right operand is right with its new number, where that is a lower node of the sort
module _ (ν : ℕ → ℕ) (s t : List ℕ) (k q : ℕ) where
  pub operand_moved : (sort limit v : ℕ) → Operand s k sort limit v → (¬ (sort ≡ none) → Lower t q sort (ν v)) → Operand t q sort limit (moved ν sort v)
  unfolding moved
  operand_moved sort limit v o f = go (eqb sort none) refl
    where
      go : (b : Bool) → eqb sort none ≡ b → Operand t q sort limit (cond b v (ν v))
      go true e = let z = eqb-true sort none e in record { number = o.number; below = λ y. absurd (y z); sorted = λ y. absurd (y z) }
      go false e = let z = eqb-false sort none e in lower t q limit z (f z)
