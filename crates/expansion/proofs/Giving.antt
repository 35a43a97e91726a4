-- The booleans that a node gives, by its kind. Assumes nothing.
use native.Mathlib.Omega.{arith}
use mathlib.Core.Path.{◌≡◌, refl}
use mathlib.Core.Bool.{Bool, true, false, cond}
use mathlib.Core.List.{List, [], ◌∷◌}
use Prim.Native.Nat.{ℕ, ◌<◌, ◌≤◌}
use lib.Dec.{eqb}
use lib.ListN.{length}
use Rattle.nodes.specs.declared.Node.{Node}
use Rattle.nodes.specs.declared.Node.TheVariants.{Boolean, Sequence, Property}
use Rattle.nodes.specs.declared.BooleanOp.{BooleanOp}
use Rattle.nodes.specs.declared.BooleanOp.TheVariants.{Constant, Not}
use Rattle.nodes.specs.declared.SequenceOp.TheVariants.{Letter, Then, Fused, Either, Empty, Repeat, Clocked, Derived}
use Rattle.nodes.specs.declared.PropertyOp.TheVariants.{Strong, Weak, Negated, AnyOf, BothOf, Implies, Next, Until, Ticked, Defined}
use Rattle.nodes.specs.declared.DerivedSequence.TheVariants.{Repeated, Delayed, Goto, Nonconsecutive}
use Rattle.nodes.specs.declared.DerivedProperty.TheVariants.{ImpliesNext, Followed, FollowedNext, Always, Eventually, StrongUntil, StrongNext}
use Rattle.nodes.specs.Operators.{boolean, operators, lookup, row_of, bytes_of, sequence_bytes, derived_sequence_bytes}
use Rattle.expansion.specs.Booleans.{given}

-- none, the node itself, a constant, or the negation of its operand x
pub data Gives : Node → List BooleanOp → Type 0 where
  gives_none : {v : Node} → Gives v []
  gives_own : {o : BooleanOp} → Gives (Boolean o) (o ∷ [])
  gives_constant : {v : Node} (c : ℕ) → c < 2 → Gives v (Constant c ∷ [])
  gives_not : {v : Node} → (row_of (bytes_of v).op).x ≡ boolean → Gives v (Not (bytes_of v).x ∷ [])

pub gives : (v : Node) → Gives v (given v)
unfolding given row_of lookup operators bytes_of sequence_bytes derived_sequence_bytes
gives (Boolean o) = gives_own
gives (Sequence (Letter b)) = gives_none
gives (Sequence (Then x y)) = gives_none
gives (Sequence (Fused x y)) = gives_none
gives (Sequence (Either x y)) = gives_none
gives (Sequence (Empty x)) = gives_none
gives (Sequence (Repeat x)) = gives_none
gives (Sequence (Clocked b x)) = gives_none
gives (Sequence (Derived (Repeated x m n))) = gives_none
gives (Sequence (Derived (Delayed x y m n))) = unless (eqb n 0)
  where
    unless : {v : Node} (b : Bool) → Gives v (cond b [] (Constant 1 ∷ []))
    unless true = gives_none
    unless false = gives_constant 1 (omega arith)
gives (Sequence (Derived (Goto b m))) = gives_not refl
gives (Sequence (Derived (Nonconsecutive b m))) = gives_not refl
gives (Property (Strong x)) = gives_none
gives (Property (Weak x)) = gives_none
gives (Property (Negated x)) = gives_none
gives (Property (AnyOf x y)) = gives_none
gives (Property (BothOf x y)) = gives_none
gives (Property (Implies x y)) = gives_none
gives (Property (Next x)) = gives_none
gives (Property (Until x y)) = gives_none
gives (Property (Ticked b x)) = gives_none
gives (Property (Defined (ImpliesNext x y))) = gives_constant 1 (omega arith)
gives (Property (Defined (Followed x y))) = gives_none
gives (Property (Defined (FollowedNext x y))) = gives_constant 1 (omega arith)
gives (Property (Defined (Always x))) = gives_constant 0 (omega arith)
gives (Property (Defined (Eventually x))) = gives_constant 0 (omega arith)
gives (Property (Defined (StrongUntil x y))) = gives_constant 0 (omega arith)
gives (Property (Defined (StrongNext x))) = gives_none

-- so at most one
few : {v : Node} {os : List BooleanOp} → Gives v os → length os ≤ 1
few gives_none = omega arith
few gives_own = omega arith
few (gives_constant c l) = omega arith
few (gives_not e) = omega arith

pub given_few : (v : Node) → length (given v) ≤ 1
given_few v = few (gives v)
