-- What a node's bytes say of its kind, by its operator: the derived ones. Assumes nothing.
use mathlib.Core.Path.{◌≡◌}
use Prim.Native.Nat.{◌/◌, ◌%◌}
use Rattle.nodes.specs.declared.Raw.{Raw}
use Rattle.nodes.specs.declared.Node.TheVariants.{Sequence, Property}
use Rattle.nodes.specs.declared.SequenceOp.TheVariants.{Derived}
use Rattle.nodes.specs.declared.PropertyOp.TheVariants.{Defined}
use Rattle.nodes.specs.declared.DerivedSequence.TheVariants.{Repeated, Delayed, Goto, Nonconsecutive}
use Rattle.nodes.specs.declared.DerivedProperty.TheVariants.{ImpliesNext, Followed, FollowedNext, Always, Eventually, StrongUntil, StrongNext}
use Rattle.nodes.specs.Operators.{operators, lookup, node_of}

module _ (v : Raw) where
  pub is_23 : v.op ≡ 23 → node_of v ≡ Sequence (Derived (Repeated v.x (v.fourth % 16) (v.fourth / 16)))
  unfolding node_of lookup operators
  is_23 e = rw e

  pub is_24 : v.op ≡ 24 → node_of v ≡ Sequence (Derived (Delayed v.x v.y (v.fourth % 16) (v.fourth / 16)))
  unfolding node_of lookup operators
  is_24 e = rw e

  pub is_25 : v.op ≡ 25 → node_of v ≡ Sequence (Derived (Goto v.x v.fourth))
  unfolding node_of lookup operators
  is_25 e = rw e

  pub is_26 : v.op ≡ 26 → node_of v ≡ Sequence (Derived (Nonconsecutive v.x v.fourth))
  unfolding node_of lookup operators
  is_26 e = rw e

  pub is_41 : v.op ≡ 41 → node_of v ≡ Property (Defined (ImpliesNext v.x v.y))
  unfolding node_of lookup operators
  is_41 e = rw e

  pub is_42 : v.op ≡ 42 → node_of v ≡ Property (Defined (Followed v.x v.y))
  unfolding node_of lookup operators
  is_42 e = rw e

  pub is_43 : v.op ≡ 43 → node_of v ≡ Property (Defined (FollowedNext v.x v.y))
  unfolding node_of lookup operators
  is_43 e = rw e

  pub is_44 : v.op ≡ 44 → node_of v ≡ Property (Defined (Always v.x))
  unfolding node_of lookup operators
  is_44 e = rw e

  pub is_45 : v.op ≡ 45 → node_of v ≡ Property (Defined (Eventually v.x))
  unfolding node_of lookup operators
  is_45 e = rw e

  pub is_46 : v.op ≡ 46 → node_of v ≡ Property (Defined (StrongUntil v.x v.y))
  unfolding node_of lookup operators
  is_46 e = rw e

  pub is_47 : v.op ≡ 47 → node_of v ≡ Property (Defined (StrongNext v.x))
  unfolding node_of lookup operators
  is_47 e = rw e
