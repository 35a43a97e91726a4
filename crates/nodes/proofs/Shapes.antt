-- A well-formed node by its kind: its own sort, and its operands, which lie below it, have the sorts that it asks and are its parts.
-- Assumes nothing.
use native.Mathlib.Omega.{arith}
use mathlib.Core.Path.{◌≡◌, refl, ◌∙◌, sym, subst}
use mathlib.Core.List.{List, map}
use Prim.Native.Nat.{ℕ, ◌<◌, ◌≤◌}
use lib.Dec.{T, ltb, ltb→lt}
use Rattle.nodes.specs.Operators.{Row}
use Rattle.nodes.specs.declared.Raw.{Raw}
use Rattle.nodes.specs.declared.Node.{Node}
use Rattle.nodes.specs.declared.Node.TheVariants.{Boolean, Sequence, Property}
use Rattle.nodes.specs.declared.BooleanOp.TheVariants.{Constant, Signal, Not, And, Or, Risen, Fallen}
use Rattle.nodes.specs.declared.SequenceOp.TheVariants.{Letter, Then, Fused, Either, Empty, Repeat, Clocked, Derived}
use Rattle.nodes.specs.declared.PropertyOp.TheVariants.{Strong, Weak, Negated, AnyOf, BothOf, Implies, Next, Until, Ticked, Defined}
use Rattle.nodes.specs.declared.DerivedSequence.TheVariants.{Repeated, Delayed, Goto, Nonconsecutive}
use Rattle.nodes.specs.declared.DerivedProperty.TheVariants.{ImpliesNext, Followed, FollowedNext, Always, Eventually, StrongUntil, StrongNext}
use Rattle.nodes.specs.Operators.{none, boolean, sequence, property, operators, unknown, lookup, row_of, node_of, bytes_of, boolean_bytes, derived_sequence_bytes, derived_property_bytes, sequence_bytes, property_bytes}
use Rattle.nodes.specs.Nodes.{raw_at, row_at, sort_at, node_at, Operand, WellFormed}
use Rattle.nodes.specs.NodeClock.{Part, at_x, at_y}
use Rattle.nodes.proofs.Lookup.{of_lookup, same_line}
use Rattle.nodes.proofs.Coded.{coded_at, coded_as}

abbrev pub sort_of : Node → ℕ
sort_of (Boolean o) = boolean
sort_of (Sequence o) = sequence
sort_of (Property o) = property

-- Q of each operand of the node, with its sort
module _ (Q : ℕ → ℕ → Type 0) where
  abbrev pub Formed : Node → Type 0
  Formed (Boolean (Constant v)) = Unit {0}
  Formed (Boolean (Signal x)) = Unit {0}
  Formed (Boolean (Not x)) = Q boolean x
  Formed (Boolean (And x y)) = Q boolean x × Q boolean y
  Formed (Boolean (Or x y)) = Q boolean x × Q boolean y
  Formed (Boolean (Risen x)) = Unit {0}
  Formed (Boolean (Fallen x)) = Unit {0}
  Formed (Sequence (Letter x)) = Q boolean x
  Formed (Sequence (Then x y)) = Q sequence x × Q sequence y
  Formed (Sequence (Fused x y)) = Q sequence x × Q sequence y
  Formed (Sequence (Either x y)) = Q sequence x × Q sequence y
  Formed (Sequence (Empty x)) = Q sequence x
  Formed (Sequence (Repeat x)) = Q sequence x
  Formed (Sequence (Clocked c x)) = Q boolean c × Q sequence x
  Formed (Sequence (Derived (Repeated x m n))) = Q sequence x
  Formed (Sequence (Derived (Delayed x y m n))) = Q sequence x × Q sequence y
  Formed (Sequence (Derived (Goto x m))) = Q boolean x
  Formed (Sequence (Derived (Nonconsecutive x m))) = Q boolean x
  Formed (Property (Strong x)) = Q sequence x
  Formed (Property (Weak x)) = Q sequence x
  Formed (Property (Negated x)) = Q property x
  Formed (Property (AnyOf x y)) = Q property x × Q property y
  Formed (Property (BothOf x y)) = Q property x × Q property y
  Formed (Property (Implies x y)) = Q sequence x × Q property y
  Formed (Property (Next x)) = Q property x
  Formed (Property (Until x y)) = Q property x × Q property y
  Formed (Property (Ticked c x)) = Q boolean c × Q property x
  Formed (Property (Defined (ImpliesNext x y))) = Q sequence x × Q property y
  Formed (Property (Defined (Followed x y))) = Q sequence x × Q property y
  Formed (Property (Defined (FollowedNext x y))) = Q sequence x × Q property y
  Formed (Property (Defined (Always x))) = Q property x
  Formed (Property (Defined (Eventually x))) = Q property x
  Formed (Property (Defined (StrongUntil x y))) = Q property x × Q property y
  Formed (Property (Defined (StrongNext x))) = Q property x

  formed : (v : Node) → (T (ltb 0 (row_of (bytes_of v).op).x) → Q (row_of (bytes_of v).op).x (bytes_of v).x)
      → (T (ltb 0 (row_of (bytes_of v).op).y) → Q (row_of (bytes_of v).op).y (bytes_of v).y) → Formed v
  unfolding row_of lookup operators bytes_of boolean_bytes derived_sequence_bytes derived_property_bytes sequence_bytes property_bytes
  formed (Boolean (Constant v)) f g = tt
  formed (Boolean (Signal x)) f g = tt
  formed (Boolean (Not x)) f g = f tt
  formed (Boolean (And x y)) f g = (f tt, g tt)
  formed (Boolean (Or x y)) f g = (f tt, g tt)
  formed (Boolean (Risen x)) f g = tt
  formed (Boolean (Fallen x)) f g = tt
  formed (Sequence (Letter x)) f g = f tt
  formed (Sequence (Then x y)) f g = (f tt, g tt)
  formed (Sequence (Fused x y)) f g = (f tt, g tt)
  formed (Sequence (Either x y)) f g = (f tt, g tt)
  formed (Sequence (Empty x)) f g = f tt
  formed (Sequence (Repeat x)) f g = f tt
  formed (Sequence (Clocked c x)) f g = (f tt, g tt)
  formed (Sequence (Derived (Repeated x m n))) f g = f tt
  formed (Sequence (Derived (Delayed x y m n))) f g = (f tt, g tt)
  formed (Sequence (Derived (Goto x m))) f g = f tt
  formed (Sequence (Derived (Nonconsecutive x m))) f g = f tt
  formed (Property (Strong x)) f g = f tt
  formed (Property (Weak x)) f g = f tt
  formed (Property (Negated x)) f g = f tt
  formed (Property (AnyOf x y)) f g = (f tt, g tt)
  formed (Property (BothOf x y)) f g = (f tt, g tt)
  formed (Property (Implies x y)) f g = (f tt, g tt)
  formed (Property (Next x)) f g = f tt
  formed (Property (Until x y)) f g = (f tt, g tt)
  formed (Property (Ticked c x)) f g = (f tt, g tt)
  formed (Property (Defined (ImpliesNext x y))) f g = (f tt, g tt)
  formed (Property (Defined (Followed x y))) f g = (f tt, g tt)
  formed (Property (Defined (FollowedNext x y))) f g = (f tt, g tt)
  formed (Property (Defined (Always x))) f g = f tt
  formed (Property (Defined (Eventually x))) f g = f tt
  formed (Property (Defined (StrongUntil x y))) f g = (f tt, g tt)
  formed (Property (Defined (StrongNext x))) f g = f tt

-- a line's own sort is that of its node: antt computes the two for all lines at once
own_sorts : (x y q : ℕ) → map (λ e. e.row.own) operators ≡ map (λ e. sort_of (e.make x y q)) operators
unfolding operators
own_sorts x y q = refl

-- x is a node below k of the sort and, where it is a sequence or a property, a part of k
abbrev pub Suits : List ℕ → ℕ → ℕ → ℕ → Type 0
Suits s k sort x = (x < k) × (sort_at s x ≡ sort) × (sequence ≤ sort → Part s k x)

module _ (s : List ℕ) (k : ℕ) (w : WellFormed s k) where
  pub sort_is : sort_at s k ≡ sort_of (node_at s k)
  unfolding sort_at row_of node_of
  sort_is =
      let n = raw_at s k in
      of_lookup (λ (r : Row). r.own) (λ e. e.row) unknown operators n.op
      ∙ same_line (λ e. e.row.own) (λ e. sort_of (e.make n.x n.y n.fourth)) none boolean (own_sorts n.x n.y n.fourth) n.op w.known
      ∙ sym (of_lookup sort_of (λ e. e.make n.x n.y n.fourth) (Boolean (Constant 0)) operators n.op)

  operands : Formed (Suits s k) (node_at s k)
  operands =
      let e : raw_at s k ≡ bytes_of (node_at s k) = sym (coded_at s k w) in
      formed (Suits s k) (node_at s k)
      (subst (λ (r : Raw). T (ltb 0 (row_of r.op).x) → Suits s k (row_of r.op).x r.x) e
      (λ t. let l = ltb→lt 0 (row_at s k).x t in (w.x.below (λ z. omega arith), w.x.sorted (λ z. omega arith), λ h. at_x h refl)))
      (subst (λ (r : Raw). T (ltb 0 (row_of r.op).y) → Suits s k (row_of r.op).y r.y) e
      (λ t. let l = ltb→lt 0 (row_at s k).y t in (w.y.below (λ z. omega arith), w.y.sorted (λ z. omega arith), λ h. at_y h refl)))

  -- the operands of a node whose kind is known
  pub down : {v : Node} → node_at s k ≡ v → Formed (Suits s k) v
  down e = subst (Formed (Suits s k)) e operands

  -- the first byte of a node whose kind is known, where it is a number and no operand
  pub numbered : {v : Node} → node_at s k ≡ v → (row_of (bytes_of v).op).x ≡ none → (bytes_of v).x < (row_of (bytes_of v).op).limit
  numbered e z = (subst (λ (r : Raw). Operand s k (row_of r.op).x (row_of r.op).limit r.x) (coded_as s k w e) w.x).number z
