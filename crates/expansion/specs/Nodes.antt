-- The form of each node: a boolean is its new number, a base node stays one node over its operands, and a derived node is its block. Assumes nothing.
use Rattle.std.specs.Prelude.{cond, List, ℕ, zero, suc, eqb}
use Rattle.nodes.specs.declared.Node.{Node}
use Rattle.nodes.specs.declared.Node.TheVariants.{Boolean, Sequence, Property}
use Rattle.nodes.specs.declared.SequenceOp.TheVariants.{Letter, Then, Fused, Either, Empty, Repeat, Clocked, Derived}
use Rattle.nodes.specs.declared.PropertyOp.TheVariants.{Strong, Weak, Negated, AnyOf, BothOf, Implies, Next, Until, Ticked, Defined}
use Rattle.nodes.specs.declared.DerivedSequence.TheVariants.{Repeated, Delayed, Goto, Nonconsecutive}
use Rattle.nodes.specs.declared.DerivedProperty.TheVariants.{ImpliesNext, Followed, FollowedNext, Always, Eventually, StrongUntil, StrongNext}
use Rattle.nodes.specs.Nodes.{node_at}
use Rattle.expansion.specs.Forms.{Form, byte, node}
use Rattle.expansion.specs.Blocks.{one, range, delay, goto, nonconsecutive, implies_next, followed, followed_next, always, eventually, strong_until, strong_next}
use Rattle.expansion.specs.Booleans.{number_of}

-- ν gives the new numbers of booleans, F the forms of the operands; c is the new number of the boolean that the node is or makes
module _ (ν : ℕ → ℕ) (F : ℕ → Form) (c : ℕ) where
  unfoldable pub node_form : Node → Form
  node_form (Boolean o) = byte c
  node_form (Sequence (Letter b)) = one 16 (byte (ν b))
  node_form (Sequence (Then x y)) = node 17 (F x) (F y)
  node_form (Sequence (Fused x y)) = node 18 (F x) (F y)
  node_form (Sequence (Either x y)) = node 19 (F x) (F y)
  node_form (Sequence (Empty x)) = one 20 (F x)
  node_form (Sequence (Repeat x)) = one 21 (F x)
  node_form (Sequence (Clocked b x)) = node 22 (byte (ν b)) (F x)
  node_form (Sequence (Derived (Repeated x m n))) = range (F x) m n
  node_form (Sequence (Derived (Delayed x y m n))) = delay c (F x) (F y) m n
  node_form (Sequence (Derived (Goto b m))) = goto c (ν b) m
  node_form (Sequence (Derived (Nonconsecutive b m))) = nonconsecutive c (ν b) m
  node_form (Property (Strong x)) = one 32 (F x)
  node_form (Property (Weak x)) = one 33 (F x)
  node_form (Property (Negated x)) = one 34 (F x)
  node_form (Property (AnyOf x y)) = node 35 (F x) (F y)
  node_form (Property (BothOf x y)) = node 36 (F x) (F y)
  node_form (Property (Implies x y)) = node 37 (F x) (F y)
  node_form (Property (Next x)) = one 38 (F x)
  node_form (Property (Until x y)) = node 39 (F x) (F y)
  node_form (Property (Ticked b x)) = node 40 (byte (ν b)) (F x)
  node_form (Property (Defined (ImpliesNext x y))) = implies_next c (F x) (F y)
  node_form (Property (Defined (Followed x y))) = followed (F x) (F y)
  node_form (Property (Defined (FollowedNext x y))) = followed_next c (F x) (F y)
  node_form (Property (Defined (Always x))) = always c (F x)
  node_form (Property (Defined (Eventually x))) = eventually c (F x)
  node_form (Property (Defined (StrongUntil x y))) = strong_until c (F x) (F y)
  node_form (Property (Defined (StrongNext x))) = strong_next (F x)

module _ (s : List ℕ) where
  -- the forms of the nodes below n; an operand lies below its node
  unfoldable pub forms_below : ℕ → ℕ → Form
  forms_below zero k = byte 0
  forms_below (suc n) k = cond (eqb k n) (node_form (number_of s) (forms_below n) (number_of s n) (node_at s n)) (forms_below n k)

  unfoldable pub form_of : ℕ → Form
  form_of k = forms_below (suc k) k
