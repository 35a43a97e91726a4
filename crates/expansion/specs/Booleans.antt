-- All booleans first, in one pass: each boolean node, and the boolean that a derived node's block makes, in the order of the nodes. None is copied.
-- Assumes nothing.
use Rattle.std.specs.Prelude.{cond, List, [], ◌∷◌, ◌++◌, map, ℕ, zero, suc, ◌+◌, eqb, length}
use Rattle.nodes.specs.declared.Raw.{Raw}
use Rattle.nodes.specs.declared.Node.{Node}
use Rattle.nodes.specs.declared.Node.TheVariants.{Boolean, Sequence, Property}
use Rattle.nodes.specs.declared.BooleanOp.{BooleanOp}
use Rattle.nodes.specs.declared.BooleanOp.TheVariants.{Constant, Not}
use Rattle.nodes.specs.declared.SequenceOp.TheVariants.{Letter, Then, Fused, Either, Empty, Repeat, Clocked, Derived}
use Rattle.nodes.specs.declared.PropertyOp.TheVariants.{Strong, Weak, Negated, AnyOf, BothOf, Implies, Next, Until, Ticked, Defined}
use Rattle.nodes.specs.declared.DerivedSequence.TheVariants.{Repeated, Delayed, Goto, Nonconsecutive}
use Rattle.nodes.specs.declared.DerivedProperty.TheVariants.{ImpliesNext, Followed, FollowedNext, Always, Eventually, StrongUntil, StrongNext}
use Rattle.nodes.specs.Operators.{boolean_bytes}
use Rattle.nodes.specs.Nodes.{node_at}
use Rattle.encoding.specs.Moved.{moved_node}

-- the boolean that a node gives the new table, if any: itself, or the 0, 1 or !b that its block makes
unfoldable pub given : Node → List BooleanOp
given (Boolean o) = o ∷ []
given (Sequence (Letter b)) = []
given (Sequence (Then x y)) = []
given (Sequence (Fused x y)) = []
given (Sequence (Either x y)) = []
given (Sequence (Empty x)) = []
given (Sequence (Repeat x)) = []
given (Sequence (Clocked b x)) = []
given (Sequence (Derived (Repeated x m n))) = []
given (Sequence (Derived (Delayed x y m n))) = cond (eqb n 0) [] (Constant 1 ∷ [])
given (Sequence (Derived (Goto b m))) = Not b ∷ []
given (Sequence (Derived (Nonconsecutive b m))) = Not b ∷ []
given (Property (Strong x)) = []
given (Property (Weak x)) = []
given (Property (Negated x)) = []
given (Property (AnyOf x y)) = []
given (Property (BothOf x y)) = []
given (Property (Implies x y)) = []
given (Property (Next x)) = []
given (Property (Until x y)) = []
given (Property (Ticked b x)) = []
given (Property (Defined (ImpliesNext x y))) = Constant 1 ∷ []
given (Property (Defined (Followed x y))) = []
given (Property (Defined (FollowedNext x y))) = Constant 1 ∷ []
given (Property (Defined (Always x))) = Constant 0 ∷ []
given (Property (Defined (Eventually x))) = Constant 0 ∷ []
given (Property (Defined (StrongUntil x y))) = Constant 0 ∷ []
given (Property (Defined (StrongNext x))) = []

module _ (s : List ℕ) where
  -- the new number of the boolean that node k gives: how many the nodes below it give
  unfoldable pub number_of : ℕ → ℕ
  number_of zero = 0
  number_of (suc k) = number_of k + length (given (node_at s k))

  -- what node k gives, with new operand numbers
  abbrev pub given_at : ℕ → List Raw
  given_at k = map (λ o. moved_node number_of (boolean_bytes o)) (given (node_at s k))

  -- what the nodes below k give
  unfoldable pub booleans_below : ℕ → List Raw
  booleans_below zero = []
  booleans_below (suc k) = booleans_below k ++ given_at k
