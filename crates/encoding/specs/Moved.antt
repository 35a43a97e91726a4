-- A node with new operand numbers, which ν gives. Assumes nothing.
use Rattle.std.specs.Prelude.{cond, ℕ, eqb}
use Rattle.nodes.specs.declared.Raw.{Raw}
use Rattle.nodes.specs.Operators.{none, row_of, bytes}

module _ (ν : ℕ → ℕ) where
  -- a byte that is an operand of a sort, by its new number; any other as it is
  unfoldable pub moved : ℕ → ℕ → ℕ
  moved sort v = cond (eqb sort none) v (ν v)

  -- one node with new operand numbers
  unfoldable pub moved_node : Raw → Raw
  moved_node r = bytes r.op (moved (row_of r.op).x r.x) (moved (row_of r.op).y r.y)
