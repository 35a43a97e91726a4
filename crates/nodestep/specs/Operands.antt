-- The operands of a base node as pieces: what the code is held to. Assumes nothing.
use Rattle.std.specs.Prelude.{cond, ℕ, eqb}
use Rattle.nodes.specs.declared.Raw.{Raw}
use Rattle.nodes.specs.Operators.{none, boolean, row_of}
use Rattle.pieces.specs.declared.Piece.{Piece}
use Rattle.pieces.specs.declared.Piece.TheVariants.{Byte, NodeOf}
use Rattle.pieces.specs.declared.Step.{Step}
use Rattle.pieces.specs.Steps.{step}

-- the operands of a base node, whose sorts its row has: a boolean by its new number d, any other as it is, and 0 where there is none
unfoldable pub operand_x : ℕ → ℕ → ℕ → Piece
operand_x sort d x = cond (eqb sort boolean) (Byte d) (NodeOf x)

unfoldable pub operand_y : ℕ → ℕ → Piece
operand_y sort y = cond (eqb sort none) (Byte 0) (NodeOf y)

abbrev pub base_step : Raw → ℕ → Step
base_step v d = step v.op (operand_x (row_of v.op).x d v.x) (operand_y (row_of v.op).y v.y)
