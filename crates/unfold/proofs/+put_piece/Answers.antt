-- The proof of the cycle of calls {put_piece}: the operands are lower, and each return is one law. Assumes nothing.
use Rattle.pieces.specs.Pieces.{piece_form}
use Rattle.unfold.proofs.Writing.{no_byte, puts_byte, full_x, full_y, puts_node}
use Rattle.unfold.proofs.+put_piece.Goals as goal

pub returns-in-Byte : goal.returns-in-Byte
unfolding piece_form
returns-in-Byte t c = rw c.in-Byte.is (puts_byte _ _ _ _ c.if-at-later-gt120.false)

pub returns-in_err-middle : goal.returns-in_err-middle
returns-in_err-middle t c = rw c.from_residual.ensures (full_x _ _ _ _ _ c.step_of-op.ensures _ _ _ _ c.in_err-middle.ensures)

pub returns-in_err-end : goal.returns-in_err-end
returns-in_err-end t c =
    rw c.from_residual-in_err-end.ensures (full_y _ _ _ _ _ c.step_of-op.ensures _ _ _ _ _ c.in_ok-middle.ensures _ c.in_err-end.ensures)

pub returns : goal.returns
returns t c =
    puts_node _ _ _ _ _ c.step_of-op.ensures _ _ _ _ _ c.in_ok-middle.ensures _ _ c.in_ok-end.ensures c.requires.4 _ _ c.placed.ensures c.placed-2.ensures _
    c.put_node.ensures

pub step_of-op-requires : goal.step_of-op-requires
step_of-op-requires t c = (c.requires.0, c.requires.1, no_byte _ c.in_default.not-Byte)
