-- The proof of the cycle of calls {sequence_row}: the node's number falls. Assumes nothing.
use native.Mathlib.Omega.{arith}
use Rattle.walk.proofs.Operands.{first_below, second_below, set_there, fallen}
use Rattle.walk.proofs.SequenceRows.{of_other, of_sequence}
use Rattle.walk.proofs.+sequence_row.Goals as goal

pub set_at-c-requires : goal.set_at-c-requires
set_at-c-requires t c =
    set_there _ _ _ c.requires.0 _ c.requires.1 _
    (first_below _ _ _ c.requires.0 _ c.requires.1 _ c.node_at-v.ensures _ c.from.ensures c.in-Sequence.is (omega arith) _ c.from-a.ensures)

pub sequence_row-x-requires : goal.sequence_row-x-requires
sequence_row-x-requires t c =
    let l = first_below _ _ _ c.requires.0 _ c.requires.1 _ c.node_at-v.ensures _ c.from.ensures c.in-Sequence.is (omega arith) _ c.from-a.ensures in
    fallen _ _ _ _ c.decreases c.requires l

pub sequence_row-y-requires : goal.sequence_row-y-requires
sequence_row-y-requires t c =
    let l = second_below _ _ _ c.requires.0 _ c.requires.1 _ c.node_at-v.ensures _ c.from.ensures c.in-Sequence.is (omega arith) _ c.from-b.ensures in
    fallen _ _ _ _ c.decreases c.requires l

pub returns : goal.returns
returns t c =
    of_sequence _ _ _ c.requires.0 _ c.requires.1 _ c.node_at-v.ensures _ c.from.ensures _ _ c.in-Sequence.is _ _ c.from-a.ensures c.from-b.ensures _
    c.set_at-c.ensures _ c.sequence_clock-below.ensures _ _ _ c.sequence_row-x.ensures c.sequence_row-y.ensures c.sequence_step.ensures

pub returns-in_default : goal.returns-in_default
returns-in_default t c = of_other _ _ _ c.requires.0 _ c.requires.1 _ c.node_at-v.ensures _ c.from.ensures _ c.in_default.not-Sequence _
