-- The proof of the cycle of calls {property_row}: the node's number falls. Assumes nothing.
use native.Mathlib.Omega.{arith}
use Rattle.walk.proofs.Operands.{first_below, second_below, set_there, fallen}
use Rattle.walk.proofs.PropertyAnswers.{told_other, told-property}
use Rattle.walk.proofs.+property_row.Goals as goal

pub set_at-requires : goal.set_at-requires
set_at-requires t c =
    set_there _ _ _ c.requires.0 _ c.requires.1 _
    (first_below _ _ _ c.requires.0 _ c.requires.1 _ c.node_at-v.ensures _ c.from.ensures c.in-Property.is (omega arith) _ c.from-a.ensures)

pub sequence_row-x-requires : goal.sequence_row-x-requires
sequence_row-x-requires t c =
    let l = first_below _ _ _ c.requires.0 _ c.requires.1 _ c.node_at-v.ensures _ c.from.ensures c.in-Property.is (omega arith) _ c.from-a.ensures in
    (fallen _ _ _ _ c.decreases c.requires l).1

pub property_row-p-requires : goal.property_row-p-requires
property_row-p-requires t c =
    let l = first_below _ _ _ c.requires.0 _ c.requires.1 _ c.node_at-v.ensures _ c.from.ensures c.in-Property.is (omega arith) _ c.from-a.ensures in
    fallen _ _ _ _ c.decreases c.requires l

pub property_row-q-requires : goal.property_row-q-requires
property_row-q-requires t c =
    let l = second_below _ _ _ c.requires.0 _ c.requires.1 _ c.node_at-v.ensures _ c.from.ensures c.in-Property.is (omega arith) _ c.from-b.ensures in
    fallen _ _ _ _ c.decreases c.requires l

pub returns : goal.returns
returns t c =
    told-property _ _ _ c.requires.0 _ c.requires.1 _ c.node_at-v.ensures _ c.from.ensures _ _ c.in-Property.is _ _ c.from-a.ensures c.from-b.ensures _
    c.set_at.ensures _ c.property_clock-below.ensures _ _ _ _ c.sequence_row-x.ensures c.property_row-p.ensures c.property_row-q.ensures c.property_step.ensures

pub returns-in_default : goal.returns-in_default
returns-in_default t c = told_other _ _ _ c.requires.0 _ c.requires.1 _ c.node_at-v.ensures _ c.from.ensures _ c.in_default.not-Property _
