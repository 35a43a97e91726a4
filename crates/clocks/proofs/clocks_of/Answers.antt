-- `clocks::clocks_of` meets its contract: the nodes from p on have handed their clocks to their parts. Assumes nothing.
use Rattle.std.proofs.Common.{◌≡◌, arith}
use Rattle.clocks.proofs.HandingDown.{built, handed_none, handed_again, handed_all}
use Rattle.clocks.proofs.clocks_of.Goals as goal

pub loop-p-init : goal.loop-p-init
loop-p-init c = rw (c.requires.1, c.count_of-p.ensures) (handed_none _)

pub loop-p-preserved : goal.loop-p-preserved
loop-p-preserved c =
    handed_again _ (built c.requires.0) c.loop-p.p c.loop-p-test.true (omega arith) _ c.loop-p.invariant _ c.node_at-v.ensures _ c.row_of-r.ensures.row _ c.handed_down-c.ensures _ c.part.ensures.value _ c.part-in-loop-p.ensures.value

pub returns : goal.returns
returns c =
    let e : c.loop-p.p ≡ 0 = omega arith in
    let h = rw e at c.loop-p.invariant in
    record { table = c.requires.0; size = h.size; right = handed_all _ (built c.requires.0) _ h }
