-- `writing::put_block` meets its contract: the first i nodes of the block are put. Assumes nothing.
use Rattle.std.proofs.Common.{ap, ℕ, ◌+◌, arith}
use Rattle.nodes.specs.Sorts.{row_numbers}
use Rattle.encoding.specs.Encoding.{encoded}
use Rattle.encoding.proofs.Putting.{put_none}
use Rattle.writing.proofs.Passes.{long_is}
use Rattle.writing.proofs.Turns.{blocked, node_within, node_put, block_put}
use Rattle.writing.proofs.put_block.Goals as goal

pub loop-i-init : goal.loop-i-init
unfolding encoded
loop-i-init c = put_none _ _

pub overflow_add-at : goal.overflow_add-at
overflow_add-at c =
    let n = long_is _ _ _ c.requires.numbered.0 _ c.requires.numbered.1 _ c.node_at-v.ensures (row_numbers c.row_of-r.result) c.row_of-r.ensures.row _ c.length_under-long.ensures in
    let f = c.requires.block_fits.1 in
    omega arith

pub overflow_cast-at : goal.overflow_cast-at
overflow_cast-at c = let f = c.requires.block_fits.1 in omega arith

pub block_node-requires : goal.block_node-requires
block_node-requires c =
    let b = blocked _ _ _ c.requires.numbered.0 _ c.requires.numbered.1 _ c.node_at-v.ensures (row_numbers c.row_of-r.result) c.row_of-r.ensures.row _ c.length_under-long.ensures _ c.moved_operand-x.ensures _ c.moved_operand-y.ensures _ c.requires.block_fits.0 _ c.moved_clock-c.ensures in
    let f = c.requires.block_fits.1 in
    (omega arith, node_within b c.loop-i.i c.loop-i-test.true)

pub put_node-requires : goal.put_node-requires
put_node-requires c =
    let n = long_is _ _ _ c.requires.numbered.0 _ c.requires.numbered.1 _ c.node_at-v.ensures (row_numbers c.row_of-r.result) c.row_of-r.ensures.row _ c.length_under-long.ensures in
    let f = c.requires.block_fits.2 in
    let o = c.loop-i.auto.out in
    omega arith

pub loop-i-preserved : goal.loop-i-preserved
loop-i-preserved c =
    node_put (blocked _ _ _ c.requires.numbered.0 _ c.requires.numbered.1 _ c.node_at-v.ensures (row_numbers c.row_of-r.result) c.row_of-r.ensures.row _ c.length_under-long.ensures _ c.moved_operand-x.ensures _ c.moved_operand-y.ensures _ c.requires.block_fits.0 _ c.moved_clock-c.ensures) _ _ _ _ c.loop-i.invariant c.loop-i-test.true c.requires.block_fits.2 _ c.block_node.ensures _ c.put_node.ensures

pub overflow_add-result : goal.overflow_add-result
overflow_add-result c =
    let n = long_is _ _ _ c.requires.numbered.0 _ c.requires.numbered.1 _ c.node_at-v.ensures (row_numbers c.row_of-r.result) c.row_of-r.ensures.row _ c.length_under-long.ensures in
    let f = c.requires.block_fits.1 in
    omega arith

pub returns : goal.returns
returns c =
    let b = blocked _ _ _ c.requires.numbered.0 _ c.requires.numbered.1 _ c.node_at-v.ensures (row_numbers c.row_of-r.result) c.row_of-r.ensures.row _ c.length_under-long.ensures _ c.moved_operand-x.ensures _ c.moved_operand-y.ensures _ c.requires.block_fits.0 _ c.moved_clock-c.ensures in
    record { value = ap (λ (n : ℕ). c.args.at + n) b.counted; out_after = block_put b _ _ _ _ c.loop-i.invariant c.loop-i-test.false }
