-- The first i nodes of the block are put. Assumes nothing.
use Rattle.std.proofs.Common.{◌≡◌, take}
use Rattle.clocks.specs.Computed.{clock_by}
use Rattle.encoding.specs.Encoding.{put_nodes}
use Rattle.writing.specs.Tables.{block_of}
use Rattle.writing.proofs.put_block.Given as goal

abbrev pub invariant-loop-i : goal.invariant-loop-i
invariant-loop-i l = l.out ≡ put_nodes l.fn.out l.fn.at (take l.i (block_of l.b (clock_by l.clocks) l.fn.k))
