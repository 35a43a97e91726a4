-- The nodes below k have given theirs to the pass. Assumes nothing.
use Rattle.writing.proofs.Turns.{Passed}
use Rattle.writing.proofs.put_pass.Given as goal

abbrev pub invariant-loop-k : goal.invariant-loop-k
invariant-loop-k l = Passed l.b l.clocks l.booleans l.fn.out l.fn.from l.k l.at l.out
