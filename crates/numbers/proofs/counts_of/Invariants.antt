-- The counts are those of the nodes below k. Assumes nothing.
use Rattle.numbers.proofs.Counting.{Summed}
use Rattle.numbers.proofs.counts_of.Given as goal

abbrev pub invariant-loop-k : goal.invariant-loop-k
invariant-loop-k l = Summed l.b l.clocks l.k l.booleans l.all
