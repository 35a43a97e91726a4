-- The nodes below k have their numbers, and it is known where the block of k begins. Assumes nothing.
use Rattle.numbers.proofs.Counting.{Begun}
use Rattle.numbers.proofs.numbers_of.Given as goal

abbrev pub invariant-loop-k : goal.invariant-loop-k
invariant-loop-k l = Begun l.b l.clocks l.k l.numbers l.first l.later
