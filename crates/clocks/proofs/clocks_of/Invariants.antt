-- The nodes from p on have handed their clocks to their parts. Assumes nothing.
use Rattle.clocks.proofs.HandingDown.{Handed}
use Rattle.clocks.proofs.clocks_of.Given as goal

abbrev pub invariant-loop-p : goal.invariant-loop-p
invariant-loop-p l = Handed l.b l.p l.clocks
