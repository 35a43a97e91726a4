-- The array has the sets of the nodes below k. Assumes nothing.
use Rattle.tested.proofs.Setting.{Kept}
use Rattle.tested.proofs.tested.Given as goal

abbrev pub invariant-loop-k : goal.invariant-loop-k
invariant-loop-k l = Kept l.b l.clocks l.numbers l.rows l.span.n l.k l.sets
