-- The sets of the nodes below k are there. Assumes nothing.
use Rattle.conditions.specs.Conditions.{Below}
use Rattle.conditions.proofs.conditions.Given as goal

abbrev pub invariant-loop-k : goal.invariant-loop-k
invariant-loop-k l = Below l.table l.samples l.k l.sets
