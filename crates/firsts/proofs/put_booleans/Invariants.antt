-- What `firsts::put_booleans` keeps: the nodes below k have their numbers, and what they give is put. Assumes nothing.
use Rattle.firsts.specs.Firsts.{FirstsPut}
use Rattle.firsts.proofs.put_booleans.Given as goal

abbrev pub invariant-loop-k : goal.invariant-loop-k
invariant-loop-k l = FirstsPut l.b l.k l.fn.out l.at l.numbers l.out
