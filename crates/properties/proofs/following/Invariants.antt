-- The starts below i are asked, for each of the three.
use Rattle.properties.proofs.Implying.{Asked}
use Rattle.properties.proofs.following.Given as goal

abbrev pub invariant-loop-i : goal.invariant-loop-i
invariant-loop-i l = Asked l.rows l.a l.i-counter l.p l.out
