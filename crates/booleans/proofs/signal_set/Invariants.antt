-- The samples below k that have the signal are in the set.
use Rattle.std.proofs.Common.{ltb, ◌&&◌, get_or}
use Rattle.positions.specs.Member.{has, Is}
use Rattle.booleans.proofs.signal_set.Given as goal

abbrev pub invariant-loop-k : goal.invariant-loop-k
invariant-loop-k l = Is l.out.bits (λ j. ltb j l.k && has (get_or l.samples j 0) l.s)
