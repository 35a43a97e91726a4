-- The ends from the places that are taken out are in the set, and those places lie below what is left, which falls as a number.
use Rattle.std.proofs.Common.{get_or}
use Rattle.positions.specs.Member.{has}
use Rattle.matches.proofs.Covering.{Going}
use Rattle.matches.proofs.ends_along.Given as goal

abbrev pub invariant-loop-left : goal.invariant-loop-left
invariant-loop-left l = Going (has l.initial.left.bits) (λ m j. has (get_or l.words m 0) j) l.fn.span.n l.out.bits l.left.bits

abbrev pub decreases-loop-left : goal.decreases-loop-left
decreases-loop-left l = l.left.bits
