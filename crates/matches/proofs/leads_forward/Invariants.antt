-- What the words below i have below their starts is in the set.
use Rattle.cells.specs.Shares.{bit_in}
use Rattle.matches.proofs.Covering.{Behind}
use Rattle.matches.proofs.leads_forward.Given as goal

abbrev pub invariant-loop-i : goal.invariant-loop-i
invariant-loop-i l = Behind (bit_in l.rows l.a) l.i l.back.bits
