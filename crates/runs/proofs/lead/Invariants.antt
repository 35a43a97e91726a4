-- After k turns the sets tell of runs of length 2 ^ k.
use Rattle.std.proofs.Common.{◌^◌}
use Rattle.runs.proofs.Leading.{LedBy}
use Rattle.runs.proofs.lead.Given as goal

abbrev pub invariant-loop-k : goal.invariant-loop-k
invariant-loop-k l = LedBy l.fn.l (2 ^ l.k) l.a
