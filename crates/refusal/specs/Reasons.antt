-- The number and the node that stand for each reason to refuse, in the order of the page's table of refusals. Assumes nothing.
use Rattle.std.specs.Prelude.{Result, Ok, Err}
use Rattle.refusal.specs.declared.Verdict.{Verdict}
use Rattle.refusal.specs.declared.Reason.{Reason}
use Rattle.refusal.specs.declared.Reason.TheVariants.{FewBytes, WrongMark, UnknownVersion, WrongCount, WrongLength, NotWellFormed, Astray, BooleanRoot, Hollow, ManySamples, SmallWorkspace, WrongRoot, ManyNodes, LateStart, SmallOutput}
use Rattle.refusal.specs.Computed.{refused, accepted}

abbrev pub verdict_of : Reason → Verdict
verdict_of FewBytes = refused 1 0
verdict_of WrongMark = refused 2 0
verdict_of UnknownVersion = refused 3 0
verdict_of WrongCount = refused 4 0
verdict_of WrongLength = refused 5 0
verdict_of (NotWellFormed k) = refused 6 k
verdict_of (Astray k) = refused 7 k
verdict_of BooleanRoot = refused 8 0
verdict_of (Hollow k) = refused 9 k
verdict_of ManySamples = refused 10 0
verdict_of SmallWorkspace = refused 11 0
verdict_of WrongRoot = refused 12 0
verdict_of ManyNodes = refused 13 0
verdict_of LateStart = refused 14 0
verdict_of SmallOutput = refused 15 0

-- an answer without a reason is an acceptance
abbrev pub verdict_by : {A : Type 0} → Result A Reason → Verdict
verdict_by (Ok a) = accepted
verdict_by (Err reason) = verdict_of reason
