-- What reading comes to, as the code answers it: what the code is held to. Assumes nothing.
use Rattle.std.specs.Prelude.{ℕ, Result, Ok, Err}
use Rattle.refusal.specs.declared.Reason.{Reason}
use Rattle.refusal.specs.Computed.{accepted}
use Rattle.refusal.specs.Reasons.{verdict_of}
use Rattle.record.specs.declared.Reading.{Reading}

-- an acceptance with the count of samples; a refusal with count 0
abbrev pub reading_by : Result ℕ Reason → Reading
reading_by (Ok n) = record { verdict = accepted; count = n }
reading_by (Err reason) = record { verdict = verdict_of reason; count = 0 }
