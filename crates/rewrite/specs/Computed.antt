-- What rewriting comes to, as the code answers it, and what it hands on of each node. Assumes nothing.
use Rattle.std.specs.Prelude.{◌≡◌, List, ℕ, Option, Result, Ok, Err}
use Rattle.refusal.specs.declared.Verdict.{Verdict}
use Rattle.refusal.specs.declared.Reason.{Reason}
use Rattle.refusal.specs.Computed.{accepted}
use Rattle.refusal.specs.Reasons.{verdict_of}
use Rattle.numbers.specs.Computed.{Numbered}
use Rattle.rewrite.specs.declared.Rewriting.{Rewriting}
use Rattle.rewrite.specs.Rewrites.{Rewrites}

-- an acceptance with the count of new nodes; a refusal with count 0
abbrev pub rewriting_by : Result ℕ Reason → Rewriting
rewriting_by (Ok m) = record { verdict = accepted; count = m }
rewriting_by (Err reason) = record { verdict = verdict_of reason; count = 0 }

-- what rewriting answers, with what it leaves of each node: its clock and its new number
pub record Renumbered : Type 0 where
  pub verdict : Verdict
  pub count : ℕ
  pub clocks : List (Option ℕ)
  pub numbers : List ℕ

abbrev pub renumbered : Rewriting → List (Option ℕ) → List ℕ → Renumbered
renumbered r clocks numbers = record { verdict = r.verdict; count = r.count; clocks = clocks; numbers = numbers }

abbrev pub rewriting_of : Renumbered → Rewriting
rewriting_of r = record { verdict = r.verdict; count = r.count }

-- rewriting, and where it accepts the clock and the new number of each node
pub record Renumbers (s d : List ℕ) (r : Renumbered) (d' : List ℕ) : Type 0 where
  pub rewrites : Rewrites s d (rewriting_of r) d'
  pub numbered : r.verdict.number ≡ 0 → Numbered s r.clocks r.numbers
