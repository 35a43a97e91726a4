-- What the base calls are given for a table of any version: an older table as it is, and the expansion of one that is accepted and not too large; and what
-- stops before that. Assumes nothing.
use Rattle.std.specs.Prelude.{◌≡◌, List, ℕ, ◌≤◌, length}
use Rattle.refusal.specs.declared.Reason.{Reason}
use Rattle.refusal.specs.First.{Answers}
use Rattle.refusal.specs.Heading.{version}
use Rattle.refusal.specs.Computed.{accepted}
use Rattle.refusal.specs.Reasons.{verdict_of}
use Rattle.nodes.specs.Operators.{newest}
use Rattle.table.specs.Check.{ChecksTo}
use Rattle.expansion.specs.Expansion.{expansion, expanded_count}
use Rattle.expand.specs.Opens.{open_refusals}

-- a table that is as long as a table is, and not of version 3
abbrev pub Older : List ℕ → Type 0
Older s = 6 ≤ length s → ¬ (version s ≡ 3)

-- an accepted table whose expansion is not too large
pub record Opened (s : List ℕ) : Type 0 where
  pub checks : ChecksTo newest s accepted
  pub few : expanded_count s ≤ 120

-- t is what the base calls are given for s
pub data Taken (s : List ℕ) : List ℕ → Type 0 where
  as_it_is : Older s → Taken s s
  expanded : Opened s → Taken s (expansion s)

-- opening a version 3 table, whose root must not have the sort `wrong`, answers a refusal
abbrev pub Stopped : List ℕ → ℕ → Reason → Type 0
Stopped s wrong reason = Answers (open_refusals s wrong) (verdict_of reason)
