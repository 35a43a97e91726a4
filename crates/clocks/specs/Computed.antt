-- What the code asks and keeps: an accepted table, and its clocks as an array. Assumes nothing.
use Rattle.std.specs.Prelude.{◌≡◌, cond, List, ℕ, ◌+◌, ◌*◌, ◌≤◌, ltb, length, get_or, Option, Some, None}
use Rattle.refusal.specs.Heading.{count}
use Rattle.refusal.specs.Computed.{accepted}
use Rattle.nodes.specs.Operators.{sequence}
use Rattle.nodes.specs.NodeClock.{Ref, free_r, on_r}
use Rattle.nodes.specs.Computed.{named_by}
use Rattle.table.specs.Check.{Checks}
use Rattle.clocks.specs.Clocks.{Clocks}

-- s is a table that `check` accepts; so it has at most 120 nodes, and the bytes of each
pub record AcceptedTable (s : List ℕ) : Type 0 where
  pub checks : Checks s accepted
  pub few : count s ≤ 120
  pub long : 4 * count s + 6 ≤ length s

-- a clock as the code has it: the number of its condition, if any
abbrev pub ref_of : Option ℕ → Ref
ref_of None = free_r
ref_of (Some c) = on_r c

-- the clocks that an array of 120 clocks and one more stands for
unfoldable pub clock_by : List (Option ℕ) → ℕ → Ref
clock_by clocks k = cond (ltb k 120) (ref_of (get_or clocks k None)) free_r

-- where the clock of the operand v is kept: past all nodes where it is no sequence and no property
unfoldable pub part_of : ℕ → ℕ → ℕ
part_of sort v = cond (ltb sort sequence) 120 (named_by v)

-- an accepted table, and an array that has the clocks of its nodes
pub record Timed (s : List ℕ) (clocks : List (Option ℕ)) : Type 0 where
  pub table : AcceptedTable s
  pub size : length clocks ≡ 121
  pub right : Clocks s (clock_by clocks)
