-- What the code answers: the counts of new nodes, and an array of new numbers. Assumes nothing.
use Rattle.std.specs.Prelude.{◌≡◌, List, ℕ, ◌<◌, length, get_or, Option}
use Rattle.refusal.specs.Heading.{count}
use Rattle.clocks.specs.Computed.{clock_by, Timed}
use Rattle.numbers.specs.declared.Counts.{Counts}
use Rattle.numbers.specs.Numbers.{is_boolean, new_count, taken, number_of}

-- the counts of the new nodes: those of the booleans' blocks, and all
pub record CountsOf (s : List ℕ) (clocks : List (Option ℕ)) (r : Counts) : Type 0 where
  pub booleans : r.booleans ≡ taken s (clock_by clocks) (is_boolean s) (count s)
  pub all : r.all ≡ new_count s (clock_by clocks)

-- a table with its clocks, and an array that has the new number of each node
pub record Numbered (s : List ℕ) (clocks : List (Option ℕ)) (numbers : List ℕ) : Type 0 where
  pub timed : Timed s clocks
  pub size : length numbers ≡ 121
  pub right : (k : ℕ) → k < count s → get_or numbers k 0 ≡ number_of s (clock_by clocks) k
