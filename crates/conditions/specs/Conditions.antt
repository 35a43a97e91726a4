-- The sets of a table's booleans, filled upwards: what the code is held to. Assumes nothing.
use Rattle.std.specs.Prelude.{◌≡◌, List, ℕ, ◌+◌, ◌*◌, ◌<◌, ◌≤◌, length, get_or}
use Rattle.positions.specs.Member.{has}
use Rattle.refusal.specs.Heading.{version, count}
use Rattle.meaning.specs.Syntax.{Bexp}
use Rattle.meaning.specs.Pairs.{Atom, reading, pairs}
use Rattle.nodes.specs.Operators.{base}
use Rattle.nodes.specs.Nodes.{node_at, WellFormed}
use Rattle.table.specs.Trees.{BooleanAt}
use Rattle.cells.specs.Shares.{longest}
use Rattle.rowmeaning.specs.Sets.{Valued}

-- a table of base operators and a record that were not refused
pub record Shaped (s xs : List ℕ) : Type 0 where
  pub old : version s ≤ base
  pub few : count s ≤ 120
  pub long : length s ≡ 4 * count s + 6
  pub fit : (k : ℕ) → k < count s → WellFormed s k
  pub short : length xs ≤ longest

-- x has the samples that satisfy node k, where that is a boolean
pub record Conditioned (s xs : List ℕ) (k x : ℕ) : Type 0 where
  pub means : (b : Bexp Atom) → BooleanAt (node_at s) k b → Valued reading (pairs xs) b (has x)

-- the sets of the nodes below k are there
pub record Below (s xs : List ℕ) (k : ℕ) (sets : List ℕ) : Type 0 where
  pub room : length sets ≡ 120
  pub below : (j : ℕ) → j < k → Conditioned s xs j (get_or sets j 0)

-- those of all nodes
abbrev pub Conditions : List ℕ → List ℕ → List ℕ → Type 0
Conditions s xs sets = Below s xs (count s) sets
