-- What the code asks of a table that it expands, and of the array in which it keeps the numbers. Assumes nothing.
use Rattle.std.specs.Prelude.{◌≡◌, List, ℕ, ◌+◌, ◌*◌, ◌<◌, ◌≤◌, length, get_or}
use Rattle.nodes.specs.Nodes.{WellFormed}
use Rattle.expansion.specs.Booleans.{number_of}

-- the n nodes of s are in its bytes and well formed
pub record Formed (s : List ℕ) (n : ℕ) : Type 0 where
  pub few : n ≤ 120
  pub long : 4 * n + 6 ≤ length s
  pub fit : (k : ℕ) → k < n → WellFormed s k

-- the numbers of the nodes below k are there
pub record NumberedBelow (s : List ℕ) (k : ℕ) (numbers : List ℕ) : Type 0 where
  pub size : length numbers ≡ 121
  pub right : (j : ℕ) → j < k → get_or numbers j 0 ≡ number_of s j
