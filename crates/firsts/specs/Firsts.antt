-- What is left when the booleans of a table are written. Assumes nothing.
use Rattle.std.specs.Prelude.{◌≡◌, List, ℕ}
use Rattle.encoding.specs.Encoding.{put_nodes}
use Rattle.expansion.specs.Booleans.{number_of, booleans_below}
use Rattle.expansion.specs.Formed.{NumberedBelow}

-- all booleans of the n nodes are written from node 0 on, and each node has its number; r is how many there are
pub record FirstsPut (s : List ℕ) (n : ℕ) (d : List ℕ) (r : ℕ) (numbers d' : List ℕ) : Type 0 where
  pub count : r ≡ number_of s n
  pub numbered : NumberedBelow s n numbers
  pub bytes : d' ≡ put_nodes d 0 (booleans_below s n)
