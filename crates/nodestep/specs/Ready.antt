-- When the nodes of a table can be expanded: all are well formed, and an array has their numbers. Assumes nothing.
use Rattle.std.specs.Prelude.{List, ℕ}
use Rattle.expansion.specs.Formed.{Formed, NumberedBelow}

pub record Ready (s : List ℕ) (n : ℕ) (numbers : List ℕ) : Type 0 where
  pub formed : Formed s n
  pub numbered : NumberedBelow s n numbers
