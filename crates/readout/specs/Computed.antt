-- What the code is held to. Assumes nothing.
use Rattle.std.specs.Prelude.{List, ℕ}
use Rattle.meaning.specs.Levels.{level_of}
use Rattle.cells.specs.Shares.{bit_in}

-- the level of a property's row: strong, neutral and weak at place 0
unfoldable pub level_in : List ℕ → ℕ → ℕ
level_in ws root = level_of (bit_in ws root 2 0) (bit_in ws root 0 0) (bit_in ws root 1 0)
