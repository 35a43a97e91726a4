-- What can stand at a position, told apart for the proofs. Assumes nothing.
use mathlib.Core.Bool.{Bool, true, false}
use Rattle.meaning.specs.Words.{Cell, real, top, bot, end}

module _ {S : Type 0} where
  abbrev pub is_top : Cell S → Bool
  is_top (real s) = false
  is_top top = true
  is_top bot = false
  is_top end = false

  -- what can satisfy a boolean
  abbrev pub alive : Cell S → Bool
  alive (real s) = true
  alive top = true
  alive bot = false
  alive end = false

-- what stands at a position, with other samples
abbrev pub map_cell : {U S : Type 0} → (U → S) → Cell U → Cell S
map_cell g (real u) = real (g u)
map_cell g top = top
map_cell g bot = bot
map_cell g end = end
