-- Document 02, "Rising and falling signals": the atoms of a table, and the letter that they read, a pair of samples, fixed before any suffix is taken.
-- Assumes nothing.
use Rattle.std.specs.Prelude.{Bool, not, ◌&&◌, List, [], ◌∷◌, ℕ}
use Rattle.meaning.specs.Signal.{signal}

-- a signal, a signal risen, a signal fallen, each by the signal's number
pub data Atom : Type 0 where
  high risen fallen : ℕ → Atom

-- a letter: the sample before, and the sample
pub record Pair : Type 0 where
  pub before : ℕ
  pub sample : ℕ

-- risen: 1 in the sample and 0 in the sample before; fallen: 0 in the sample and 1 in the sample before
abbrev pub reading : Atom → Pair → Bool
reading (high x) p = signal x p.sample
reading (risen x) p = signal x p.sample && not (signal x p.before)
reading (fallen x) p = not (signal x p.sample) && signal x p.before

-- the pairs of samples that come after the sample `before`
unfoldable pub pairs_after : ℕ → List ℕ → List Pair
pairs_after before [] = []
pairs_after before (x ∷ xs) = record { before = before; sample = x } ∷ pairs_after x xs

-- the pairs of a record: the sample before the first is all zero
abbrev pub pairs : List ℕ → List Pair
pairs xs = pairs_after 0 xs
