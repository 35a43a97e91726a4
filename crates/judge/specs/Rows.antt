-- Document 01, "Rows left in the workspace": the rows of a table, over the pairs of the record's samples. What a row says stands in `rowmeaning`; a rewritten
-- table has no clock. Assumes nothing.
use Rattle.std.specs.Prelude.{◌≡◌, List, ℕ, ◌*◌, ◌<◌, ◌≤◌, length, get_or}
use Rattle.refusal.specs.Heading.{count}
use Rattle.meaning.specs.Syntax.{Bexp, Seq, Prop, free}
use Rattle.meaning.specs.Pairs.{Atom, reading, pairs}
use Rattle.nodes.specs.Nodes.{node_at}
use Rattle.table.specs.Trees.{BooleanAt, SequenceAt, PropertyAt}
use Rattle.cells.specs.Shares.{share, word_in}
use Rattle.rowmeaning.specs.Rows.{BooleanRow, SequenceRow, PropertyRow}

-- d' is the workspace d with the rows of t's nodes on the samples xs: node k owns 65 words from word 65k, and the words from 65m on stay
pub record Filled (t xs d d' : List ℕ) : Type 0 where
  pub long : length d' ≡ length d
  pub booleans : (k : ℕ) → k < count t → (b : Bexp Atom) → BooleanAt (node_at t) k b → BooleanRow reading (pairs xs) (word_in d' k) b
  pub sequences : (k : ℕ) → k < count t → (r : Seq Atom) → SequenceAt (node_at t) k r → SequenceRow reading (pairs xs) free (word_in d' k) r
  pub properties : (k : ℕ) → k < count t → (P : Prop Atom) → PropertyAt (node_at t) k P → PropertyRow reading (pairs xs) free (word_in d' k) P
  pub stay : (j : ℕ) → share * count t ≤ j → get_or d' j 0 ≡ get_or d j 0
