-- Document 01, "Rows left in the workspace". `row` gives the 65 words that a node owns, n is the number of letters, and κ is the node's clock: none in a
-- rewritten table. A table's rows are those over the pairs of the record's samples. Assumes nothing.
use Rattle.std.specs.Prelude.{◌≡◌, Bool, false, List, ℕ, ◌<◌, ◌≤◌, length}
use Rattle.telling.specs.Tells.{Tells}
use Rattle.positions.specs.Member.{has}
use Rattle.meaning.specs.Syntax.{Bexp, Seq, Prop, Clock}
use Rattle.meaning.specs.Words.{word, Tail, none, tops}
use Rattle.meaning.specs.Meaning.{satisfies, Match, Sat}
use Rattle.cells.specs.Shares.{share, top_word, word_of}

-- on the letters xs, of which `reads` says what an atom reads
module _ {A S : Type 0} (reads : A → S → Bool) (xs : List S) where
  -- word 0 has bit i where letter i satisfies it. All other bits are 0
  pub record BooleanRow (row : ℕ → ℕ) (b : Bexp A) : Type 0 where
    pub bits : (i : ℕ) → i < length xs → has (row 0) i ≡ satisfies reads (word xs none i) b
    pub past : (i : ℕ) → length xs ≤ i → has (row 0) i ≡ false
    pub zero : (w : ℕ) → 0 < w → w < share → row w ≡ 0

  module _ (κ : Clock A) where
    -- letters i to j - 1 match
    abbrev pub Inside : Seq A → ℕ → ℕ → Type 0
    Inside r i j = Match reads κ r (word xs none) i j

    -- the letters from i on, followed by one or more ⊤, match
    abbrev pub Onward : Seq A → ℕ → Type 0
    Onward r i = (k : ℕ) × (length xs < k) × Match reads κ r (word xs tops) i k

    -- word i, for i from 0 to n, has bit j where letters i to j - 1 match; word 64 has bit i where letters from i on, followed by one or more ⊤, match. All
    -- other bits are 0
    pub record SequenceRow (row : ℕ → ℕ) (r : Seq A) : Type 0 where
      pub ends : (i : ℕ) → i ≤ length xs → (j : ℕ) → Tells (has (row i) j) (Inside r i j)
      pub on : (i : ℕ) → i ≤ length xs → Tells (has (row top_word) i) (Onward r i)
      pub past : (i : ℕ) → length xs < i → has (row top_word) i ≡ false
      pub zero : (w : ℕ) → length xs < w → w < top_word → row w ≡ 0

    -- words 0, 1, 2 hold neutral, weak, strong for each suffix 0 to n. All other bits are 0
    pub record PropertyRow (row : ℕ → ℕ) (P : Prop A) : Type 0 where
      pub answers : (t : Tail) (i : ℕ) → i ≤ length xs → Tells (has (row (word_of t)) i) (Sat reads κ P (word xs t) i)
      pub past : (t : Tail) (i : ℕ) → length xs < i → has (row (word_of t)) i ≡ false
      pub zero : (w : ℕ) → 2 < w → w < share → row w ≡ 0
