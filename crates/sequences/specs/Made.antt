-- A sequence's row, and the row while it is made. Assumes nothing.
use Rattle.std.specs.Prelude.{length, get_or, ◌≤◌, cond, List, ℕ, ◌^◌, ◌<◌, eqb, leb}
use Rattle.positions.specs.Member.{Is}
use Rattle.nodes.specs.declared.SequenceOp.{SequenceOp}
use Rattle.cells.specs.Shares.{share, top_word}
use Rattle.cells.specs.Bits.{sequence_bit, top_bit}
use Rattle.cells.specs.Stored.{set64}

-- word i of a sequence's row; all other bits are 0
abbrev pub sequence_word : List ℕ → ℕ → SequenceOp → ℕ → ℕ
sequence_word rows n op i = cond (leb i n) (set64 (sequence_bit rows n op i)) (cond (eqb i top_word) (set64 (top_bit rows n op)) 0)

-- a word that has the ends of a sequence's matches from start m
abbrev pub EndsOf : List ℕ → ℕ → SequenceOp → ℕ → ℕ → Type 0
EndsOf rows n op m x = (x < 2 ^ 64) × Is x (sequence_bit rows n op m)

-- what is known where start i is asked: the words of the starts after it are made
pub record Above (rows : List ℕ) (n : ℕ) (op : SequenceOp) (i : ℕ) (own : List ℕ) : Type 0 where
  pub upto : i ≤ n
  pub long : share ≤ length own
  pub there : (m : ℕ) → i < m → m ≤ n → Is (get_or own m 0) (sequence_bit rows n op m)
