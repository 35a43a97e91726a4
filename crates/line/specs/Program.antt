-- Document 01, "Program": of the bytes of standard input, the line that is answered. Assumes nothing.
use Rattle.std.specs.Prelude.{◌≡◌, Bool, List, ◌∷◌, ◌++◌, ℕ, ◌+◌, ◌*◌, length, take, drop, replicate}
use Rattle.telling.specs.Tells.{Tells}
use Rattle.refusal.specs.declared.Verdict.{Verdict}
use Rattle.refusal.specs.First.{Refusal, Answers}
use Rattle.refusal.specs.Heading.{count}
use Rattle.meaning.specs.Syntax.{Prop}
use Rattle.meaning.specs.Meaning.{Level}
use Rattle.meaning.specs.Tested.{Tests}
use Rattle.meaning.specs.Pairs.{Atom, reading, pairs}
use Rattle.nodes.specs.Operators.{sequence, newest}
use Rattle.table.specs.Trees.{RootP}
use Rattle.table.specs.Check.{refusals_to}
use Rattle.expansion.specs.Expansion.{expansion, too_large}
use Rattle.rewrite.specs.Rewrites.{too_many}
use Rattle.record.specs.Record as Record
use Rattle.cells.specs.Shares.{longest}
use Rattle.judgement.specs.declared.Judgement.{Judgement}
use Rattle.judgement.specs.Refusals.{wrong_root}
use Rattle.calls.specs.Judges.{Judges}
use Rattle.linetext.specs.Text.{level_line, refused_line}

-- the table part is 6 + 4·count bytes, or all there is
unfoldable pub table_part : List ℕ → List ℕ
table_part s = take (6 + 4 * count s) s

-- and then a record
unfoldable pub record_part : List ℕ → List ℕ
record_part s = drop (6 + 4 * count s) s

-- its samples
abbrev pub samples_of : List ℕ → List ℕ
samples_of s = Record.samples (record_part s) (count (record_part s))

-- table refusals (with 12 and 13) come before the record's, which is read into as many words as it may have samples
unfoldable pub refusals : List ℕ → List Refusal
refusals s =
    refusals_to newest (table_part s)
    ++ (wrong_root (table_part s) sequence ∷ too_large (table_part s) ∷ too_many (expansion (table_part s)) ∷ Record.refusals (record_part s) longest)

-- a workspace of 7,800 words, cleared
abbrev pub cleared : List ℕ
cleared = replicate 7800 0

-- the judge accepts the table and the samples, and the line has its level and whether it was tested
pub record LevelLine (s line : List ℕ) : Type 0 where
  pub judgement : Judgement
  pub workspace : List ℕ
  pub judged : Judges (table_part s) (samples_of s) cleared judgement workspace
  pub accepts : judgement.verdict.number ≡ 0
  pub is : line ≡ level_line judgement.level.number judgement.tested

-- the line for the input s. No second line fits (`proofs/Theorems.antt`, `line_unique`)
pub record LineFor (s line : List ℕ) : Type 0 where
  pub verdict : Verdict
  -- the first refusal that applies
  pub answer : Answers (refusals s) verdict
  pub accepted : verdict.number ≡ 0 → LevelLine s line
  pub refused : ¬ (verdict.number ≡ 0) → line ≡ refused_line verdict

-- the statement of answering: of the input s and the bytes d lent, how many bytes are answered and the bytes d' left: the line, and then the later bytes of d
pub record Says (s d : List ℕ) (r : ℕ) (d' : List ℕ) : Type 0 where
  pub line : List ℕ
  pub right : LineFor s line
  pub count : r ≡ length line
  pub left : d' ≡ line ++ drop (length line) d

-- ---- what the theorem on an accepted input speaks of

-- the level that the published meaning gives the property at the root of the table part on the pairs of the record's samples, and whether they test it
pub record Told (s line : List ℕ) : Type 0 where
  pub property : Prop Atom
  pub root : RootP (table_part s) property
  pub number : ℕ
  pub level : Level reading property (pairs (samples_of s)) number
  pub tests : Bool
  pub tested : Tells tests (Tests reading (pairs (samples_of s)) property)
  pub is : line ≡ level_line number tests
