-- The words of a sequence's row, and a place of a word that is made of a test. Assumes nothing.
use mathlib.Core.Path.{◌≡◌, ◌∙◌, ap}
use mathlib.Core.Bool.{Bool, false, ◌&&◌, and-false}
use mathlib.Core.List.{List}
use Prim.Native.Nat.{ℕ, ◌<◌}
use lib.Dec.{ltb}
use borrow.Author.Tests.{lt-ltb}
use Rattle.telling.specs.Tells.{Tells}
use Rattle.telling.proofs.Telling.{is_map, is_and, is_lt, is_as}
use Rattle.positions.specs.Member.{has}
use Rattle.positions.proofs.Laws.{has-collect}
use Rattle.nodes.specs.declared.SequenceOp.{SequenceOp}
use Rattle.cells.specs.Shares.{share}
use Rattle.cells.specs.Stored.{set64}
use Rattle.sequences.specs.Made.{sequence_word}

-- `row` is the row of a sequence on n letters, made of the rows R below. A record, so that all is read off a proof's type
pub record SequenceLaid (n : ℕ) (R : List ℕ) (op : SequenceOp) (row : ℕ → ℕ) : Type 0 where
  pub word : (i : ℕ) → i < share → row i ≡ sequence_word R n op i

-- what the test tells holds of places below 64 alone
pub in_word : (f : ℕ → Bool) (j : ℕ) {P : Type 0} → (P → j < 64) → Tells (f j) P → Tells (has (set64 f) j) P
in_word f j g h = is_as (has-collect 64 f j) (is_map (is_and (is_lt j 64) h) (λ q. q.1) (λ p. (g p, p)))

pub off_word : (f : ℕ → Bool) (j : ℕ) → f j ≡ false → has (set64 f) j ≡ false
off_word f j e = has-collect 64 f j ∙ rw e (and-false (ltb j 64))

-- a set holds the places below 64 that pass
pub has_word : (f : ℕ → Bool) (k : ℕ) → k < 64 → has (set64 f) k ≡ f k
has_word f k h = has-collect 64 f k ∙ ap (λ b. b && f k) (lt-ltb k 64 h)
