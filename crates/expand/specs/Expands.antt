-- Document 02, request 4: what the expander answers and leaves, of the table s and the bytes d lent the answer r and the bytes d' left. Assumes nothing.
use Rattle.std.specs.Prelude.{◌≡◌, List, [], ◌∷◌, ◌++◌, ℕ, ◌<◌, length, drop}
use Rattle.refusal.specs.First.{Refusal, when, Answers}
use Rattle.nodes.specs.Operators.{newest}
use Rattle.table.specs.Check.{refusals_to}
use Rattle.expansion.specs.Expansion.{expansion, expanded_count, too_large}
use Rattle.expand.specs.declared.Expansion.{Expansion}

-- 1 to 9, 13; 15, output too small: `room` bytes are lent
unfoldable pub expand_refusals : List ℕ → ℕ → List Refusal
expand_refusals s room = refusals_to newest s ++ (too_large s ∷ when 15 (room < length (expansion s)) ∷ [])

-- the statement of expanding. No second answer and no second output fit (`proofs/Theorems.antt`, `expand_unique`)
pub record Expands (s d : List ℕ) (r : Expansion) (d' : List ℕ) : Type 0 where
  -- the first refusal that applies
  pub answer : Answers (expand_refusals s (length d)) r.verdict
  -- writes the expansion and reports its count; later bytes stay
  pub accepted : r.verdict.number ≡ 0 → (r.count ≡ expanded_count s) × (d' ≡ expansion s ++ drop (length (expansion s)) d)
  -- answers count 0 and changes nothing lent
  pub refused : ¬ (r.verdict.number ≡ 0) → (r.count ≡ 0) × (d' ≡ d)
