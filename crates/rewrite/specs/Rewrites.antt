-- Document 01, "Numbers of refusal" and "Rewriting, node by node": what rewriting answers and leaves. Assumes nothing.
use Rattle.std.specs.Prelude.{◌≡◌, List, [], ◌∷◌, ◌++◌, ℕ, ◌+◌, ◌*◌, ◌<◌, length, drop}
use Rattle.refusal.specs.First.{Refusal, when, Answers}
use Rattle.nodes.specs.NodeClock.{Ref}
use Rattle.table.specs.Check as Check
use Rattle.clocks.specs.Clocks.{Clocks}
use Rattle.numbers.specs.Numbers.{new_count}
use Rattle.writing.specs.Tables.{new_table}
use Rattle.rewrite.specs.declared.Rewriting.{Rewriting}

-- s has clocks, and P holds of them
abbrev pub OfClocks : List ℕ → ((ℕ → Ref) → Type 0) → Type 0
OfClocks s P = (clock : ℕ → Ref) × Clocks s clock × P clock

-- rewritten count over 120
abbrev pub too_many : List ℕ → Refusal
too_many s = when 13 (OfClocks s (λ clock. 120 < new_count s clock))

-- output too small: `room` bytes are lent
abbrev pub no_room : List ℕ → ℕ → Refusal
no_room s room = when 15 (OfClocks s (λ clock. room < 6 + 4 * new_count s clock))

-- 1 to 9, 13, 15
unfoldable pub refusals : List ℕ → ℕ → List Refusal
refusals s room = Check.refusals s ++ (too_many s ∷ no_room s room ∷ [])

-- the new table of s, of m nodes, and then the later bytes of d
abbrev pub Rewritten : List ℕ → List ℕ → ℕ → List ℕ → Type 0
Rewritten s d m d' = OfClocks s (λ clock. (m ≡ new_count s clock) × (d' ≡ new_table s clock ++ drop (6 + 4 * new_count s clock) d))

-- the statement of rewriting: of the table s and the bytes d lent, the answer r and the bytes d' left
pub record Rewrites (s d : List ℕ) (r : Rewriting) (d' : List ℕ) : Type 0 where
  -- the first refusal that applies
  pub answer : Answers (refusals s (length d)) r.verdict
  -- writes a whole table and reports m; later bytes stay
  pub accepted : r.verdict.number ≡ 0 → Rewritten s d r.count d'
  -- answers count 0 and changes nothing lent
  pub refused : ¬ (r.verdict.number ≡ 0) → (r.count ≡ 0) × (d' ≡ d)
