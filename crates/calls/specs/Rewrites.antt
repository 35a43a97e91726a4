-- What rewriting answers and leaves: of the table s and the bytes d lent, the answer r and the bytes d' left. A version 3 table is expanded first, and the
-- new table is then one of version 2. Assumes nothing.
use Rattle.std.specs.Prelude.{◌≡◌, List, ℕ, length}
use Rattle.refusal.specs.First.{Answers}
use Rattle.expansion.specs.Expansion.{expansion}
use Rattle.rewrite.specs.declared.Rewriting.{Rewriting}
use Rattle.rewrite.specs.Rewrites.{Rewritten}
use Rattle.calls.specs.Refusals.{rewrite_refusals}

-- the statement of rewriting. No second answer and no second output fit (`proofs/Unique.antt`, `rewrite_unique`)
pub record Rewrites (s d : List ℕ) (r : Rewriting) (d' : List ℕ) : Type 0 where
  -- the first refusal that applies
  pub answer : Answers (rewrite_refusals s (length d)) r.verdict
  -- writes a whole table and reports m; later bytes stay
  pub accepted : r.verdict.number ≡ 0 → Rewritten (expansion s) d r.count d'
  -- answers count 0 and changes nothing lent
  pub refused : ¬ (r.verdict.number ≡ 0) → (r.count ≡ 0) × (d' ≡ d)
