-- What the plain judge answers: of the table s and the samples xs, the answer r. Assumes nothing.
use Rattle.std.specs.Prelude.{◌≡◌, false, List, [], ◌∷◌, ◌++◌, ℕ, length}
use Rattle.refusal.specs.First.{Refusal, Answers}
use Rattle.nodes.specs.Operators.{sequence}
use Rattle.table.specs.Check as Check
use Rattle.judgement.specs.declared.Judgement.{Judgement}
use Rattle.judgement.specs.Meant.{Meant}
use Rattle.judgement.specs.Refusals.{wrong_root, too_long}

-- 1 to 9, 12, 10
unfoldable pub plain_refusals : List ℕ → ℕ → List Refusal
plain_refusals s n = Check.refusals s ++ (wrong_root s sequence ∷ too_long n ∷ [])

-- the statement of the plain judge. No second answer fits (`proofs/Unique.antt`, `plain_unique`)
pub record PlainJudges (s xs : List ℕ) (r : Judgement) : Type 0 where
  -- the first refusal that applies
  pub answer : Answers (plain_refusals s (length xs)) r.verdict
  -- the level is that of the property at the root of s, clocks and all, on the pairs of the samples; tested is yes exactly if they test it
  pub accepted : r.verdict.number ≡ 0 → Meant s xs r
  -- with level 0, not tested
  pub refused : ¬ (r.verdict.number ≡ 0) → (r.level.number ≡ 0) × (r.tested ≡ false)
