-- Answers that fit the statements of the two judges agree: by the statements alone, with no code. `Judges s xs d q d'` says that of the table s, the samples xs
-- and the workspace d the judge's answer is q and the workspace left d', `PlainJudges s xs r` that the plain judge's answer is r. Assumes nothing.
use mathlib.Core.Path.{◌≡◌, ◌∙◌, sym, ap}
use mathlib.Core.Logic.{◌⊎◌, inl, inr, ⊎_elim}
use mathlib.Core.List.{List, [], ◌∷◌}
use Prim.Native.Nat.{ℕ}
use native.Mathlib.Omega.{arith}
use lib.ListN.{length}
use Rattle.telling.proofs.Telling.{decide, is_eq}
use Rattle.refusal.specs.First.{Refusal, Answers}
use Rattle.refusal.proofs.Given.{answers_after}
use Rattle.refusal.proofs.Unique.{by_verdict}
use Rattle.nodes.specs.Operators.{sequence}
use Rattle.table.specs.Check as Check
use Rattle.rewrite.specs.Rewrites.{too_many}
use Rattle.judgement.specs.declared.Judgement.{Judgement}
use Rattle.judgement.specs.Refusals.{wrong_root, too_long}
use Rattle.judgement.proofs.Unique.{meant_unique, refused_unique}
use Rattle.settling.specs.Refusals.{too_small, judge_refusals}
use Rattle.judge.specs.Judges.{Judges}
use Rattle.judge.proofs.Unique.{meant}
use Rattle.plain.specs.Judges.{plain_refusals, PlainJudges}
use Rattle.plain.proofs.Unique.{plain_singles, plain_checks}

module _ (s xs d : List ℕ) (q : Judgement) (d' : List ℕ) (r : Judgement) (a : Judges s xs d q d') (b : PlainJudges s xs r) where
  -- the judge's own refusals, and the plain judge's
  abbrev judges : List Refusal
  judges = wrong_root s sequence ∷ too_many s ∷ too_long (length xs) ∷ too_small s (length d) ∷ []

  abbrev plains : List Refusal
  plains = wrong_root s sequence ∷ too_long (length xs) ∷ []

  module _ (few : ¬ (q.verdict.number ≡ 13)) (room : ¬ (q.verdict.number ≡ 11)) where
    -- 13 and 11 left out, the refusals are those of the plain judge
    plain_answer : Answers (plain_refusals s (length xs)) q.verdict
    unfolding plain_refusals judge_refusals Answers
    plain_answer = answers_after (Check.refusals s) judges plains q.verdict (λ _. go) a.answer
      where
        go : Answers judges q.verdict → Answers plains q.verdict
        go (inl x) = inl x
        go (inr (n, inl x)) = absurd (few x.0)
        go (inr (n, inr (_, inl x))) = inr (n, inl x)
        go (inr (n, inr (_, inr (m, inl x)))) = absurd (room x.0)
        go (inr (n, inr (_, inr (m, inr (_, x))))) = inr (n, inr (m, x))

    -- whatever the judge answers but 13 and 11, the plain judge answers: number, node, level and flag
    pub judges_agree : q ≡ r
    judges_agree =
        by_verdict (plain_refusals s (length xs)) (plain_singles s (length xs)) q.verdict r.verdict plain_answer b.answer
        (λ v y z. meant_unique s xs (plain_checks s (length xs) r.verdict z b.answer) q r v (meant s xs d q d' (a.accepted y)) (b.accepted z))
        (λ v y z. let (l, t, _) = a.refused y in refused_unique q r v (l, t) (b.refused z))

  -- wherever the judge accepts, the plain judge accepts, with the same level and the same flag
  pub plain_where_judge : q.verdict.number ≡ 0 → (r.verdict.number ≡ 0) × (q.level.number ≡ r.level.number) × (q.tested ≡ r.tested)
  plain_where_judge z =
      let e = judges_agree (λ y. let x = z in omega arith) (λ y. let x = z in omega arith) in
      (ap (λ (p : Judgement). p.verdict.number) (sym e) ∙ z, ap (λ (p : Judgement). p.level.number) e, ap (λ (p : Judgement). p.tested) e)

  -- and where the plain judge accepts, the judge accepts or refuses with 13 or 11
  pub judge_where_plain : r.verdict.number ≡ 0 → (q.verdict.number ≡ 0) ⊎ (q.verdict.number ≡ 13) ⊎ (q.verdict.number ≡ 11)
  judge_where_plain z =
      ⊎_elim (λ m. inr (inl m))
      (λ few. ⊎_elim (λ w. inr (inr w)) (λ room. inl (ap (λ (p : Judgement). p.verdict.number) (judges_agree few room) ∙ z)) (decide (is_eq q.verdict.number 11)))
      (decide (is_eq q.verdict.number 13))
