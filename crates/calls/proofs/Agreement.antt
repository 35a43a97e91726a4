-- The two judges agree on tables of versions 1 to 3, as agreed/proofs/Agreement.antt has it of tables with base operators: q is the judge's answer, r the plain
-- judge's. Assumes nothing.
use native.Mathlib.Omega.{arith}
use mathlib.Core.Path.{◌≡◌, ◌∙◌, sym, ap}
use mathlib.Core.Logic.{◌⊎◌, inl, inr}
use mathlib.Core.List.{List}
use Prim.Native.Nat.{ℕ}
use lib.ListN.{length, drop}
use Rattle.refusal.specs.First.{Answers}
use Rattle.refusal.proofs.Given.{answers_after}
use Rattle.refusal.proofs.Unique.{by_verdict}
use Rattle.nodes.specs.Operators.{newest}
use Rattle.table.specs.Check.{refusals_to}
use Rattle.expansion.specs.Expansion.{expansion}
use Rattle.judgement.specs.declared.Judgement.{Judgement}
use Rattle.judgement.proofs.Unique.{refused_unique}
use Rattle.judge.specs.Judges as Judge
use Rattle.plain.specs.Judges as Plain
use Rattle.agreed.proofs.Agreement as Agreed
use Rattle.calls.specs.Refusals.{judge_refusals, plain_refusals}
use Rattle.calls.specs.Judges.{Judges, PlainJudges}
use Rattle.calls.specs.Taken.{Opened, expanded}
use Rattle.calls.proofs.Carrying.{plain_opened, judge_taken, plain_taken}
use Rattle.calls.proofs.Unique.{plain_singles}

module _ (s xs d : List ℕ) (q : Judgement) (d' : List ℕ) (r : Judgement) (a : Judges s xs d q d') (b : PlainJudges s xs r) where
  -- where the table is opened, both are base calls on the expansion
  module _ (o : Opened s) where
    judge_base : Judge.Judges (expansion s) xs d q d'
    judge_base = (judge_taken s (expansion s) (expanded o) xs d q d').1 a

    plain_base : Plain.PlainJudges (expansion s) xs r
    plain_base = (plain_taken s (expansion s) (expanded o) xs r).1 b

  module _ (few : ¬ (q.verdict.number ≡ 13)) (room : ¬ (q.verdict.number ≡ 11)) where
    -- 13 and 11 left out, the refusals are those of the plain judge
    plain_answer : Answers (plain_refusals s (length xs)) q.verdict
    unfolding plain_refusals judge_refusals Answers
    plain_answer = answers_after (refusals_to newest s) (drop 9 (judge_refusals s (length xs) (length d))) (drop 9 (plain_refusals s (length xs))) q.verdict (λ _. go) a.answer
      where
        go : Answers (drop 9 (judge_refusals s (length xs) (length d))) q.verdict → Answers (drop 9 (plain_refusals s (length xs))) q.verdict
        go (inl x) = inl x
        go (inr (n, inl x)) = absurd (few x.0)
        go (inr (n, inr (l, inl x))) = absurd (few x.0)
        go (inr (n, inr (l, inr (_, inl x)))) = inr (n, inr (l, inl x))
        go (inr (n, inr (l, inr (_, inr (m, inl x))))) = absurd (room x.0)
        go (inr (n, inr (l, inr (_, inr (m, inr (_, x)))))) = inr (n, inr (l, inr (m, x)))

    -- whatever the judge answers but 13 and 11, the plain judge answers: number, node, level and flag
    pub judges_agree : q ≡ r
    judges_agree =
        by_verdict (plain_refusals s (length xs)) (plain_singles s (length xs)) q.verdict r.verdict plain_answer b.answer
        (λ v y z. let o = plain_opened s r.verdict z (length xs) b.answer in Agreed.judges_agree (expansion s) xs d q d' r (judge_base o) (plain_base o) few room)
        (λ v y z. let (l, t, _) = a.refused y in refused_unique q r v (l, t) (b.refused z))

  -- wherever the judge accepts, the plain judge accepts, with the same level and the same flag
  pub plain_where_judge : q.verdict.number ≡ 0 → (r.verdict.number ≡ 0) × (q.level.number ≡ r.level.number) × (q.tested ≡ r.tested)
  plain_where_judge z =
      let e = judges_agree (λ y. let x = z in omega arith) (λ y. let x = z in omega arith) in
      (ap (λ (p : Judgement). p.verdict.number) (sym e) ∙ z, ap (λ (p : Judgement). p.level.number) e, ap (λ (p : Judgement). p.tested) e)

  -- and where the plain judge accepts, the judge accepts or refuses with 13 or 11
  pub judge_where_plain : r.verdict.number ≡ 0 → (q.verdict.number ≡ 0) ⊎ (q.verdict.number ≡ 13) ⊎ (q.verdict.number ≡ 11)
  judge_where_plain z =
      let o = plain_opened s r.verdict z (length xs) b.answer in
      Agreed.judge_where_plain (expansion s) xs d q d' r (judge_base o) (plain_base o) z
