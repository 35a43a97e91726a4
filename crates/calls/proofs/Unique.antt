-- The statements of the calls leave nothing open: two answers that fit are the same, and so is what is left. Where a call accepts, by the base call on the
-- expansion. Assumes nothing.
use mathlib.Core.Path.{◌≡◌, ◌∙◌, sym}
use mathlib.Core.List.{List}
use Prim.Native.Nat.{ℕ}
use lib.ListN.{length, drop}
use Rattle.refusal.proofs.Unique.{Singles, single_when, singles_append, by_verdict}
use Rattle.nodes.specs.Operators.{newest}
use Rattle.table.specs.Check.{refusals_to}
use Rattle.table.proofs.CheckingTo.{table_singles}
use Rattle.expansion.specs.Expansion.{expansion}
use Rattle.rewrite.specs.declared.Rewriting.{Rewriting}
use Rattle.rewrite.proofs.Unique as Rewrite
use Rattle.judgement.specs.declared.Judgement.{Judgement}
use Rattle.judgement.proofs.Unique.{refused_unique}
use Rattle.judge.specs.declared.MatchEnds.{MatchEnds}
use Rattle.judge.proofs.Unique as Judge
use Rattle.plain.proofs.Unique as Plain
use Rattle.calls.specs.Refusals.{rewrite_refusals, judge_refusals, ends_refusals, plain_refusals}
use Rattle.calls.specs.Rewrites.{Rewrites}
use Rattle.calls.specs.Judges.{Judges, EndsMatches, PlainJudges}
use Rattle.calls.specs.Taken.{expanded}
use Rattle.calls.proofs.Carrying.{rewrite_opened, judge_opened, ends_opened, plain_opened, rewrite_taken, judge_taken, ends_taken, plain_taken}

-- ---- verdicts

module _ (s : List ℕ) where
  pub rewrite_singles : (room : ℕ) → Singles (rewrite_refusals s room)
  unfolding rewrite_refusals
  rewrite_singles room =
      singles_append (refusals_to newest s) (drop 9 (rewrite_refusals s room)) (table_singles newest s) (single_when 13 _, (single_when 13 _, (single_when 15 _, tt)))

  pub judge_singles : (n words : ℕ) → Singles (judge_refusals s n words)
  unfolding judge_refusals
  judge_singles n words =
      singles_append (refusals_to newest s) (drop 9 (judge_refusals s n words)) (table_singles newest s) (single_when 12 _, (single_when 13 _, (single_when 13 _, (single_when 10 _, (single_when 11 _, tt)))))

  pub ends_singles : (n start words : ℕ) → Singles (ends_refusals s n start words)
  unfolding ends_refusals
  ends_singles n start words =
      singles_append (refusals_to newest s) (drop 9 (ends_refusals s n start words)) (table_singles newest s) (single_when 12 _, (single_when 13 _, (single_when 13 _, (single_when 10 _, (single_when 14 _, (single_when 11 _, tt))))))

  pub plain_singles : (n : ℕ) → Singles (plain_refusals s n)
  unfolding plain_refusals
  plain_singles n =
      singles_append (refusals_to newest s) (drop 9 (plain_refusals s n)) (table_singles newest s) (single_when 12 _, (single_when 13 _, (single_when 10 _, tt)))

-- ---- the four calls

pub rewrite_unique : (s d : List ℕ) (r q : Rewriting) (d' e' : List ℕ) → Rewrites s d r d' → Rewrites s d q e' → (r ≡ q) × (d' ≡ e')
rewrite_unique s d r q d' e' a b =
    by_verdict (rewrite_refusals s (length d)) (rewrite_singles s (length d)) r.verdict q.verdict a.answer b.answer
    (λ v y z.
    let k = expanded (rewrite_opened s r.verdict y (length d) a.answer) in
    Rewrite.unique (expansion s) d r q d' e' ((rewrite_taken s (expansion s) k d r d').1 a) ((rewrite_taken s (expansion s) k d q e').1 b))
    (λ v y z. let (c, w) = a.refused y in let (c', w') = b.refused z in (λ i. record { verdict = v i; count = (c ∙ sym c') i }, w ∙ sym w'))

pub judge_unique : (s xs d : List ℕ) (r q : Judgement) (d' e' : List ℕ) → Judges s xs d r d' → Judges s xs d q e' → (r ≡ q) × (d' ≡ e')
judge_unique s xs d r q d' e' a b =
    by_verdict (judge_refusals s (length xs) (length d)) (judge_singles s (length xs) (length d)) r.verdict q.verdict a.answer b.answer
    (λ v y z.
    let k = expanded (judge_opened s r.verdict y (length xs) (length d) a.answer) in
    Judge.judge_unique (expansion s) xs d r q d' e' ((judge_taken s (expansion s) k xs d r d').1 a) ((judge_taken s (expansion s) k xs d q e').1 b))
    (λ v y z.
    let (l, c, w) = a.refused y in
    let (l', c', w') = b.refused z in
    (refused_unique r q v (l, c) (l', c'), w ∙ sym w'))

pub ends_unique : (s xs d : List ℕ) (start : ℕ) (r q : MatchEnds) (d' e' : List ℕ) → EndsMatches s xs d start r d' → EndsMatches s xs d start q e' → (r ≡ q) × (d' ≡ e')
ends_unique s xs d start r q d' e' a b =
    by_verdict (ends_refusals s (length xs) start (length d)) (ends_singles s (length xs) start (length d)) r.verdict q.verdict a.answer b.answer
    (λ v y z.
    let k = expanded (ends_opened s r.verdict y (length xs) start (length d) a.answer) in
    Judge.ends_unique (expansion s) xs d start r q d' e' ((ends_taken s (expansion s) k xs d start r d').1 a) ((ends_taken s (expansion s) k xs d start q e').1 b))
    (λ v y z.
    let (l, c, w) = a.refused y in
    let (l', c', w') = b.refused z in
    (λ i. record { verdict = v i; mask = record { bits = (l ∙ sym l') i }; top = (c ∙ sym c') i }, w ∙ sym w'))

pub plain_unique : (s xs : List ℕ) (r q : Judgement) → PlainJudges s xs r → PlainJudges s xs q → r ≡ q
plain_unique s xs r q a b =
    by_verdict (plain_refusals s (length xs)) (plain_singles s (length xs)) r.verdict q.verdict a.answer b.answer
    (λ v y z.
    let k = expanded (plain_opened s r.verdict y (length xs) a.answer) in
    Plain.plain_unique (expansion s) xs r q ((plain_taken s (expansion s) k xs r).1 a) ((plain_taken s (expansion s) k xs q).1 b))
    (λ v y z. refused_unique r q v (a.refused y) (b.refused z))
