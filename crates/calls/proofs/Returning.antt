-- What the code of each call returns: the base call's answer on the table that is taken, or the refusal of opening. Assumes nothing.
use native.Mathlib.Omega.{arith}
use mathlib.Core.Path.{◌≡◌, refl, ◌∙◌, sym, ap}
use mathlib.Core.Logic.{inl, inr}
use mathlib.Core.List.{List}
use Prim.Native.Nat.{ℕ}
use lib.ListN.{length, drop}
use Rattle.std.specs.Prelude.{Err}
use Rattle.refusal.specs.declared.Verdict.{Verdict}
use Rattle.refusal.specs.First.{Answers, NotGiven}
use Rattle.refusal.specs.Computed.{accepted}
use Rattle.refusal.specs.declared.Reason.{Reason}
use Rattle.refusal.specs.Reasons.{verdict_of}
use Rattle.refusal.proofs.Errors.{refused_by}
use Rattle.refusal.proofs.Given.{answers_after, answers_stopped}
use Rattle.nodes.specs.Operators.{none, sequence, property, newest}
use Rattle.nodes.specs.Nodes.{root}
use Rattle.table.specs.Check.{refusals_to}
use Rattle.table.proofs.CheckingTo.{sound, checks_none}
use Rattle.expand.specs.Opens.{open_refusals}
use Rattle.rewrite.specs.declared.Rewriting.{Rewriting}
use Rattle.rewrite.specs.Rewrites as Rewrite
use Rattle.rewrite.specs.Computed.{rewriting_by}
use Rattle.judgement.specs.declared.Judgement.{Judgement}
use Rattle.judgement.specs.Refused.{Refused}
use Rattle.judge.specs.declared.MatchEnds.{MatchEnds}
use Rattle.judge.specs.Computed.{NoEnds}
use Rattle.judge.specs.Judges as Judge
use Rattle.plain.specs.Judges as Plain
use Rattle.calls.specs.Refusals.{rewrite_refusals, judge_refusals, ends_refusals, plain_refusals}
use Rattle.calls.specs.Rewrites.{Rewrites}
use Rattle.calls.specs.Judges.{Judges, EndsMatches, PlainJudges}
use Rattle.calls.specs.Taken.{Taken, Stopped}
use Rattle.calls.proofs.Carrying.{rewrite_taken, judge_taken, ends_taken, plain_taken}

-- ---- the base call's answer

module _ (s t : List ℕ) (k : Taken s t) where
  pub rewrite_returns : (d : List ℕ) (r : Rewriting) (d' : List ℕ) → Rewrite.Rewrites t d r d' → Rewrites s d r d'
  rewrite_returns d r d' = (rewrite_taken s t k d r d').0

  pub judge_returns : (xs d : List ℕ) (r : Judgement) (d' : List ℕ) → Judge.Judges t xs d r d' → Judges s xs d r d'
  judge_returns xs d r d' = (judge_taken s t k xs d r d').0

  pub ends_returns : (xs d : List ℕ) (start : ℕ) (r : MatchEnds) (d' : List ℕ) → Judge.EndsMatches t xs d start r d' → EndsMatches s xs d start r d'
  ends_returns xs d start r d' = (ends_taken s t k xs d start r d').0

  pub plain_returns : (xs : List ℕ) (r : Judgement) → Plain.PlainJudges t xs r → PlainJudges s xs r
  plain_returns xs r = (plain_taken s t k xs r).0

-- ---- the refusal of opening

module _ (s : List ℕ) (e : Reason) where
  -- no root is of no sort, and so 12 is not given
  pub rewrite_refused : Stopped s none e → (d : List ℕ) → Rewrites s d (rewriting_by (Err e)) d
  unfolding open_refusals rewrite_refusals Answers
  rewrite_refused w d = record {
    answer = answers_after (refusals_to newest s) (drop 9 (open_refusals s none)) (drop 9 (rewrite_refusals s (length d))) (verdict_of e) own w;
    accepted = λ y. absurd (refused_by e y);
    refused = λ _. (refl, refl);
  }
    where
      own : NotGiven (refusals_to newest s) → Answers (drop 9 (open_refusals s none)) (verdict_of e) → Answers (drop 9 (rewrite_refusals s (length d))) (verdict_of e)
      own n (inl (_, (_, g))) =
          let ok = (sound newest s accepted (checks_none newest s n) refl).formed in
          absurd (let l = ok.some in (ok.fit (root s) (omega arith)).known g)
      own n (inr (_, inl a)) = inl a
      own n (inr (_, inr (_, (y, _)))) = absurd (refused_by e y)

  -- the judge's refusals go on after those of opening
  module _ (w : Stopped s sequence e) (xs : List ℕ) (r : Judgement) (h : Refused (verdict_of e) r) where
    not_accepted : ¬ (r.verdict.number ≡ 0)
    not_accepted y = refused_by e (ap (λ (v : Verdict). v.number) (sym h.verdict) ∙ y)

    pub judge_refused : (d : List ℕ) → Judges s xs d r d
    unfolding open_refusals judge_refusals
    judge_refused d = record {
      answer = rw h.verdict (answers_stopped (open_refusals s sequence) (drop 11 (judge_refusals s (length xs) (length d))) (verdict_of e) (refused_by e) w);
      accepted = λ y. absurd (not_accepted y);
      refused = λ _. (h.level, h.tested, refl);
    }

    pub plain_refused : PlainJudges s xs r
    unfolding open_refusals plain_refusals
    plain_refused = record {
      answer = rw h.verdict (answers_stopped (open_refusals s sequence) (drop 11 (plain_refusals s (length xs))) (verdict_of e) (refused_by e) w);
      accepted = λ y. absurd (not_accepted y);
      refused = λ _. (h.level, h.tested);
    }

  pub ends_refused : Stopped s property e → (xs d : List ℕ) (start : ℕ) (r : MatchEnds) → NoEnds (verdict_of e) r → EndsMatches s xs d start r d
  unfolding open_refusals ends_refusals
  ends_refused w xs d start r h = record {
    answer = rw h.verdict (answers_stopped (open_refusals s property) (drop 11 (ends_refusals s (length xs) start (length d))) (verdict_of e) (refused_by e) w);
    accepted = λ y. absurd (refused_by e (ap (λ (v : Verdict). v.number) (sym h.verdict) ∙ y));
    refused = λ _. (h.mask, h.top, refl);
  }
