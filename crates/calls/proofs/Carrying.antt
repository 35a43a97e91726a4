-- The statement of each call on s is that of the base call on the table t that is taken for s: both ways, for any answer and anything left. Assumes nothing.
use mathlib.Core.Path.{◌≡◌, subst}
use mathlib.Core.Logic.{◌↔◌}
use mathlib.Core.List.{List, [], ◌∷◌}
use Prim.Native.Nat.{ℕ}
use lib.ListN.{length}
use Rattle.refusal.specs.declared.Verdict.{Verdict}
use Rattle.refusal.specs.First.{Refusal, when, Answers}
use Rattle.meaning.specs.Syntax.{Prop}
use Rattle.meaning.specs.Pairs.{Atom}
use Rattle.nodes.specs.Operators.{sequence, property}
use Rattle.table.specs.Trees.{RootP}
use Rattle.expansion.specs.Expansion.{expansion}
use Rattle.rewrite.specs.declared.Rewriting.{Rewriting}
use Rattle.rewrite.specs.Rewrites as Rewrite
use Rattle.rewrite.specs.Rewrites.{too_many, no_room, Rewritten}
use Rattle.judgement.specs.declared.Judgement.{Judgement}
use Rattle.judgement.specs.Meant.{Meant}
use Rattle.judgement.specs.Refusals.{too_long}
use Rattle.settling.specs.Refusals as Settling
use Rattle.settling.specs.Refusals.{start_above, too_small}
use Rattle.judge.specs.declared.MatchEnds.{MatchEnds}
use Rattle.judge.specs.Judges as Judge
use Rattle.plain.specs.Judges as Plain
use Rattle.calls.specs.Refusals.{rewrite_refusals, judge_refusals, ends_refusals, plain_refusals}
use Rattle.calls.specs.Rewrites.{Rewrites}
use Rattle.calls.specs.Judges.{Judged, Judges, Ended, EndsMatches, PlainJudges}
use Rattle.calls.specs.Taken.{Opened, Taken}
use Rattle.calls.proofs.Taking.{same_property, same_sequence, taken_is, taken_answers, call_opened}

-- ---- verdicts

-- 12, where the root has the sort k
abbrev wrong : ℕ → ℕ → List Refusal
wrong sort k = when 12 (k ≡ sort) ∷ []

abbrev rewrite_rest : ℕ → List ℕ → List Refusal
rewrite_rest room t = too_many t ∷ no_room t room ∷ []

abbrev judge_rest : ℕ → ℕ → List ℕ → List Refusal
judge_rest n words t = too_many t ∷ too_long n ∷ too_small t words ∷ []

abbrev ends_rest : ℕ → ℕ → ℕ → List ℕ → List Refusal
ends_rest n start words t = too_many t ∷ too_long n ∷ start_above n start ∷ too_small t words ∷ []

abbrev plain_rest : ℕ → List ℕ → List Refusal
plain_rest n t = too_long n ∷ []

-- a call that accepts has opened the table
module _ (s : List ℕ) (v : Verdict) (z : v.number ≡ 0) where
  pub rewrite_opened : (room : ℕ) → Answers (rewrite_refusals s room) v → Opened s
  unfolding rewrite_refusals
  rewrite_opened room = call_opened (λ _. []) (rewrite_rest room) s v tt z

  pub judge_opened : (n words : ℕ) → Answers (judge_refusals s n words) v → Opened s
  unfolding judge_refusals
  judge_opened n words = call_opened (wrong sequence) (judge_rest n words) s v tt z

  pub ends_opened : (n start words : ℕ) → Answers (ends_refusals s n start words) v → Opened s
  unfolding ends_refusals
  ends_opened n start words = call_opened (wrong property) (ends_rest n start words) s v tt z

  pub plain_opened : (n : ℕ) → Answers (plain_refusals s n) v → Opened s
  unfolding plain_refusals
  plain_opened n = call_opened (wrong sequence) (plain_rest n) s v tt z

module _ (s t : List ℕ) (k : Taken s t) (v : Verdict) where
  rewrite_answers : (room : ℕ) → Answers (Rewrite.refusals t room) v ↔ Answers (rewrite_refusals s room) v
  unfolding Rewrite.refusals rewrite_refusals
  rewrite_answers room = taken_answers (λ _. []) (rewrite_rest room) s v k

  judge_answers : (n words : ℕ) → Answers (Settling.judge_refusals t n words) v ↔ Answers (judge_refusals s n words) v
  unfolding Settling.judge_refusals judge_refusals
  judge_answers n words = taken_answers (wrong sequence) (judge_rest n words) s v k

  ends_answers : (n start words : ℕ) → Answers (Settling.ends_refusals t n start words) v ↔ Answers (ends_refusals s n start words) v
  unfolding Settling.ends_refusals ends_refusals
  ends_answers n start words = taken_answers (wrong property) (ends_rest n start words) s v k

  plain_answers : (n : ℕ) → Answers (Plain.plain_refusals t n) v ↔ Answers (plain_refusals s n) v
  unfolding Plain.plain_refusals plain_refusals
  plain_answers n = taken_answers (wrong sequence) (plain_rest n) s v k

-- ---- acceptances, of the expansion of a table that is opened and of the table

module _ (s : List ℕ) (o : Opened s) where
  -- what holds of the property at the one root holds of that at the other
  of_property : (X : Prop Atom → Type 0) → ((P : Prop Atom) × RootP (expansion s) P × X P) ↔ ((P : Prop Atom) × RootP s P × X P)
  of_property X = (λ a. (a.0, (same_property s o a.0).1 a.1, a.2), λ a. (a.0, (same_property s o a.0).0 a.1, a.2))

  meant-both : (xs : List ℕ) (r : Judgement) → Meant (expansion s) xs r ↔ Meant s xs r
  meant-both xs r = (
    λ a. record { level = (of_property _).0 a.level; tested = (of_property _).0 a.tested },
    λ a. record { level = (of_property _).1 a.level; tested = (of_property _).1 a.tested },
  )

  judged_both : (xs d : List ℕ) (r : Judgement) (d' : List ℕ) → Judge.Judged (expansion s) xs d r d' ↔ Judged s xs d r d'
  judged_both xs d r d' = (
    λ a. record { level = (of_property _).0 a.level; tested = (of_property _).0 a.tested; rows = a.rows },
    λ a. record { level = (of_property _).1 a.level; tested = (of_property _).1 a.tested; rows = a.rows },
  )

  ended-both : (xs d : List ℕ) (start : ℕ) (r : MatchEnds) (d' : List ℕ) → Judge.Ended (expansion s) xs d start r d' ↔ Ended s xs d start r d'
  ended-both xs d start r d' = (
    λ a. let (q, c, m, t) = a.ends in record { ends = (q, (same_sequence s o q).1 c, m, t); rows = a.rows },
    λ a. let (q, c, m, t) = a.ends in record { ends = (q, (same_sequence s o q).0 c, m, t); rows = a.rows },
  )

-- ---- the four statements

module _ (s t : List ℕ) (k : Taken s t) where
  -- an acceptance on the expansion is one on the table that is taken
  on_taken : (P : List ℕ → Type 0) → Opened s → P (expansion s) → P t
  on_taken P o = subst P (taken_is k o)

  pub rewrite_taken : (d : List ℕ) (r : Rewriting) (d' : List ℕ) → Rewrite.Rewrites t d r d' ↔ Rewrites s d r d'
  rewrite_taken d r d' = (
    λ a. let b = both.0 a.answer in record { answer = b; accepted = λ z. (same z b).0 (a.accepted z); refused = a.refused },
    λ a. record { answer = both.1 a.answer; accepted = λ z. (same z a.answer).1 (a.accepted z); refused = a.refused },
  )
    where
      both : Answers (Rewrite.refusals t (length d)) r.verdict ↔ Answers (rewrite_refusals s (length d)) r.verdict
      both = rewrite_answers s t k r.verdict (length d)

      same : r.verdict.number ≡ 0 → Answers (rewrite_refusals s (length d)) r.verdict → Rewritten t d r.count d' ↔ Rewritten (expansion s) d r.count d'
      same z a = on_taken (λ (t : List ℕ). Rewritten t d r.count d' ↔ Rewritten (expansion s) d r.count d') (rewrite_opened s r.verdict z (length d) a) (λ x. x, λ x. x)

  pub judge_taken : (xs d : List ℕ) (r : Judgement) (d' : List ℕ) → Judge.Judges t xs d r d' ↔ Judges s xs d r d'
  judge_taken xs d r d' = (
    λ a. let b = both.0 a.answer in record { answer = b; accepted = λ z. (same z b).0 (a.accepted z); refused = a.refused },
    λ a. record { answer = both.1 a.answer; accepted = λ z. (same z a.answer).1 (a.accepted z); refused = a.refused },
  )
    where
      both : Answers (Settling.judge_refusals t (length xs) (length d)) r.verdict ↔ Answers (judge_refusals s (length xs) (length d)) r.verdict
      both = judge_answers s t k r.verdict (length xs) (length d)

      same : r.verdict.number ≡ 0 → Answers (judge_refusals s (length xs) (length d)) r.verdict → Judge.Judged t xs d r d' ↔ Judged s xs d r d'
      same z a =
          let o = judge_opened s r.verdict z (length xs) (length d) a in
          on_taken (λ (t : List ℕ). Judge.Judged t xs d r d' ↔ Judged s xs d r d') o (judged_both s o xs d r d')

  pub ends_taken : (xs d : List ℕ) (start : ℕ) (r : MatchEnds) (d' : List ℕ) → Judge.EndsMatches t xs d start r d' ↔ EndsMatches s xs d start r d'
  ends_taken xs d start r d' = (
    λ a. let b = both.0 a.answer in record { answer = b; accepted = λ z. (same z b).0 (a.accepted z); refused = a.refused },
    λ a. record { answer = both.1 a.answer; accepted = λ z. (same z a.answer).1 (a.accepted z); refused = a.refused },
  )
    where
      both : Answers (Settling.ends_refusals t (length xs) start (length d)) r.verdict ↔ Answers (ends_refusals s (length xs) start (length d)) r.verdict
      both = ends_answers s t k r.verdict (length xs) start (length d)

      same : r.verdict.number ≡ 0 → Answers (ends_refusals s (length xs) start (length d)) r.verdict → Judge.Ended t xs d start r d' ↔ Ended s xs d start r d'
      same z a =
          let o = ends_opened s r.verdict z (length xs) start (length d) a in
          on_taken (λ (t : List ℕ). Judge.Ended t xs d start r d' ↔ Ended s xs d start r d') o (ended-both s o xs d start r d')

  pub plain_taken : (xs : List ℕ) (r : Judgement) → Plain.PlainJudges t xs r ↔ PlainJudges s xs r
  plain_taken xs r = (
    λ a. let b = both.0 a.answer in record { answer = b; accepted = λ z. (same z b).0 (a.accepted z); refused = a.refused },
    λ a. record { answer = both.1 a.answer; accepted = λ z. (same z a.answer).1 (a.accepted z); refused = a.refused },
  )
    where
      both : Answers (Plain.plain_refusals t (length xs)) r.verdict ↔ Answers (plain_refusals s (length xs)) r.verdict
      both = plain_answers s t k r.verdict (length xs)

      same : r.verdict.number ≡ 0 → Answers (plain_refusals s (length xs)) r.verdict → Meant t xs r ↔ Meant s xs r
      same z a =
          let o = plain_opened s r.verdict z (length xs) a in
          on_taken (λ (t : List ℕ). Meant t xs r ↔ Meant s xs r) o (meant-both s o xs r)
