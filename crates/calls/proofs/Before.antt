-- Answers on tables that are not of version 3 are as before: there the statement of each call is the base call's, both ways; so version 1 answers stay, too.
-- Assumes nothing.
use native.Mathlib.Omega.{arith}
use mathlib.Core.Path.{◌≡◌}
use mathlib.Core.Logic.{◌↔◌}
use mathlib.Core.List.{List}
use Prim.Native.Nat.{ℕ}
use Rattle.refusal.specs.Heading.{version}
use Rattle.rewrite.specs.declared.Rewriting.{Rewriting}
use Rattle.rewrite.specs.Rewrites as Rewrite
use Rattle.judgement.specs.declared.Judgement.{Judgement}
use Rattle.judgement.specs.BySamples.{MeantBySamples}
use Rattle.judge.specs.declared.MatchEnds.{MatchEnds}
use Rattle.judge.specs.Judges as Judge
use Rattle.judge.specs.BySamples.{JudgedBySamples, EndedBySamples}
use Rattle.judge.proofs.VersionOne as VersionOne
use Rattle.plain.specs.Judges as Plain
use Rattle.plain.proofs.Demands as PlainDemands
use Rattle.calls.specs.Rewrites.{Rewrites}
use Rattle.calls.specs.Judges.{Judges, EndsMatches, PlainJudges}
use Rattle.calls.specs.Taken.{as_it_is}
use Rattle.calls.proofs.Carrying.{rewrite_taken, judge_taken, ends_taken, plain_taken}

module _ (s : List ℕ) (old : ¬ (version s ≡ 3)) where
  pub rewrite_as_before : (d : List ℕ) (r : Rewriting) (d' : List ℕ) → Rewrite.Rewrites s d r d' ↔ Rewrites s d r d'
  rewrite_as_before = rewrite_taken s s (as_it_is (λ _. old))

  pub judge_as_before : (xs d : List ℕ) (r : Judgement) (d' : List ℕ) → Judge.Judges s xs d r d' ↔ Judges s xs d r d'
  judge_as_before = judge_taken s s (as_it_is (λ _. old))

  pub ends_as_before : (xs d : List ℕ) (start : ℕ) (r : MatchEnds) (d' : List ℕ) → Judge.EndsMatches s xs d start r d' ↔ EndsMatches s xs d start r d'
  ends_as_before = ends_taken s s (as_it_is (λ _. old))

  pub plain_as_before : (xs : List ℕ) (r : Judgement) → Plain.PlainJudges s xs r ↔ PlainJudges s xs r
  plain_as_before = plain_taken s s (as_it_is (λ _. old))

-- of a table of version 1 level, flag, match ends and rows are those over samples, with no pair
module _ (s : List ℕ) (first : version s ≡ 1) where
  old : ¬ (version s ≡ 3)
  old e = omega arith

  pub version_one_judged : (xs d : List ℕ) (r : Judgement) (d' : List ℕ) → Judges s xs d r d' → r.verdict.number ≡ 0 → JudgedBySamples s xs r d'
  version_one_judged xs d r d' j z = VersionOne.version_one_judged s xs d r d' ((judge_as_before s old xs d r d').1 j) z first

  pub version_one_ended : (xs d : List ℕ) (start : ℕ) (r : MatchEnds) (d' : List ℕ) → EndsMatches s xs d start r d' → r.verdict.number ≡ 0 → EndedBySamples s xs start r d'
  version_one_ended xs d start r d' j z = VersionOne.version_one_ended s xs d start r d' ((ends_as_before s old xs d start r d').1 j) z first

  pub plain_version_one : (xs : List ℕ) (r : Judgement) → PlainJudges s xs r → r.verdict.number ≡ 0 → MeantBySamples s xs r
  plain_version_one xs r j z = PlainDemands.plain_version_one s xs r ((plain_as_before s old xs r).1 j) z first
