-- The three demands, of the plain judge's answers. `PlainJudges s xs r` says that of the table s and the samples xs its answer is r; it writes to nothing.
-- Assumes nothing.
use mathlib.Core.Path.{◌≡◌, refl}
use mathlib.Core.Bool.{false}
use mathlib.Core.List.{List, [], ◌∷◌, ◌++◌}
use Prim.Native.Nat.{ℕ, ◌≤◌}
use native.Mathlib.Omega.{arith}
use lib.Dec.{T}
use lib.ListN.{length}
use Rattle.telling.specs.Tells.{Tells}
use Rattle.refusal.specs.First.{Refusal, NotGiven, FirstGiven}
use Rattle.refusal.specs.Heading.{version}
use Rattle.refusal.specs.Computed.{accepted}
use Rattle.refusal.proofs.Given.{numbered, none_given, not_given-append, not_given_join, given_refused, answered_given, none_answered}
use Rattle.meaning.specs.Syntax.{Prop}
use Rattle.meaning.specs.Meaning.{Neutral, Weakly, Strongly, Level}
use Rattle.meaning.specs.Tested.{Tests}
use Rattle.meaning.specs.Pairs.{Atom, reading, pairs}
use Rattle.meaning.proofs.Theorems as Meaning
use Rattle.nodes.specs.Operators.{sequence}
use Rattle.table.specs.Trees.{RootP}
use Rattle.table.specs.Check as Check
use Rattle.table.specs.Check.{Checks}
use Rattle.table.proofs.Checking.{accepted_root}
use Rattle.cells.specs.Shares.{longest}
use Rattle.judgement.specs.declared.Judgement.{Judgement}
use Rattle.judgement.specs.BySamples.{MeantBySamples}
use Rattle.judgement.specs.Refusals.{wrong_root, too_long}
use Rattle.judgement.proofs.VersionOne.{meant_by_samples}
use Rattle.judgement.proofs.Lasting.{level_is, tested_is, no_other_level, meant-held_stays, meant_broken_stays}
use Rattle.plain.specs.Judges.{plain_refusals, PlainJudges}
use Rattle.plain.proofs.Unique.{plain_singles, plain_checks}

-- ---- demand 1: bad input is refused with exactly the page's number

module _ (s xs : List ℕ) (r : Judgement) (j : PlainJudges s xs r) where
  numbers : T (numbered (plain_refusals s (length xs)))
  unfolding plain_refusals Check.refusals
  numbers = tt

  -- where x of the plain judge's refusals is given, at node k, and none before it, it is answered, with level 0, not tested
  pub plain_refuses : (before : List Refusal) (x : Refusal) (after : List Refusal) → plain_refusals s (length xs) ≡ before ++ (x ∷ after) → NotGiven before → (k : ℕ) → x.given k
      → (r.verdict.number ≡ x.number) × (r.verdict.node ≡ k) × (r.level.number ≡ 0) × (r.tested ≡ false)
  plain_refuses before x after e n k g =
      let (a, b, z) = given_refused (plain_refusals s (length xs)) (plain_singles s (length xs)) numbers before x after e n k g r.verdict j.answer in
      let (l, t) = j.refused z in
      (a, b, l, t)

  -- what is answered is given, and none before it
  pub plain_refused_rightly : ¬ (r.verdict.number ≡ 0) → FirstGiven (plain_refusals s (length xs)) r.verdict
  plain_refused_rightly z = answered_given (plain_refusals s (length xs)) r.verdict j.answer z

  -- with none given the plain judge accepts
  pub plain_accepts : NotGiven (plain_refusals s (length xs)) → (r.verdict.number ≡ 0) × (r.verdict.node ≡ 0)
  plain_accepts n = none_answered (plain_refusals s (length xs)) n r.verdict j.answer

-- ---- demand 2: the level is the one that the published meaning gives on the clocked table

module _ (s xs : List ℕ) (r : Judgement) (j : PlainJudges s xs r) (z : r.verdict.number ≡ 0) where
  pub plain_table-accepted : Checks s accepted
  plain_table-accepted = plain_checks s (length xs) r.verdict z j.answer

  -- the level of the property at the root, clocks and all, and no other number
  pub plain_level_meant : (P : Prop Atom) → RootP s P → Level reading P (pairs xs) r.level.number
  plain_level_meant P a = level_is s xs r (j.accepted z) P a

  pub plain_level_only : (P : Prop Atom) → RootP s P → (m : ℕ) → Level reading P (pairs xs) m → r.level.number ≡ m
  plain_level_only P a m l = no_other_level s xs r (j.accepted z) P a plain_table-accepted m l

  -- the flag is yes exactly if the samples test that property
  pub plain_tested_meant : (P : Prop Atom) → RootP s P → Tells r.tested (Tests reading (pairs xs) P)
  plain_tested_meant P a = tested_is s xs r (j.accepted z) P a

  -- of a table of version 1 level and flag are those over samples, with no pair
  pub plain_version_one : version s ≡ 1 → MeantBySamples s xs r
  plain_version_one first = meant_by_samples s xs plain_table-accepted first r (j.accepted z)

  -- ---- demand 3: of the property at the root, strong implies neutral implies weak

  pub plain_ordered : (P : Prop Atom) → RootP s P → (Strongly reading P (pairs xs) → Neutral reading P (pairs xs)) × (Neutral reading P (pairs xs) → Weakly reading P (pairs xs))
  plain_ordered P a =
      let c = accepted_root s accepted plain_table-accepted refl P a in
      (λ h. Meaning.strong_implies_neutral reading P c (pairs xs) h, λ h. Meaning.neutral_implies_weak reading P c (pairs xs) h)

-- ---- demand 3: a longer record never overturns a 3 or a 0. The plain judge is given xs, which it accepts, and then xs and more samples

module _ (s xs ys : List ℕ) (r q : Judgement) (j : PlainJudges s xs r) (k : PlainJudges s (xs ++ ys) q) (z : r.verdict.number ≡ 0) where
  -- it accepts these too, where they are 63 at most
  pub plain_longer-accepted : length (xs ++ ys) ≤ longest → q.verdict.number ≡ 0
  unfolding plain_refusals Check.refusals
  plain_longer-accepted short =
      let (t, own) = not_given-append (Check.refusals s) (wrong_root s sequence ∷ too_long (length xs) ∷ []) (none_given (plain_refusals s (length xs)) tt r.verdict z j.answer).0 in
      (plain_accepts s (xs ++ ys) q k (not_given_join (Check.refusals s) (wrong_root s sequence ∷ too_long (length (xs ++ ys)) ∷ []) t (own.0, (λ i g. let l = g.1 in omega arith, tt)))).0

  module _ (y : q.verdict.number ≡ 0) where
    pub plain_held_stays : r.level.number ≡ 3 → q.level.number ≡ 3
    plain_held_stays = meant-held_stays s xs ys (plain_table-accepted s xs r j z) r q (j.accepted z) (k.accepted y)

    pub plain_broken_stays : r.level.number ≡ 0 → q.level.number ≡ 0
    plain_broken_stays = meant_broken_stays s xs ys (plain_table-accepted s xs r j z) r q (j.accepted z) (k.accepted y)
