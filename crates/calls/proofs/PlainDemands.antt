-- The three demands of the plain judge on tables of versions 1 to 3, as plain/proofs/Demands.antt and agreed/proofs/Rewritten.antt have them of tables with
-- base operators. Assumes nothing.
use mathlib.Core.Path.{◌≡◌}
use mathlib.Core.Bool.{false}
use mathlib.Core.List.{List, ◌∷◌, ◌++◌}
use Prim.Native.Nat.{ℕ, ◌≤◌}
use lib.Dec.{T}
use lib.ListN.{length}
use Rattle.telling.specs.Tells.{Tells}
use Rattle.refusal.specs.First.{Refusal, NotGiven, FirstGiven}
use Rattle.refusal.specs.Computed.{accepted}
use Rattle.refusal.proofs.Given.{numbered, given_refused, answered_given, none_answered}
use Rattle.meaning.specs.Syntax.{Prop}
use Rattle.meaning.specs.Meaning.{Neutral, Weakly, Strongly, Level}
use Rattle.meaning.specs.Tested.{Tests}
use Rattle.meaning.specs.Pairs.{Atom, reading, pairs}
use Rattle.nodes.specs.Operators.{newest}
use Rattle.nodes.specs.NodeClock.{Ref}
use Rattle.table.specs.Trees.{RootP}
use Rattle.table.specs.Check.{ChecksTo}
use Rattle.expansion.specs.Expansion.{expansion}
use Rattle.clocks.specs.Clocks.{Clocks}
use Rattle.numbers.specs.Numbers.{new_count}
use Rattle.writing.specs.Tables.{new_table}
use Rattle.cells.specs.Shares.{longest}
use Rattle.judgement.specs.declared.Judgement.{Judgement}
use Rattle.plain.specs.Judges as Base
use Rattle.plain.proofs.Demands as Plain
use Rattle.agreed.proofs.Rewritten as Rewritten
use Rattle.calls.specs.Refusals.{plain_refusals}
use Rattle.calls.specs.Judges.{PlainJudges}
use Rattle.calls.specs.Taken.{Opened, expanded}
use Rattle.calls.proofs.Taking.{same_property, rewritten_taken}
use Rattle.calls.proofs.Carrying.{plain_opened, plain_taken}
use Rattle.calls.proofs.Unique.{plain_singles}

-- ---- demand 1: bad input is refused with exactly the page's number

module _ (s xs : List ℕ) (r : Judgement) (j : PlainJudges s xs r) where
  numbers : T (numbered (plain_refusals s (length xs)))
  unfolding plain_refusals
  numbers = tt

  -- where x of the plain judge's refusals is given, at node k, and none before it, it is answered, with level 0, not tested
  pub plain_refuses : (before : List Refusal) (x : Refusal) (after : List Refusal) → plain_refusals s (length xs) ≡ before ++ (x ∷ after) → NotGiven before → (k : ℕ) → x.given k
      → (r.verdict.number ≡ x.number) × (r.verdict.node ≡ k) × (r.level.number ≡ 0) × (r.tested ≡ false)
  plain_refuses before x after e n k g =
      let (a, b, z) = given_refused (plain_refusals s (length xs)) (plain_singles s (length xs)) numbers before x after e n k g r.verdict j.answer in
      let (l, t) = j.refused z in
      (a, b, l, t)

  -- what is answered is given, and none before it
  pub plain_refused_rightly : ¬ (r.verdict.number ≡ 0) → FirstGiven (plain_refusals s (length xs)) r.verdict
  plain_refused_rightly z = answered_given (plain_refusals s (length xs)) r.verdict j.answer z

  -- with none given the plain judge accepts
  pub plain_accepts : NotGiven (plain_refusals s (length xs)) → (r.verdict.number ≡ 0) × (r.verdict.node ≡ 0)
  plain_accepts n = none_answered (plain_refusals s (length xs)) n r.verdict j.answer

-- ---- demand 2: the level is the one that the published meaning gives on the clocked table

module _ (s xs : List ℕ) (r : Judgement) (j : PlainJudges s xs r) (z : r.verdict.number ≡ 0) where
  opened : Opened s
  opened = plain_opened s r.verdict z (length xs) j.answer

  -- the base call on the expansion
  judged : Base.PlainJudges (expansion s) xs r
  judged = (plain_taken s (expansion s) (expanded opened) xs r).1 j

  pub plain_table-accepted : ChecksTo newest s accepted
  plain_table-accepted = opened.checks

  -- the level of the property at the root, clocks and all, and no other number
  pub plain_level_meant : (P : Prop Atom) → RootP s P → Level reading P (pairs xs) r.level.number
  plain_level_meant P a = Plain.plain_level_meant (expansion s) xs r judged z P ((same_property s opened P).0 a)

  pub plain_level_only : (P : Prop Atom) → RootP s P → (m : ℕ) → Level reading P (pairs xs) m → r.level.number ≡ m
  plain_level_only P a m l = Plain.plain_level_only (expansion s) xs r judged z P ((same_property s opened P).0 a) m l

  -- the flag is yes exactly if the samples test that property
  pub plain_tested_meant : (P : Prop Atom) → RootP s P → Tells r.tested (Tests reading (pairs xs) P)
  plain_tested_meant P a = Plain.plain_tested_meant (expansion s) xs r judged z P ((same_property s opened P).0 a)

  -- ---- demand 3: of the property at the root, strong implies neutral implies weak

  pub plain_ordered : (P : Prop Atom) → RootP s P → (Strongly reading P (pairs xs) → Neutral reading P (pairs xs)) × (Neutral reading P (pairs xs) → Weakly reading P (pairs xs))
  plain_ordered P a = Plain.plain_ordered (expansion s) xs r judged z P ((same_property s opened P).0 a)

-- ---- demand 3: a longer record never overturns a 3 or a 0. The plain judge is given xs, which it accepts, and then xs and more samples

module _ (s xs ys : List ℕ) (r q : Judgement) (j : PlainJudges s xs r) (k : PlainJudges s (xs ++ ys) q) (z : r.verdict.number ≡ 0) where
  longer : Base.PlainJudges (expansion s) (xs ++ ys) q
  longer = (plain_taken s (expansion s) (expanded (opened s xs r j z)) (xs ++ ys) q).1 k

  -- it accepts these too, where they are 63 at most
  pub plain_longer-accepted : length (xs ++ ys) ≤ longest → q.verdict.number ≡ 0
  plain_longer-accepted = Plain.plain_longer-accepted (expansion s) xs ys r q (judged s xs r j z) longer z

  module _ (y : q.verdict.number ≡ 0) where
    pub plain_held_stays : r.level.number ≡ 3 → q.level.number ≡ 3
    plain_held_stays = Plain.plain_held_stays (expansion s) xs ys r q (judged s xs r j z) longer z y

    pub plain_broken_stays : r.level.number ≡ 0 → q.level.number ≡ 0
    plain_broken_stays = Plain.plain_broken_stays (expansion s) xs ys r q (judged s xs r j z) longer z y

-- ---- demand 3: given the rewritten table, where that has at most 120 nodes, it gives the same level

module _ (s xs : List ℕ) (r : Judgement) (j : PlainJudges s xs r) (z : r.verdict.number ≡ 0) (clock : ℕ → Ref) (right : Clocks (expansion s) clock) (few : new_count (expansion s) clock ≤ 120)
    (q : Judgement) (k : PlainJudges (new_table (expansion s) clock) xs q) where
  again : Base.PlainJudges (new_table (expansion s) clock) xs q
  again = (plain_taken (new_table (expansion s) clock) (new_table (expansion s) clock) (rewritten_taken s (opened s xs r j z) clock right) xs q).1 k

  pub plain_rewritten_accepted : q.verdict.number ≡ 0
  plain_rewritten_accepted = Rewritten.plain_rewritten_accepted (expansion s) xs r (judged s xs r j z) z clock right few q again

  pub plain_rewritten_level : r.level.number ≡ q.level.number
  plain_rewritten_level = Rewritten.plain_rewritten_level (expansion s) xs r (judged s xs r j z) z clock right few q again
