-- What the plain judge answers: one law for each return, in sections that follow the code. Assumes nothing.
use native.Mathlib.Omega.{arith}
use mathlib.Core.Path.{◌≡◌, refl, ◌∙◌, sym, ap, subst}
use mathlib.Core.Logic.{inl, inr, ⊎_elim}
use mathlib.Core.Bool.{Bool, true, false}
use mathlib.Core.List.{List, [], ◌∷◌}
use Prim.Native.Nat.{ℕ, ◌+◌, ◌*◌, ◌-◌, ◌<◌, ◌≤◌}
use lib.Dec.{eqb, ltb}
use Rattle.std.specs.Prelude.{Option, Some}
use Rattle.std.specs.Option.{option_eq}
use borrow.Author.Tests.{eqb-true, eqb-false}
use lib.ListN.{length}
use Rattle.telling.proofs.Telling.{is_as}
use Rattle.positions.specs.Member.{has, Is}
use Rattle.refusal.specs.declared.Verdict.{Verdict}
use Rattle.refusal.specs.First.{Refusal, Answers}
use Rattle.refusal.specs.Heading.{count}
use Rattle.refusal.specs.Computed.{refused, accepted}
use Rattle.refusal.specs.declared.Reason.{Reason}
use Rattle.refusal.specs.declared.Reason.TheVariants.{ManySamples, WrongRoot}
use Rattle.refusal.specs.Reasons.{verdict_of}
use Rattle.refusal.proofs.Errors.{refused_by}
use Rattle.refusal.proofs.Given.{answers_stopped, answers_beyond}
use Rattle.meaning.specs.declared.Level as Number
use Rattle.meaning.specs.Syntax.{Prop, free}
use Rattle.meaning.specs.Words.{none, tops, bots}
use Rattle.meaning.specs.Meaning.{Level}
use Rattle.meaning.specs.Pairs.{Atom, reading, pairs}
use Rattle.meaning.proofs.Pairing.{length_pairs}
use Rattle.meaning.proofs.Leveling.{level_from}
use Rattle.nodes.specs.Operators.{sequence}
use Rattle.nodes.specs.declared.operators.Sort.{Sort}
use Rattle.nodes.specs.declared.operators.Sort.TheVariants.{Sequence}
use Rattle.nodes.specs.contracts.operators.SortPartialEq.TheImpl.{eq-value}
use Rattle.nodes.specs.Sorts.{sort_number}
use Rattle.nodes.proofs.Sorting.{same_sort}
use Rattle.nodes.specs.Nodes.{sort_at, root}
use Rattle.nodes.proofs.Built.{Built}
use Rattle.table.specs.Trees.{RootP}
use Rattle.table.specs.Check as Check
use Rattle.table.specs.Check.{Checks}
use Rattle.table.proofs.Standing.{property_in}
use Rattle.table.proofs.Checking.{sound, checks_given}
use Rattle.table.proofs.CheckingTo.{sorts}
use Rattle.cells.specs.Shares.{longest}
use Rattle.ticking.specs.declared.Ticks.{Ticks}
use Rattle.steps.specs.declared.Told.{Told}
use Rattle.rowmeaning.specs.Sets.{TicksOf}
use Rattle.rowmeaning.proofs.LetterRules.{all_ticks}
use Rattle.judgement.specs.declared.Judgement.{Judgement}
use Rattle.judgement.specs.Meant.{Meant}
use Rattle.judgement.specs.Refusals.{wrong_root, too_long}
use Rattle.conditions.specs.Conditions.{Shaped, Conditions}
use Rattle.walk.specs.Walk.{Known, Ticking, PropertyMeans}
use Rattle.plain.specs.Judges.{plain_refusals, PlainJudges}
use Rattle.plain.specs.Computed.{root_level, RootTold}

-- ---- the root

-- with no clock all samples count
all_count : (xs : List ℕ) (t : Ticks) → t.clocked ≡ false → Is t.at.bits (λ k. ltb k (length xs)) → Ticking xs free t
all_count xs t e h = record { clocked = e; ticks = record { bits = λ i l. same i ∙ all.bits i l; past = λ i l. same i ∙ all.past i l } }
  where
    all : TicksOf reading (pairs xs) free (λ i. ltb i (length (pairs xs)))
    all = all_ticks reading (pairs xs)

    same : (i : ℕ) → has t.at.bits i ≡ ltb i (length (pairs xs))
    same i = h i ∙ ap (λ n. ltb i n) (sym (length_pairs xs))

pub root_known : (s xs sets : List ℕ) → Shaped s xs → Conditions s xs sets → Known s xs sets
root_known s xs sets h c = record { shaped = h; conditions = c }

pub root_right : (s xs : List ℕ) (m : ℕ) → m ≡ count s → (t : Ticks) → t.clocked ≡ false → Is t.at.bits (λ k. ltb k (length xs)) → (r : Told)
    → PropertyMeans s xs t (m - 1) r → RootTold s xs r
root_right s xs m em t et ht r h =
    let at = subst (λ k. PropertyMeans s xs t (k - 1) r) em h in
    record { says = λ P d. at.says P d free (all_count xs t et ht); tested = λ P d. at.tested P d free (all_count xs t et ht) }

-- what the root answers is meant
module _ (s xs : List ℕ) (P : Prop Atom) (d : RootP s P) (r : Told) (h : RootTold s xs r) (q : Judgement) where
  root_meant : q.level.number ≡ root_level r → q.tested ≡ has r.tested.bits 0 → Meant s xs q
  root_meant el et =
      let says = h.says P d in
      record {
        level = (P, d, subst (Level reading P (pairs xs)) (sym el) (level_from reading (says.answers bots 0 (omega arith)) (says.answers none 0 (omega arith)) (says.answers tops 0 (omega arith))));
        tested = (P, d, is_as et ((h.tested P d).tells 0 (omega arith)));
      }

-- ---- the returns

module _ (s xs : List ℕ) where
  abbrev own : List Refusal
  own = wrong_root s sequence ∷ too_long (length xs) ∷ []

  pub by_check : (e : Reason) → Checks s (verdict_of e) → Answers (plain_refusals s (length xs)) (verdict_of e)
  unfolding plain_refusals Check.refusals
  by_check e c = answers_stopped (Check.refusals s) own (verdict_of e) (refused_by e) c

  module _ (c : Checks s accepted) where
    built : Built s
    built = (sound s accepted c refl).formed

    answer : (u : Verdict) → Answers own u → Answers (plain_refusals s (length xs)) u
    unfolding plain_refusals
    answer u a = answers_beyond (Check.refusals s) own u (checks_given s accepted c refl) a

    module _ (m : ℕ) (em : m ≡ count s) where
      pub has_root : 1 ≤ m
      has_root = let l = built.some in omega arith

      pub root_bytes : 4 * (m - 1) + 10 ≤ length s
      root_bytes = let l = built.some in let h = built.long in omega arith

      module _ (o : Option Sort) (eo : sort_number o ≡ sort_at s (m - 1)) (b : Bool) (eb : b ≡ option_eq eq-value.it o (Some Sequence)) where
        compared : b ≡ eqb (sort_at s (root s)) sequence
        compared = eb ∙ same_sort o (Some Sequence) ∙ ap (λ (k : ℕ). eqb k sequence) (eo ∙ ap (λ (k : ℕ). sort_at s (k - 1)) em)

        pub by_root : b ≡ true → Answers (plain_refusals s (length xs)) (verdict_of WrongRoot)
        unfolding Answers
        by_root t = answer (refused 12 0) (inl (refl, (refl, eqb-true (sort_at s (root s)) sequence (sym compared ∙ t))))

        module _ (other : b ≡ false) where
          right_root : ¬ (sort_at s (root s) ≡ sequence)
          right_root = eqb-false (sort_at s (root s)) sequence (sym compared ∙ other)

          pub by_length : longest < length xs → Answers (plain_refusals s (length xs)) (verdict_of ManySamples)
          unfolding Answers
          by_length g = answer (refused 10 0) (inr (λ k y. right_root y.1, inl (refl, (refl, g))))

          module _ (short : length xs ≤ longest) where
            pub shaped : Shaped s xs
            shaped = record { old = (sound s accepted c refl).known.1; few = built.few; long = built.long; fit = built.fit; short = short }

            -- the root is a property
            property_at_root : (P : Prop Atom) × RootP s P
            property_at_root =
                let some = built.some in
                let in_root : root s < count s = omega arith in
                ⊎_elim (λ e. absurd (right_root e)) (property_in s (count s) built.fit (count s) (root s) in_root in_root) (sorts s (root s) (built.fit (root s) in_root) built.rooted)

            pub answered : (r : Told) → RootTold s xs r → (l : Number.Level) → l.number ≡ root_level r → (t : Bool) → t ≡ has r.tested.bits 0
                → PlainJudges s xs (record { verdict = accepted; level = l; tested = t })
            unfolding Answers
            answered r h l el t et =
                let (P, d) = property_at_root in
                record {
                  answer = answer accepted (inr (λ k y. right_root y.1, inr (λ k y. let g = y.1 in omega arith, (refl, refl))));
                  accepted = λ _. root_meant s xs P d r h _ el et;
                  refused = λ y. absurd (y refl);
                }
