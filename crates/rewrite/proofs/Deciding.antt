-- The tests that decide the refusals of rewriting, and what a refusal leaves. Assumes nothing.
use native.Mathlib.Nat.{le_of_suc-le-suc, lt_of_not-le}
use borrow.Author.Tests.{eqb-true, eqb-false}
use mathlib.Core.Path.{◌≡◌, refl, ◌∙◌, sym, ap, subst}
use mathlib.Core.Bool.{Bool, true, false}
use mathlib.Core.List.{List, [], ◌∷◌, ◌++◌}
use Prim.Native.Nat.{ℕ, ◌+◌, ◌*◌, ◌<◌, ◌≤◌}
use lib.Dec.{T, ltb, eqb}
use lib.ListN.{length}
use Rattle.telling.specs.Tells.{Tells}
use Rattle.telling.proofs.Telling.{is_map, is_lt}
use Rattle.refusal.specs.declared.Verdict.{Verdict}
use Rattle.refusal.specs.First.{Answers, NotGiven}
use Rattle.refusal.specs.Computed.{Case, at0, first_case, accepted, heading_cases}
use Rattle.refusal.proofs.Cases.{refuses, before, after}
use Rattle.refusal.proofs.Deciding.{Decides, answers, decided_when, decides_append}
use Rattle.refusal.proofs.Given.{none_given, not_given-append}
use Rattle.nodes.specs.NodeClock.{Ref}
use Rattle.table.specs.Check as Check
use Rattle.table.specs.Check.{Checks}
use Rattle.table.specs.Computed as Table
use Rattle.table.specs.Computed.{node_cases, later_cases, checked}
use Rattle.nodes.proofs.Built.{Built}
use Rattle.table.proofs.Checking as Checking
use Rattle.table.proofs.Checking.{checks, checks_only, checks_none, checks_given, sound}
use Rattle.clocks.specs.Clocks.{Clocks}
use Rattle.clocks.proofs.Timing.{clocks_exist, clocks_unique}
use Rattle.numbers.specs.Numbers.{new_count}
use Rattle.rewrite.specs.Rewrites.{OfClocks, refusals}

-- ---- the table, accepted

module _ (s : List ℕ) where
  -- each of its tests answers a refusal
  all_refuse : T (refuses (Table.cases s))
  unfolding heading_cases later_cases node_cases
  all_refuse = tt

  -- ---- the count of new nodes, by the one assignment of clocks

  -- where the table is accepted, m is the count, whatever the clocks are said to be
  abbrev Sizes : ℕ → Type 0
  Sizes m = Checks s accepted → (clock : ℕ → Ref) → Clocks s clock → m ≡ new_count s clock

  counted : (m : ℕ) × Sizes m
  counted = go (eqb (checked s).number 0) refl
    where
      go : (b : Bool) → eqb (checked s).number 0 ≡ b → (m : ℕ) × Sizes m
      go true e =
          let ok = (sound s (checked s) (checks s (checked s) refl) (eqb-true (checked s).number 0 e)).formed in
          let (clock, right) = clocks_exist s ok in
          (new_count s clock, λ _ other r. ap (new_count s) (clocks_unique s ok clock other right r))
      go false e = (0, λ c _ _. absurd (eqb-false (checked s).number 0 e (sym (ap (λ (u : Verdict). u.number) (checks_only s accepted c)))))

  pub size : ℕ
  size = counted.0

  pub size_is : Checks s accepted → (clock : ℕ → Ref) → Clocks s clock → size ≡ new_count s clock
  unfolding size
  size_is = counted.1

  -- ---- 13 and 15

  -- a test of the one assignment tells of the clocks
  clocked_tells : Built s → (clock : ℕ → Ref) → Clocks s clock → {b : Bool} {P : (ℕ → Ref) → Type 0} → Tells b (P clock) → Tells b (OfClocks s P)
  clocked_tells ok clock right {P = P} t = is_map t (λ p. (clock, right, p)) (λ q. subst P (clocks_unique s ok q.0 clock q.1 right) q.2)

  module _ (room : ℕ) where
    -- after the tests of the table
    abbrev own_cases : List Case
    own_cases = at0 13 (ltb 120 size) ∷ at0 15 (ltb room (6 + 4 * size)) ∷ []

    abbrev pub cases : List Case
    cases = Table.cases s ++ own_cases

    pub decides : Decides cases (refusals s room)
    unfolding refusals
    decides =
        decides_append (Table.cases s) own_cases (Check.refusals s) _ (Checking.decides s)
        (λ n.
        let a = checks_none s n in
        let ok = (sound s accepted a refl).formed in
        let (clock, right) = clocks_exist s ok in
        let e = size_is a clock right in (
          decided_when 13 (clocked_tells ok clock right (subst (λ (m : ℕ). Tells (ltb 120 size) (120 < m)) e (is_lt 120 size))),
          λ _. (
            decided_when 15 (clocked_tells ok clock right (subst (λ (m : ℕ). Tells (ltb room (6 + 4 * size)) (room < 6 + 4 * m)) e (is_lt room (6 + 4 * size)))),
            λ _. tt,
          ),
        ))

    -- a refusal of the table is answered, and else the two are asked
    module _ (v : Verdict) (c : Checks s v) where
      number_is : (checked s).number ≡ v.number
      number_is = sym (ap (λ (u : Verdict). u.number) (checks_only s v c))

      pub table_stops : ¬ (v.number ≡ 0) → v ≡ first_case cases
      unfolding checked
      table_stops h = checks_only s v c ∙ sym (before (Table.cases s) own_cases (λ z. h (sym number_is ∙ z)))

      pub table_passes : v.number ≡ 0 → first_case cases ≡ first_case own_cases
      unfolding checked
      table_passes h = after (Table.cases s) own_cases all_refuse (number_is ∙ h)

    -- an acceptance is one of the table too, and says that there are not too many new nodes
    module _ (v : Verdict) (a : Answers (refusals s room) v) (z : v.number ≡ 0) where
      none_applies : NotGiven (refusals s room)
      unfolding refusals Check.refusals
      none_applies = (none_given (refusals s room) tt v z a).0

      settled : NotGiven (Check.refusals s) × (¬ OfClocks s (λ clock. 120 < new_count s clock))
      unfolding refusals
      settled = let (t, own) = not_given-append (Check.refusals s) _ none_applies in (t, λ q. own.0 0 (refl, q))

      pub table-accepted : Checks s accepted
      table-accepted = checks_none s settled.0

      pub few_new : (clock : ℕ → Ref) → Clocks s clock → new_count s clock ≤ 120
      few_new clock right = le_of_suc-le-suc (lt_of_not-le (λ g. settled.1 (clock, right, g)))

module _ (s d : List ℕ) where
  pub answered : (v : Verdict) → v ≡ first_case (cases s (length d)) → Answers (refusals s (length d)) v
  answered v e = rw e (answers (cases s (length d)) (refusals s (length d)) (decides s (length d)))
