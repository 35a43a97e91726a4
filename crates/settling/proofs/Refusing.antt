-- From what rewriting answers to what the judge and match ends answer. Assumes nothing.
use native.Mathlib.Omega.{arith}
use borrow.Author.Tests.{lt-ltb, le-ltb, eqb-true, eqb-false, ne_eqb}
use mathlib.Core.Path.{◌≡◌, refl, ◌∙◌, sym, ap, subst}
use mathlib.Core.Logic.{◌⊎◌, inl, inr, ⊎_elim}
use mathlib.Core.Bool.{Bool, true, false, not}
use mathlib.Core.List.{List, [], ◌∷◌, ◌++◌}
use Prim.Native.Nat.{ℕ, ◌+◌, ◌*◌, ◌-◌, ◌<◌, ◌≤◌}
use lib.Dec.{eqb, ltb}
use lib.ListN.{length, take}
use Rattle.std.specs.Prelude.{Option, Result, Ok, Err}
use Rattle.std.specs.Result.{result_eq, result_unwrap_or}
use Rattle.telling.specs.Tells.{Tells}
use Rattle.telling.proofs.Telling.{decide, is_map, is_not, is_eq, is_lt}
use Rattle.refusal.specs.declared.Verdict.{Verdict}
use Rattle.refusal.specs.declared.Reason.{Reason}
use Rattle.refusal.specs.declared.Reason.TheVariants.{FewBytes, WrongMark, UnknownVersion, WrongCount, WrongLength, NotWellFormed, Astray, BooleanRoot, Hollow, ManySamples, SmallWorkspace, WrongRoot, ManyNodes, LateStart, SmallOutput}
use Rattle.refusal.specs.contracts.ReasonPartialEq.TheImpl.{eq-value}
use Rattle.refusal.specs.Reasons.{verdict_of}
use Rattle.refusal.proofs.Errors.{refused_by}
use Rattle.refusal.specs.First.{Refusal, when, Answers, NotGiven}
use Rattle.refusal.specs.Heading.{count}
use Rattle.refusal.specs.Computed.{Case, first_case, accepted, refused}
use Rattle.refusal.proofs.Deciding.{Decides, decided_when, answers}
use Rattle.refusal.proofs.Given.{reached, answers_after, answers_beyond}
use Rattle.nodes.specs.Nodes.{sort_at, root}
use Rattle.table.specs.Check as Check
use Rattle.table.specs.Check.{Checks}
use Rattle.nodes.proofs.Built.{Built}
use Rattle.table.proofs.Checking.{checks_none, not_of_table, sound}
use Rattle.numbers.specs.Numbers.{new_count}
use Rattle.writing.specs.Tables.{new_table}
use Rattle.rewrite.specs.Rewrites.{OfClocks, too_many, Rewrites}
use Rattle.rewrite.specs.Rewrites as Rewrites
use Rattle.rewrite.specs.declared.Rewriting.{Rewriting}
use Rattle.rewrite.specs.Computed.{rewriting_by, renumbered, Renumbers}
use Rattle.clocks.proofs.Timing.{clocks_unique}
use Rattle.rewrite.proofs.Deciding.{few_new}
use Rattle.rewrite.proofs.Theorems.{output_is}
use Rattle.cells.specs.Shares.{share, longest}
use Rattle.settling.specs.Refusals.{ends_refusals}
use Rattle.settling.specs.Computed.{own_refusals, own_cases, settling, uncounted, settled_by, Settles}

-- ---- the first of the own refusals, as the code asks one after the other

module _ (other many : Bool) (n start words least : ℕ) where
  abbrev own_first : Verdict
  own_first = first_case (own_cases other many n start words least)

  pub first_root : other ≡ true → refused 12 0 ≡ own_first
  unfolding own_cases first_case
  first_root o = rw o

  module _ (o : other ≡ false) where
    pub first_many : many ≡ true → refused 13 0 ≡ own_first
    unfolding own_cases first_case
    first_many m = rw (o, m)

    module _ (m : many ≡ false) where
      pub first-long : longest < n → refused 10 0 ≡ own_first
      unfolding own_cases first_case
      first-long l = rw (o, m, lt-ltb longest n l)

      module _ (l : n ≤ longest) where
        pub first_above : n < start → refused 14 0 ≡ own_first
        unfolding own_cases first_case
        first_above a = rw (o, m, le-ltb longest n l, lt-ltb n start a)

        module _ (a : start ≤ n) where
          pub first_small : words < least → refused 11 0 ≡ own_first
          unfolding own_cases first_case
          first_small w = rw (o, m, le-ltb longest n l, le-ltb n start a, lt-ltb words least w)

          pub first_none : least ≤ words → accepted ≡ own_first
          unfolding own_cases first_case
          first_none w = rw (o, m, le-ltb longest n l, le-ltb n start a, le-ltb words least w)

-- ---- a reason, by its number

many_is : (e : Reason) → (verdict_of e).number ≡ 13 → verdict_of e ≡ refused 13 0
many_is FewBytes z = absurd (let w : ⊥ = omega arith in w)
many_is WrongMark z = absurd (let w : ⊥ = omega arith in w)
many_is UnknownVersion z = absurd (let w : ⊥ = omega arith in w)
many_is WrongCount z = absurd (let w : ⊥ = omega arith in w)
many_is WrongLength z = absurd (let w : ⊥ = omega arith in w)
many_is (NotWellFormed k) z = absurd (let w : ⊥ = omega arith in w)
many_is (Astray k) z = absurd (let w : ⊥ = omega arith in w)
many_is BooleanRoot z = absurd (let w : ⊥ = omega arith in w)
many_is (Hollow k) z = absurd (let w : ⊥ = omega arith in w)
many_is ManySamples z = absurd (let w : ⊥ = omega arith in w)
many_is SmallWorkspace z = absurd (let w : ⊥ = omega arith in w)
many_is WrongRoot z = absurd (let w : ⊥ = omega arith in w)
many_is ManyNodes z = refl
many_is LateStart z = absurd (let w : ⊥ = omega arith in w)
many_is SmallOutput z = absurd (let w : ⊥ = omega arith in w)

-- the test of the code
many_told : (r : Result ℕ Reason) → result_eq eqb eq-value.it r (Err ManyNodes) ≡ eqb (rewriting_by r).verdict.number 13
many_told (Ok m) = refl
many_told (Err FewBytes) = refl
many_told (Err WrongMark) = refl
many_told (Err UnknownVersion) = refl
many_told (Err WrongCount) = refl
many_told (Err WrongLength) = refl
many_told (Err (NotWellFormed k)) = refl
many_told (Err (Astray k)) = refl
many_told (Err BooleanRoot) = refl
many_told (Err (Hollow k)) = refl
many_told (Err ManySamples) = refl
many_told (Err SmallWorkspace) = refl
many_told (Err WrongRoot) = refl
many_told (Err ManyNodes) = refl
many_told (Err LateStart) = refl
many_told (Err SmallOutput) = refl

-- ---- all of them

module _ (s d : List ℕ) (room : length d ≡ 486) (rewritten : Result ℕ Reason) (clocks : List (Option ℕ)) (numbers d' : List ℕ)
    (found : Renumbers s d (renumbered (rewriting_by rewritten) clocks numbers) d') where
  abbrev r : Rewriting
  r = rewriting_by rewritten

  w : Rewrites s d r d'
  w = found.rewrites

  abbrev v : Verdict
  v = r.verdict

  abbrev later : List Refusal
  later = too_many s ∷ when 15 (OfClocks s (λ clock. length d < 6 + 4 * new_count s clock)) ∷ []

  all_answer : Answers (Check.refusals s ++ later) v
  unfolding Rewrites.refusals
  all_answer = w.answer

  -- the shares of the new nodes are counted in a machine's number
  pub shares_fit : (m : ℕ) → rewritten ≡ Ok m → m ≤ 120
  shares_fit m e =
      let z : v.number ≡ 0 = ap (λ (q : Result ℕ Reason). (rewriting_by q).verdict.number) e in
      let y : r.count ≡ m = ap (λ (q : Result ℕ Reason). (rewriting_by q).count) e in
      let (clock, right, c) = w.accepted z in
      let l = few_new s (length d) v w.answer z clock right in
      let c = c.0 in
      omega arith

  -- 1 to 9 are answered as they are: 13 and 15 are not, for there is room for 120 nodes
  stopped : (wrong n start words : ℕ) → ¬ (v.number ≡ 0) → ¬ (v.number ≡ 13) → Answers (settling s wrong n start words) v
  unfolding settling Answers
  stopped wrong n start words z t = answers_after (Check.refusals s) later (own_refusals s wrong n start words) v (λ _ a. absurd (bad a)) all_answer
    where
      bad : Answers later v → ⊥
      bad (inl a) = t a.0
      bad (inr (few, inl (e, (_, (clock, right, l))))) = few 0 (refl, (clock, right, omega arith))
      bad (inr (few, inr (_, (e, _)))) = z e

  pub of_table : (wrong n start words : ℕ) → result_eq eqb eq-value.it rewritten (Err ManyNodes) ≡ false → (e : Reason) → rewritten ≡ Err e
      → Settles s wrong n start words d (renumbered (settled_by (Err (uncounted e))) clocks numbers) d'
  of_table wrong n start words t e ee =
      let y : v.number ≡ (verdict_of e).number = ap (λ (q : Result ℕ Reason). (rewriting_by q).verdict.number) ee in
      let a = stopped wrong n start words (λ z. refused_by e (sym y ∙ z)) (eqb-false v.number 13 (sym (many_told rewritten) ∙ t)) in
      record {
        answer = rw ee at a;
        rewriting = r;
        rewrites = w;
        count = sym (ap (λ (q : Result ℕ Reason). (rewriting_by q).count) ee);
        numbered = λ z. absurd (refused_by e z);
        accepted = λ z. absurd (refused_by e z);
      }

  -- the count, 0 where rewriting refuses
  pub count_or : (c : ℕ) → c ≡ result_unwrap_or rewritten 0 → c ≡ r.count
  count_or c ec = ec ∙ go rewritten
    where
      go : (q : Result ℕ Reason) → result_unwrap_or q 0 ≡ (rewriting_by q).count
      go (Ok m) = refl
      go (Err e) = refl

  -- else the table is accepted
  pub past_none : (m : ℕ) → rewritten ≡ Ok m → (v.number ≡ 0) ⊎ (v.number ≡ 13)
  past_none m e = inl (ap (λ (q : Result ℕ Reason). (rewriting_by q).verdict.number) e)

  pub past_many : result_eq eqb eq-value.it rewritten (Err ManyNodes) ≡ true → (v.number ≡ 0) ⊎ (v.number ≡ 13)
  past_many t = inr (eqb-true v.number 13 (sym (many_told rewritten) ∙ t))

  module _ (past : (v.number ≡ 0) ⊎ (v.number ≡ 13)) where
    passed_by : NotGiven (Check.refusals s) × Answers later v
    passed_by = reached (Check.refusals s) later v (not_of_table s v (λ h. ⊎_elim (λ (e : v.number ≡ 0). omega arith) (λ (e : v.number ≡ 13). omega arith) past)) all_answer

    checked : Checks s accepted
    checked = checks_none s passed_by.0

    built : Built s
    built = (sound s accepted checked refl).formed

    pub has-count : 5 < length s
    has-count = let l = built.long in omega arith

    -- x, the count as it is read, is that of a node or more, whose bytes are there
    module _ (x : ℕ) (ex : x ≡ count s) where
      pub has_root : 1 ≤ x
      has_root = let l = built.some in omega arith

      pub root_bytes : 4 * (x - 1) + 10 ≤ length s
      root_bytes = let l = built.some in let h = built.long in omega arith

    -- 13 is rewriting's own
    many_tells : Tells (not (eqb v.number 0)) (OfClocks s (λ clock. 120 < new_count s clock))
    unfolding Answers
    many_tells = is_map (is_not (is_eq v.number 0)) (given passed_by.1) (named passed_by.1)
      where
        given : Answers later v → ¬ (v.number ≡ 0) → OfClocks s (λ clock. 120 < new_count s clock)
        given (inl (_, (_, g))) z = g
        given (inr (_, inl (e, _))) z = absurd (⊎_elim z (λ (y : v.number ≡ 13). omega arith) past)
        given (inr (_, inr (_, (e, _)))) z = absurd (z e)

        named : Answers later v → OfClocks s (λ clock. 120 < new_count s clock) → ¬ (v.number ≡ 0)
        named (inl (e, _)) g z = omega arith
        named (inr (few, _)) g z = few 0 (refl, g)

    accepts : ¬ OfClocks s (λ clock. 120 < new_count s clock) → v.number ≡ 0
    accepts few = ⊎_elim (λ e. e) (λ z. absurd (few (many_tells.to ((is_not (is_eq v.number 0)).from z)))) (decide (is_eq v.number 0))

    -- where it is not given, the count is that of the new nodes
    small_tells : (words : ℕ) → ¬ OfClocks s (λ clock. 120 < new_count s clock) → Tells (ltb words (share * r.count)) (OfClocks s (λ clock. words < share * new_count s clock))
    small_tells words few =
        let (clock, right, e) = w.accepted (accepts few) in
        let c = e.0 in
        is_map (is_lt words (share * r.count)) (λ (l : words < share * r.count). (clock, right, omega arith))
        (λ g.
        let (other, right', l) = g in
        let same : new_count s clock ≡ new_count s other = ap (new_count s) (clocks_unique s built clock other right right') in
        omega arith)

    -- x is the count as it is read, and `sort` that of the root
    module _ (wrong n start words x sort : ℕ) (ex : x ≡ count s) (es : sort ≡ sort_at s (x - 1)) where
      abbrev own : List Refusal
      own = own_refusals s wrong n start words

      abbrev cases : List Case
      cases = own_cases (eqb sort wrong) (not (eqb v.number 0)) n start words (share * r.count)

      decides : Decides cases own
      unfolding own_cases ends_refusals Check.refusals
      decides =
          let e : sort ≡ sort_at s (root s) = es ∙ ap (λ (k : ℕ). sort_at s (k - 1)) ex in (
            decided_when 12 (subst (λ (k : ℕ). Tells (eqb sort wrong) (k ≡ wrong)) e (is_eq sort wrong)),
            λ _. (
              decided_when 13 many_tells,
              λ few. (decided_when 10 (is_lt longest n), λ _. (decided_when 14 (is_lt n start), λ _. (decided_when 11 (small_tells words (λ g. few 0 (refl, g))), λ _. tt))),
            ),
          )

      answered : (u : Verdict) → u ≡ first_case cases → Answers (settling s wrong n start words) u
      unfolding settling
      answered u eu = answers_beyond (Check.refusals s) own u passed_by.0 (subst (Answers own) (sym eu) (answers cases own decides))

      -- c is the count that is handed on
      refuses : (e : Reason) (c : ℕ) → c ≡ r.count → verdict_of e ≡ first_case cases
          → Settles s wrong n start words d (renumbered (settled_by (Err (record { reason = e; count = c }))) clocks numbers) d'
      refuses e c ec q = record {
        answer = answered (verdict_of e) q;
        rewriting = r;
        rewrites = w;
        count = ec;
        numbered = λ z. absurd (refused_by e z);
        accepted = λ z. absurd (refused_by e z);
      }

      pub wrong_sort : (c : ℕ) → c ≡ r.count → eqb sort wrong ≡ true
          → Settles s wrong n start words d (renumbered (settled_by (Err (record { reason = WrongRoot; count = c }))) clocks numbers) d'
      wrong_sort c ec t = refuses WrongRoot c ec (first_root _ _ n start words _ t)

      module _ (other : eqb sort wrong ≡ false) where
        -- 13, passed on
        pub many_nodes : (e : Reason) → rewritten ≡ Err e → Settles s wrong n start words d (renumbered (settled_by (Err (uncounted e))) clocks numbers) d'
        many_nodes e ee =
            let y : v.number ≡ (verdict_of e).number = ap (λ (q : Result ℕ Reason). (rewriting_by q).verdict.number) ee in
            let z : ¬ (v.number ≡ 0) = λ q. refused_by e (sym y ∙ q) in
            let t : v.number ≡ 13 = ⊎_elim (λ q. absurd (z q)) (λ q. q) past in
            refuses e 0 (sym (ap (λ (q : Result ℕ Reason). (rewriting_by q).count) ee)) (many_is e (sym y ∙ t) ∙ first_many _ _ n start words _ other (ap not (ne_eqb v.number 0 z)))

        module _ (m : ℕ) (em : rewritten ≡ Ok m) where
          few : not (eqb v.number 0) ≡ false
          few = ap (λ (q : Result ℕ Reason). not (eqb (rewriting_by q).verdict.number 0)) em

          count_is : r.count ≡ m
          count_is = ap (λ (q : Result ℕ Reason). (rewriting_by q).count) em

          pub long_record : longest < n → Settles s wrong n start words d (renumbered (settled_by (Err (record { reason = ManySamples; count = m }))) clocks numbers) d'
          long_record l = refuses ManySamples m (sym count_is) (first-long _ _ n start words _ other few l)

          module _ (l : n ≤ longest) where
            pub late_start : n < start → Settles s wrong n start words d (renumbered (settled_by (Err (record { reason = LateStart; count = m }))) clocks numbers) d'
            late_start g = refuses LateStart m (sym count_is) (first_above _ _ n start words _ other few l g)

            module _ (a : start ≤ n) where
              pub small_workspace : words < share * m → Settles s wrong n start words d (renumbered (settled_by (Err (record { reason = SmallWorkspace; count = m }))) clocks numbers) d'
              small_workspace g = refuses SmallWorkspace m (sym count_is) (first_small _ _ n start words _ other few l a (rw count_is g))

              pub settled : share * m ≤ words → Settles s wrong n start words d (renumbered (settled_by (Ok m)) clocks numbers) d'
              settled g =
                  let z : v.number ≡ 0 = ap (λ (q : Result ℕ Reason). (rewriting_by q).verdict.number) em in
                  record {
                    answer = answered accepted (first_none _ _ n start words _ other few l a (rw count_is g));
                    rewriting = r;
                    rewrites = w;
                    count = sym count_is;
                    numbered = λ _. found.numbered z;
                    accepted = λ _. rw count_is at (left z);
                  }
                where
                  left : v.number ≡ 0 → OfClocks s (λ clock. (r.count ≡ new_count s clock) × (take (4 * r.count + 6) d' ≡ new_table s clock))
                  left z =
                      let (clock, right, e) = w.accepted z in
                      let same : 4 * r.count + 6 ≡ 6 + 4 * r.count = omega arith in
                      (clock, right, (e.0, rw same (sym (output_is s d r d' w z clock e))))
