-- What the base calls are given for a table of any version: an older table as it is, and the expansion of one that is accepted and not too large. Assumes
-- nothing.
use native.Mathlib.Omega.{arith}
use native.Mathlib.Nat.{le_of_suc-le-suc, lt_of_not-le}
use borrow.Author.Tests.{ne_eqb}
use mathlib.Core.Path.{◌≡◌, refl, ◌∙◌, sym, subst}
use mathlib.Core.Logic.{inl, inr, ⊎_elim, ◌↔◌}
use mathlib.Core.List.{List, [], ◌∷◌, ◌++◌}
use Prim.Native.Nat.{ℕ, ◌≤◌, ◌<◌}
use lib.Dec.{T}
use lib.ListN.{length, drop}
use Rattle.refusal.specs.declared.Verdict.{Verdict}
use Rattle.refusal.specs.First.{Refusal, Answers, NotGiven}
use Rattle.refusal.specs.Heading.{version, count, Known}
use Rattle.refusal.specs.Computed.{accepted}
use Rattle.refusal.proofs.Given.{numbered, none_given, not_given-append, answers_after, answers_beyond, beyond}
use Rattle.meaning.specs.Syntax.{Seq, Prop}
use Rattle.meaning.specs.Pairs.{Atom}
use Rattle.nodes.specs.Operators.{sequence, property, newest, base}
use Rattle.nodes.specs.Nodes.{sort_at, root}
use Rattle.nodes.specs.NodeClock.{Ref}
use Rattle.nodes.proofs.Built.{Built}
use Rattle.table.specs.Trees.{RootS, RootP}
use Rattle.table.specs.Check as Check
use Rattle.table.specs.Check.{refusals_to, ChecksTo, Checks}
use Rattle.table.proofs.Reading.{unique_s, unique_p}
use Rattle.table.proofs.Standing.{sequence_in, property_in}
use Rattle.table.proofs.Within.{not_both}
use Rattle.table.proofs.Checking as Base
use Rattle.table.proofs.CheckingTo.{sound, sorts, checks_none, checks_given}
use Rattle.expansion.specs.Expansion.{expansion, expanded_count, too_large}
use Rattle.expansion.proofs.Theorems.{expansion-sequence, expansion-property, expansion_checks}
use Rattle.clocks.specs.Clocks.{Clocks}
use Rattle.writing.specs.Tables.{new_table}
use Rattle.rewrite.proofs.Theorems.{rewriting_keeps}
use Rattle.calls.specs.Taken.{Older, Opened, Taken, as_it_is, expanded}

-- ---- the root of a table stands for a sequence or for a property

data Rooted (s : List ℕ) : Type 0 where
  by_sequence : sort_at s (root s) ≡ sequence → (r : Seq Atom) → RootS s r → Rooted s
  by_property : sort_at s (root s) ≡ property → (P : Prop Atom) → RootP s P → Rooted s

rooted : (s : List ℕ) → Built s → Rooted s
rooted s ok =
    let l : root s < count s = let h = ok.some in omega arith in
    ⊎_elim (λ e. let (r, c) = sequence_in s (count s) ok.fit (count s) (root s) l l e in by_sequence e r c)
    (λ e. let (P, c) = property_in s (count s) ok.fit (count s) (root s) l l e in by_property e P c)
    (sorts s (root s) (ok.fit (root s) l) ok.rooted)

-- ---- a table that is opened, and its expansion

module _ (s : List ℕ) (o : Opened s) where
  pub built : Built s
  built = (sound newest s accepted o.checks refl).formed

  -- the expansion is accepted
  pub opened_checks : Checks (expansion s) accepted
  opened_checks = expansion_checks s o.checks o.few

  -- its root stands for what the root of s stands for, and for nothing else
  pub same_property : (P : Prop Atom) → RootP s P ↔ RootP (expansion s) P
  same_property P = (expansion-property s built P, λ d. from d (rooted s built))
    where
      from : RootP (expansion s) P → Rooted s → RootP s P
      from d (by_sequence e r c) = absurd (not_both (expansion-sequence s built r c) d)
      from d (by_property e Q c) = subst (RootP s) (unique_p (expansion-property s built Q c) d) c

  pub same_sequence : (r : Seq Atom) → RootS s r ↔ RootS (expansion s) r
  same_sequence r = (expansion-sequence s built r, λ d. from d (rooted s built))
    where
      from : RootS (expansion s) r → Rooted s → RootS s r
      from d (by_sequence e q c) = subst (RootS s) (unique_s (expansion-sequence s built q c) d) c
      from d (by_property e P c) = absurd (not_both d (expansion-property s built P c))

  same_sort : sort_at s (root s) ≡ sort_at (expansion s) (root (expansion s))
  same_sort = both (rooted s built) (rooted (expansion s) (Base.sound (expansion s) accepted opened_checks refl).formed)
    where
      both : Rooted s → Rooted (expansion s) → sort_at s (root s) ≡ sort_at (expansion s) (root (expansion s))
      both (by_sequence e r c) (by_sequence e' r' c') = e ∙ sym e'
      both (by_sequence e r c) (by_property e' P c') = absurd (not_both (expansion-sequence s built r c) c')
      both (by_property e P c) (by_sequence e' r c') = absurd (not_both c' (expansion-property s built P c))
      both (by_property e P c) (by_property e' P' c') = e ∙ sym e'

-- ---- an older table

-- refusal 1 is not given
six_bytes : (s : List ℕ) → ((k : ℕ) → ¬ ((k ≡ 0) × (length s < 6))) → 6 ≤ length s
six_bytes s h = le_of_suc-le-suc (lt_of_not-le (λ g. h 0 (refl, g)))

module _ (s : List ℕ) (old : Older s) where
  -- it is its own expansion, where it is accepted
  pub older_is : NotGiven (refusals_to newest s) → Opened s × (expansion s ≡ s)
  unfolding expansion expanded_count
  older_is n =
      let few : count s ≤ 120 = le_of_suc-le-suc (lt_of_not-le (λ g. n.1.1.1.0 0 (refl, inr g))) in
      let e = ne_eqb (version s) 3 (old (six_bytes s n.0)) in
      (record { checks = checks_none newest s n; few = rw e few }, rw e)

-- of a table that is opened, what the base calls are given is its expansion
pub taken_is : {s t : List ℕ} → Taken s t → Opened s → expansion s ≡ t
taken_is {s} (as_it_is old) o = (older_is s old (checks_given newest s accepted o.checks refl)).1
taken_is (expanded _) o = refl

-- a rewritten table is none of version 3
pub rewritten_taken : (s : List ℕ) → Opened s → (clock : ℕ → Ref) → Clocks (expansion s) clock → Taken (new_table (expansion s) clock) (new_table (expansion s) clock)
rewritten_taken s o clock right =
    let c = opened_checks s o in
    let known = (Base.sound (expansion s) accepted c refl).known in
    let same = (rewriting_keeps (expansion s) accepted c refl clock right).copied in
    as_it_is (λ _ h. omega arith)

-- ---- the refusals of a base call of t, and those of the call of s

-- one more refusal, which is not given
one_more : (rs ss : List Refusal) (x : Refusal) (v : Verdict) → ((k : ℕ) → ¬ x.given k) → Answers (rs ++ ss) v ↔ Answers (rs ++ (x ∷ ss)) v
unfolding Answers
one_more rs ss x v un = (answers_after rs ss (x ∷ ss) v (λ _ a. inr (un, a)), answers_after rs (x ∷ ss) ss v (λ _. beyond (x ∷ []) ss v (un, tt)))

-- 1 to 9 where the versions are 1 to u and where they are 1 to w, of a table whose version is known to both or to neither
module _ (s : List ℕ) (u w : ℕ) (same : 6 ≤ length s → Known u (version s) ↔ Known w (version s)) (xs ys : List Refusal) (v : Verdict) where
  other_newest : (NotGiven (refusals_to w s) → Answers xs v → Answers ys v) → Answers (refusals_to u s ++ xs) v → Answers (refusals_to w s ++ ys) v
  unfolding Answers
  other_newest f (inl a) = inl a
  other_newest f (inr (long, inl a)) = inr (long, inl a)
  other_newest f (inr (long, inr (marked, inl (i, (z, g))))) = inr (long, inr (marked, inl (i, (z, λ k. g ((same (six_bytes s long)).1 k)))))
  other_newest f (inr (long, inr (marked, inr (versed, a)))) = inr (long, inr (marked, inr (known, answers_after (drop 3 (refusals_to w s)) xs ys v (λ n. f (long, (marked, (known, n)))) a)))
    where
      known : (k : ℕ) → ¬ ((k ≡ 0) × (¬ Known w (version s)))
      known k (z, g) = versed k (z, λ h. g ((same (six_bytes s long)).0 h))

-- those of the base call: 1 to 9, then `pre` by the sort of the root, then `rest`; the call gives 13 between the two, and `rest` of the expansion
module _ (pre : ℕ → List Refusal) (rest : List ℕ → List Refusal) where
  abbrev base_own : List ℕ → List Refusal
  base_own t = pre (sort_at t (root t)) ++ rest t

  abbrev call_own : List ℕ → List Refusal
  call_own s = pre (sort_at s (root s)) ++ (too_large s ∷ rest (expansion s))

  abbrev of_base : List ℕ → List Refusal
  of_base t = Check.refusals t ++ base_own t

  abbrev of_call : List ℕ → List Refusal
  of_call s = refusals_to newest s ++ call_own s

  module _ (s : List ℕ) (v : Verdict) where
    -- the expansion of a table that is opened is not too large
    not_large : Opened s → Answers (pre (sort_at s (root s)) ++ rest (expansion s)) v ↔ Answers (call_own s) v
    not_large o = one_more (pre (sort_at s (root s))) (rest (expansion s)) (too_large s) v (λ k g. let l = o.few in let h = g.1 in omega arith)

    older_answers : Older s → Answers (of_base s) v ↔ Answers (of_call s) v
    unfolding Check.refusals
    older_answers old = (
      other_newest s base newest known (base_own s) (call_own s) v (λ n. (later n).0),
      other_newest s newest base (λ l. ((known l).1, (known l).0)) (call_own s) (base_own s) v (λ n. (later (newer n)).1),
    )
      where
        known : 6 ≤ length s → Known base (version s) ↔ Known newest (version s)
        known l = (λ h. omega arith, λ h. let e = old l in omega arith)

        newer : NotGiven (refusals_to base s) → NotGiven (refusals_to newest s)
        newer (n1, (n2, (n3, n))) = (n1, (n2, (λ k g. n3 k (g.0, λ h. g.1 ((known (six_bytes s n1)).0 h)), n)))

        later : NotGiven (refusals_to newest s) → Answers (base_own s) v ↔ Answers (call_own s) v
        later n =
            let (o, e) = older_is s old n in
            subst (λ (t : List ℕ). Answers (pre (sort_at s (root s)) ++ rest t) v ↔ Answers (call_own s) v) e (not_large o)

    opened_answers : Opened s → Answers (of_base (expansion s)) v ↔ Answers (of_call s) v
    opened_answers o = (
      λ a. answers_beyond (refusals_to newest s) (call_own s) v given (same.0 (beyond (Check.refusals (expansion s)) (base_own (expansion s)) v given' a)),
      λ a. answers_beyond (Check.refusals (expansion s)) (base_own (expansion s)) v given' (same.1 (beyond (refusals_to newest s) (call_own s) v given a)),
    )
      where
        given : NotGiven (refusals_to newest s)
        given = checks_given newest s accepted o.checks refl

        given' : NotGiven (Check.refusals (expansion s))
        given' = Base.checks_given (expansion s) accepted (opened_checks s o) refl

        same : Answers (base_own (expansion s)) v ↔ Answers (call_own s) v
        same = subst (λ (k : ℕ). Answers (pre k ++ rest (expansion s)) v ↔ Answers (call_own s) v) (same_sort s o) (not_large o)

    -- the two answer the same
    pub taken_answers : {t : List ℕ} → Taken s t → Answers (of_base t) v ↔ Answers (of_call s) v
    taken_answers (as_it_is old) = older_answers old
    taken_answers (expanded o) = opened_answers o

    -- a call that accepts has opened the table
    pub call_opened : T (numbered (of_call s)) → v.number ≡ 0 → Answers (of_call s) v → Opened s
    call_opened t z a =
        let (table, own) = not_given-append (refusals_to newest s) (call_own s) (none_given (of_call s) t v z a).0 in
        let (_, large) = not_given-append (pre (sort_at s (root s))) (too_large s ∷ rest (expansion s)) own in
        record { checks = checks_none newest s table; few = le_of_suc-le-suc (lt_of_not-le (λ g. large.0 0 (refl, g))) }
