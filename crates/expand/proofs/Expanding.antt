-- What expanding answers, case by case: of a derived table by opening it, of an older one by copying it. Assumes nothing.
use native.Mathlib.Omega.{arith}
use borrow.Author.Tests.{eq-eqb, ne_eqb, le-ltb}
use mathlib.Core.Path.{◌≡◌, refl, ◌∙◌, sym, ap}
use mathlib.Core.Logic.{inl, inr}
use mathlib.Core.Bool.{true, false, true≢false}
use mathlib.Core.List.{List, ◌++◌}
use Prim.Native.Nat.{ℕ, ◌+◌, ◌*◌, ◌<◌, ◌≤◌}
use lib.ListN.{length, take, drop}
use lib.Seq.{take_at}
use Rattle.std.specs.Prelude.{Ok, Err}
use Rattle.refusal.specs.declared.Reason.{Reason}
use Rattle.refusal.specs.declared.Reason.TheVariants.{SmallOutput}
use Rattle.refusal.specs.Computed.{accepted}
use Rattle.refusal.specs.Reasons.{verdict_of}
use Rattle.refusal.specs.First.{Answers, NotGiven}
use Rattle.refusal.specs.Heading.{version, count}
use Rattle.refusal.proofs.Given.{none_given, not_given-append, answers_after, answers_stopped, answers_beyond}
use Rattle.nodes.specs.Operators.{none, newest}
use Rattle.nodes.specs.Nodes.{root}
use Rattle.nodes.proofs.Built.{Built}
use Rattle.table.specs.Check.{refusals_to, ChecksTo}
use Rattle.table.proofs.CheckingTo.{sound, checks_given, checks_none}
use Rattle.encoding.specs.Encoding.{put}
use Rattle.expansion.specs.Expansion.{base_table, expansion, expanded_count}
use Rattle.expansion.proofs.Theorems.{length-table}
use Rattle.expand.specs.declared.Expansion.{Expansion}
use Rattle.expand.specs.Expands.{expand_refusals, Expands}
use Rattle.expand.specs.Opens.{has_version3, expansion_by, open_refusals, Opens}
use Rattle.refusal.proofs.Errors.{refused_by}
use Rattle.expand.proofs.Opening.{version_three, counted}

-- ---- a refusal, and an acceptance that leaves the expansion

module _ (s d : List ℕ) where
  declined : (e : Reason) → Answers (expand_refusals s (length d)) (verdict_of e) → Expands s d (expansion_by (Err e)) d
  declined e a = record { answer = a; accepted = λ y. absurd (refused_by e y); refused = λ _. (refl, refl) }

  -- the table passes, and so does its size; u is the expansion
  module _ (n : NotGiven (refusals_to newest s)) (few : expanded_count s ≤ 120) (u : List ℕ) (eu : u ≡ expansion s) where
    long_is : length u ≡ length (expansion s)
    long_is = ap length eu

    small : length d < length u → Expands s d (expansion_by (Err SmallOutput)) d
    unfolding expand_refusals Answers
    small room =
        declined SmallOutput
        (answers_beyond (refusals_to newest s) (drop 9 (expand_refusals s (length d))) _ n
        (inr (λ k g. let a = g.1 in omega arith, inl (refl, (refl, let l = long_is in omega arith)))))

    copied : length u ≤ length d → (m : ℕ) → m ≡ expanded_count s → (d' : List ℕ) → d' ≡ u ++ drop (length u) d → Expands s d (expansion_by (Ok m)) d'
    unfolding expand_refusals Answers
    copied room m em d' e = record {
      answer =
          answers_beyond (refusals_to newest s) (drop 9 (expand_refusals s (length d))) accepted n
          (inr (λ k g. let a = g.1 in omega arith, inr (λ k g. let a = g.1 in let l = long_is in omega arith, (refl, refl))));
      accepted = λ _. (em, e ∙ ap (λ (t : List ℕ). t ++ drop (length t) d) eu);
      refused = λ y. absurd (y refl);
    }

-- ---- of a derived table

module _ (s : List ℕ) (derived : has_version3 s ≡ true) (e e' : List ℕ) where
  pub not_opened : (r : Reason) → Opens s none e (expansion_by (Err r)) e' → (d : List ℕ) → Expands s d (expansion_by (Err r)) d
  unfolding open_refusals expand_refusals Answers
  not_opened r h d =
      declined s d r (answers_after (refusals_to newest s) (drop 9 (open_refusals s none)) (drop 9 (expand_refusals s (length d))) (verdict_of r) own h.answer)
    where
      -- an accepted table's root has a sort
      own : NotGiven (refusals_to newest s) → Answers (drop 9 (open_refusals s none)) (verdict_of r) → Answers (drop 9 (expand_refusals s (length d))) (verdict_of r)
      own n (inl (_, (_, g))) =
          let ok = (sound newest s _ (checks_none newest s n) refl).formed in
          absurd (let l = ok.some in (ok.fit (root s) (omega arith)).known g)
      own n (inr (_, inl g)) = inl g
      own n (inr (_, inr (_, (y, _)))) = absurd (refused_by r y)

  -- opened, with m nodes
  module _ (m : ℕ) (h : Opens s none e (expansion_by (Ok m)) e') where
    both : NotGiven (refusals_to newest s)
    unfolding open_refusals
    both = (not_given-append (refusals_to newest s) (drop 9 (open_refusals s none)) (none_given (open_refusals s none) tt accepted refl h.answer).0).0

    few : expanded_count s ≤ 120
    few = let c = counted s derived in let l = h.few refl in omega arith

    expansion_is : take (4 * m + 6) e' ≡ expansion s
    unfolding put expansion
    expansion_is =
        let c = h.count refl in
        let b = length-table s in
        ap (take (4 * m + 6)) (h.bytes refl) ∙ take_at (base_table s) (drop (0 + length (base_table s)) e) (4 * m + 6) (omega arith)
        ∙ sym (rw (eq-eqb (version s) 3 (version_three s derived)))

    pub new_small : (d : List ℕ) → length d < length (take (4 * m + 6) e') → Expands s d (expansion_by (Err SmallOutput)) d
    new_small d = small s d both few (take (4 * m + 6) e') expansion_is

    pub new_copied : (d : List ℕ) → length (take (4 * m + 6) e') ≤ length d → (d' : List ℕ) → d' ≡ take (4 * m + 6) e' ++ drop (length (take (4 * m + 6) e')) d
        → Expands s d (expansion_by (Ok m)) d'
    new_copied d l = copied s d both few (take (4 * m + 6) e') expansion_is l m (h.count refl ∙ sym (counted s derived))

-- too little room for what was opened, by the count that any answer without a refusal has
pub too_small_lem : (s : List ℕ) → has_version3 s ≡ true → (e : List ℕ) (r : Expansion) (e' : List ℕ) → Opens s none e r e' → r.verdict.number ≡ 0
    → (d : List ℕ) → length d < 4 * r.count + 6 → Expands s d (expansion_by (Err SmallOutput)) d
unfolding open_refusals expansion
too_small_lem s derived e r e' h z d l =
    let n = (not_given-append (refusals_to newest s) (drop 9 (open_refusals s none)) (none_given (open_refusals s none) tt r.verdict z h.answer).0).0 in
    let few : expanded_count s ≤ 120 = let a = counted s derived in let b = h.few z in omega arith in
    let long : length (expansion s) ≡ length (base_table s) = rw (eq-eqb (version s) 3 (version_three s derived)) in
    let c = h.count z in
    let b = length-table s in
    small s d n few (expansion s) refl (omega arith)

-- ---- of an older table

module _ (s : List ℕ) (older : has_version3 s ≡ false) where
  pub refused_table : (e : Reason) → ChecksTo newest s (verdict_of e) → (d : List ℕ) → Expands s d (expansion_by (Err e)) d
  unfolding expand_refusals
  refused_table e c d = declined s d e (answers_stopped (refusals_to newest s) (drop 9 (expand_refusals s (length d))) (verdict_of e) (refused_by e) c)

  module _ (c : ChecksTo newest s accepted) where
    ok : Built s
    ok = (sound newest s accepted c refl).formed

    not_three : ¬ (version s ≡ 3)
    unfolding has_version3
    not_three e = true≢false (sym (rw (le-ltb (length s) 6 (let l = ok.long in omega arith), eq-eqb (version s) 3 e)) ∙ older)

    expansion_same : s ≡ expansion s
    unfolding expansion
    expansion_same = rw (ne_eqb (version s) 3 not_three)

    count_same : expanded_count s ≡ count s
    unfolding expanded_count
    count_same = rw (ne_eqb (version s) 3 not_three)

    few_old : expanded_count s ≤ 120
    few_old = let e = count_same in let l = ok.few in omega arith

    pub old_small : (d : List ℕ) → length d < length s → Expands s d (expansion_by (Err SmallOutput)) d
    old_small d = small s d (checks_given newest s accepted c refl) few_old s expansion_same

    pub old_copied : (n : ℕ) → n ≡ count s → (d : List ℕ) → length s ≤ length d → (d' : List ℕ) → d' ≡ s ++ drop (length s) d
        → Expands s d (expansion_by (Ok n)) d'
    old_copied n en d l = copied s d (checks_given newest s accepted c refl) few_old s expansion_same l n (en ∙ sym count_same)
