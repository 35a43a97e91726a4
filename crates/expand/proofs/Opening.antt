-- What opening a version 3 table answers, case by case. Assumes nothing.
use native.Mathlib.Omega.{arith}
use borrow.Author.Tests.{eqb-true, eq-eqb}
use mathlib.Core.Path.{◌≡◌, refl, ◌∙◌, sym, ap}
use mathlib.Core.Logic.{inl, inr, ⊎_elim}
use mathlib.Core.Bool.{Bool, true, false, not, ◌&&◌, true≢false}
use mathlib.Core.List.{List}
use Prim.Native.Nat.{ℕ, ◌+◌, ◌*◌, ◌-◌, ◌<◌, ◌≤◌}
use lib.Dec.{eqb, ltb}
use lib.ListN.{length, drop}
use Rattle.telling.proofs.Telling.{side}
use Rattle.std.specs.Prelude.{Option, Some, None, Err}
use Rattle.std.specs.Option.{ok_or}
use Rattle.refusal.specs.declared.Reason.{Reason}
use Rattle.refusal.specs.declared.Reason.TheVariants.{WrongRoot, ManyNodes}
use Rattle.refusal.specs.Computed.{accepted}
use Rattle.refusal.specs.Reasons.{verdict_of}
use Rattle.refusal.specs.First.{Refusal, Answers, NotGiven}
use Rattle.refusal.specs.Heading.{version, count}
use Rattle.refusal.proofs.Errors.{refused_by}
use Rattle.refusal.proofs.Given.{answers_stopped, answers_beyond}
use Rattle.nodes.specs.Operators.{sequence, newest}
use Rattle.nodes.specs.Nodes.{sort_at, root}
use Rattle.nodes.proofs.Built.{Built}
use Rattle.table.specs.Check.{refusals_to, ChecksTo}
use Rattle.table.proofs.CheckingTo.{sound, checks_given}
use Rattle.expansion.specs.Expansion.{base_count, expanded_count}
use Rattle.expansion.specs.Formed.{Formed}
use Rattle.expand.specs.Opens.{has_version3, expansion_by, Unfolds, open_refusals, Opens}

-- a derived table has version 3, and its count is that of the expanded table
module _ (s : List ℕ) (derived : has_version3 s ≡ true) where
  pub version_three : version s ≡ 3
  unfolding has_version3
  version_three = go (ltb (length s) 6) derived
    where
      go : (b : Bool) → (not b && eqb (version s) 3) ≡ true → version s ≡ 3
      go true e = absurd (true≢false (sym e))
      go false e = eqb-true (version s) 3 e

  pub counted : expanded_count s ≡ base_count s
  unfolding expanded_count
  counted = rw (eq-eqb (version s) 3 version_three)

-- what a table has that checking accepts, of n nodes
module _ (s : List ℕ) (c : ChecksTo newest s accepted) (n : ℕ) (en : n ≡ count s) where
  ok : Built s
  ok = (sound newest s accepted c refl).formed

  passes : NotGiven (refusals_to newest s)
  passes = checks_given newest s accepted c refl

  pub some : 1 ≤ n
  some = let l = ok.some in omega arith

  pub last_there : 4 * (n - 1) + 10 ≤ length s
  last_there = let l = ok.long in let a = ok.some in omega arith

  pub formed : Formed s n
  formed = let f = ok.few in let l = ok.long in record { few = omega arith; long = omega arith; fit = λ k h. ok.fit k (omega arith) }

  pub heavy : sequence ≤ sort_at s (root s)
  heavy = let r = ok.rooted in let a = ok.some in let k = (ok.fit (root s) (omega arith)).known in omega arith

-- ---- the answers

module _ (s : List ℕ) (derived : has_version3 s ≡ true) (wrong : ℕ) (d : List ℕ) where
  abbrev later : List Refusal
  later = drop 9 (open_refusals s wrong)

  opens_refused : (e : Reason) (d' : List ℕ) → Answers (open_refusals s wrong) (verdict_of e) → Opens s wrong d (expansion_by (Err e)) d'
  opens_refused e d' a = record {
    answer = a;
    count = λ y. absurd (refused_by e y);
    few = λ y. absurd (refused_by e y);
    bytes = λ y. absurd (refused_by e y);
    refused = λ _. refl;
    low = omega arith;
  }

  -- refused by checking
  pub stopped : (e : Reason) → ChecksTo newest s (verdict_of e) → Opens s wrong d (expansion_by (Err e)) d
  unfolding open_refusals
  stopped e c = opens_refused e d (answers_stopped (refusals_to newest s) later (verdict_of e) (refused_by e) c)

  -- o is the number of the root's sort
  module _ (c : ChecksTo newest s accepted) (n : ℕ) (en : n ≡ count s) (o : ℕ) (eo : o ≡ sort_at s (n - 1)) where
    root_sort : o ≡ sort_at s (root s)
    root_sort = eo ∙ ap (λ (i : ℕ). sort_at s (i - 1)) en

    -- refused by the root
    pub wrong_root_lem : o ≡ wrong → Opens s wrong d (expansion_by (Err WrongRoot)) d
    unfolding open_refusals Answers
    wrong_root_lem t =
        opens_refused WrongRoot d
        (answers_beyond (refusals_to newest s) later _ (passes s c n en) (inl (refl, (refl, sym root_sort ∙ t))))

    module _ (f : ¬ (o ≡ wrong)) (d' : List ℕ) where
      right_root : (k : ℕ) → ¬ ((k ≡ 0) × (sort_at s (root s) ≡ wrong))
      right_root k (_, e) = f (root_sort ∙ e)

      -- refused by the size, or opened
      pub answered : (r : Option ℕ) → Unfolds s d r d' → Opens s wrong d (expansion_by (ok_or r ManyNodes)) d'
      unfolding open_refusals Answers
      answered None u =
          let many : 120 < expanded_count s =
          ⊎_elim (λ (g : 120 < base_count s). let a = counted s derived in omega arith) (λ (g : base_count s ≤ 120). absurd (let a = u.count g in let b : ⊥ = cc in b))
          (side 120 (base_count s)) in
          opens_refused ManyNodes d' (answers_beyond (refusals_to newest s) later _ (passes s c n en) (inr (right_root, inl (refl, (refl, many)))))
      answered (Some m) u =
          let few : base_count s ≤ 120 =
          ⊎_elim (λ (g : 120 < base_count s). absurd (let a = u.over g in let b : ⊥ = cc in b)) (λ (g : base_count s ≤ 120). g) (side 120 (base_count s)) in
          let same : m ≡ base_count s = let a = u.count few in cc in
          let small : (k : ℕ) → ¬ ((k ≡ 0) × (120 < expanded_count s)) = λ k y. let g = y.1 in let a = counted s derived in omega arith in
          record {
            answer = answers_beyond (refusals_to newest s) later accepted (passes s c n en) (inr (right_root, inr (small, (refl, refl))));
            count = λ _. same;
            few = λ _. few;
            bytes = λ _. u.bytes few;
            refused = λ y. absurd (y refl);
            low = omega arith;
          }
