-- The tests of a file's first six bytes decide refusals 1, 2 and 3.
-- Assumes nothing.
use borrow.Author.Tests.{ltb-false, lt-ltb, le-ltb}
use mathlib.Core.Path.{◌≡◌, refl, ◌∙◌, sym, ap, subst}
use mathlib.Core.Bool.{Bool, true, false, not, ◌&&◌}
use mathlib.Core.List.{List, [], ◌∷◌, ◌++◌}
use Prim.Native.Nat.{ℕ, ◌+◌, ◌*◌, ◌≤◌, ◌<◌}
use native.Mathlib.Nat.{lt_of_not-le, le_of_suc-le-suc}
use native.Mathlib.Omega.{arith}
use lib.Dec.{T, eqb}
use lib.ListN.{length, get_or, take, drop}
use lib.Pointwise.{pointwise}
use lib.Seq.{get_or-take}
use Rattle.telling.specs.Tells.{Tells}
use Rattle.telling.proofs.Telling.{is_map, is_and, is_not, is_eq, is_le, is_lt}
use Rattle.refusal.specs.declared.Verdict.{Verdict}
use Rattle.refusal.specs.Computed.{Case, first_case, refused, accepted, heading_cases, is_marked, is_known}
use Rattle.refusal.specs.First.{Answers, when}
use Rattle.refusal.specs.Heading.{heading_refusals, Known, mark, version}
use Rattle.refusal.proofs.Cases.{refuses, none, after, before, skip, stop, through}
use Rattle.refusal.proofs.Deciding.{Decides, answers, decided_when}
use Rattle.refusal.proofs.Unique.{Singles, single_when, answers_unique}

marked_tells : (letter : ℕ) (s : List ℕ) → 6 ≤ length s → Tells (is_marked letter s) (take 3 s ≡ mark letter)
unfolding is_marked
marked_tells letter s l =
    is_map (is_and (is_eq (get_or s 0 0) 83) (is_and (is_eq (get_or s 1 0) 86) (is_eq (get_or s 2 0) letter))) (to s l) (from s)
  where
    to : (s : List ℕ) → 6 ≤ length s → (get_or s 0 0 ≡ 83) × ((get_or s 1 0 ≡ 86) × (get_or s 2 0 ≡ letter)) → take 3 s ≡ mark letter
    to [] l q = absurd (omega arith)
    to (a ∷ []) l q = absurd (omega arith)
    to (a ∷ b ∷ []) l q = absurd (omega arith)
    to (a ∷ b ∷ c ∷ s) l q = λ i. q.0 i ∷ q.1.0 i ∷ q.1.1 i ∷ []

    from : (s : List ℕ) → take 3 s ≡ mark letter → (get_or s 0 0 ≡ 83) × ((get_or s 1 0 ≡ 86) × (get_or s 2 0 ≡ letter))
    from s e = (at 0 (omega arith), (at 1 (omega arith), at 2 (omega arith)))
      where
        at : (i : ℕ) → i < 3 → get_or s i 0 ≡ get_or (mark letter) i 0
        at i l = sym (get_or-take 3 s i 0 l) ∙ ap (λ t. get_or t i 0) e

-- the two bytes of the version, the low one first
pub version_is : (s : List ℕ) → 6 ≤ length s → get_or s 3 0 + get_or s 4 0 * 256 ≡ version s
version_is [] l = absurd (omega arith)
version_is (p ∷ []) l = absurd (omega arith)
version_is (p ∷ q ∷ []) l = absurd (omega arith)
version_is (p ∷ q ∷ r ∷ []) l = absurd (omega arith)
version_is (p ∷ q ∷ r ∷ x ∷ []) l = absurd (omega arith)
version_is (p ∷ q ∷ r ∷ x ∷ y ∷ s) l = omega arith

-- the first three bytes are compared as a list
pub marked_is : (letter : ℕ) (s : List ℕ) → 6 ≤ length s → pointwise eqb (take 3 s) (83 ∷ 86 ∷ letter ∷ []) ≡ is_marked letter s
unfolding is_marked
marked_is letter [] l = absurd (omega arith)
marked_is letter (a ∷ []) l = absurd (omega arith)
marked_is letter (a ∷ b ∷ []) l = absurd (omega arith)
marked_is letter (a ∷ b ∷ c ∷ s) l = last (eqb a 83) (eqb b 86) (eqb c letter)
  where
    last : (p q r : Bool) → p && (q && (r && true)) ≡ p && (q && r)
    last true true true = refl
    last true true false = refl
    last true false r = refl
    last false q r = refl

known_tells : (newest v : ℕ) → Tells (is_known newest v) (Known newest v)
known_tells newest v = is_and (is_le 1 v) (is_le v newest)

-- where 3 is not given the version is known
pub known_if : (newest v : ℕ) → ((k : ℕ) → ¬ (when 3 (¬ Known newest v)).given k) → Known newest v
known_if newest v h = (
  le_of_suc-le-suc (lt_of_not-le (λ (l : v < 1). h 0 (refl, λ k. let o = k.0 in omega arith))),
  le_of_suc-le-suc (lt_of_not-le (λ (l : newest < v). h 0 (refl, λ k. let o = k.1 in omega arith))),
)

pub decides_heading : (letter newest : ℕ) (s : List ℕ) → Decides (heading_cases letter newest s) (heading_refusals letter newest s)
unfolding heading_cases
decides_heading letter newest s = (
  decided_when 1 (is_lt (length s) 6),
  λ long.
      let l : 6 ≤ length s = le_of_suc-le-suc (lt_of_not-le (λ h. long 0 (refl, h))) in
      (decided_when 2 (is_not (marked_tells letter s l)), λ _. (decided_when 3 (is_not (known_tells newest (version s))), λ _. tt)),
)

pub heading-refuses : (letter newest : ℕ) (s : List ℕ) → T (refuses (heading_cases letter newest s))
unfolding heading_cases
heading-refuses letter newest s = tt

pub heading_singles : (letter newest : ℕ) (s : List ℕ) → Singles (heading_refusals letter newest s)
heading_singles letter newest s = (single_when 1 _, (single_when 2 _, (single_when 3 _, tt)))

-- what the tests answer is the first that applies
pub heading_answers : (letter newest : ℕ) (s : List ℕ) (v : Verdict) → v ≡ first_case (heading_cases letter newest s) → Answers (heading_refusals letter newest s) v
heading_answers letter newest s v e = subst (Answers (heading_refusals letter newest s)) (sym e) (answers (heading_cases letter newest s) (heading_refusals letter newest s) (decides_heading letter newest s))

-- the answers of the code, test by test: m is what it has of the mark and v of the version
module _ (letter newest : ℕ) (s : List ℕ) where
  answered : (u : Verdict) → first_case (heading_cases letter newest s) ≡ u → Answers (heading_refusals letter newest s) u
  answered u e = heading_answers letter newest s u (sym e)

  pub few_bytes : length s < 6 → Answers (heading_refusals letter newest s) (refused 1 0)
  unfolding heading_cases
  few_bytes h = answered _ (stop _ _ _ (lt-ltb _ _ h))

  module _ (l : 6 ≤ length s) where
    long : first_case (heading_cases letter newest s) ≡ first_case (drop 1 (heading_cases letter newest s))
    unfolding heading_cases
    long = skip _ _ _ (le-ltb _ _ l)

    pub wrong_mark : (m : Bool) → m ≡ is_marked letter s → not m ≡ true → Answers (heading_refusals letter newest s) (refused 2 0)
    unfolding heading_cases
    wrong_mark m em h = answered _ (long ∙ stop _ _ _ (ap not (sym em) ∙ h))

    module _ (m : Bool) (em : m ≡ is_marked letter s) (hm : not m ≡ false) where
      marked : first_case (heading_cases letter newest s) ≡ first_case (drop 2 (heading_cases letter newest s))
      unfolding heading_cases
      marked = long ∙ skip _ _ _ (ap not (sym em) ∙ hm)

      module _ (n : ℕ) (en : n ≡ version s) (v : Bool) (ev : v ≡ is_known newest n) where
        known_is : not v ≡ not (is_known newest (version s))
        known_is = ap not (ev ∙ ap (is_known newest) en)

        pub unknown_version : not v ≡ true → Answers (heading_refusals letter newest s) (refused 3 0)
        unfolding heading_cases
        unknown_version h = answered _ (marked ∙ stop _ _ _ (sym known_is ∙ h))

        pub known_version : not v ≡ false → Answers (heading_refusals letter newest s) accepted
        unfolding heading_cases
        known_version h = answered _ (marked ∙ skip _ _ _ (sym known_is ∙ h) ∙ through)

-- and what follows them, from that answer
module _ (letter newest : ℕ) (s : List ℕ) (v : Verdict) (a : Answers (heading_refusals letter newest s) v) where
  pub heading-only : v ≡ first_case (heading_cases letter newest s)
  heading-only = answers_unique (heading_refusals letter newest s) (heading_singles letter newest s) v (first_case (heading_cases letter newest s)) a (heading_answers letter newest s _ refl)

  heading-number : v.number ≡ (first_case (heading_cases letter newest s)).number
  heading-number = ap (λ (u : Verdict). u.number) heading-only

  pub heading_stops : ¬ (v.number ≡ 0) → (ds : List Case) → v ≡ first_case (heading_cases letter newest s ++ ds)
  heading_stops h ds = heading-only ∙ sym (before (heading_cases letter newest s) ds (λ z. h (heading-number ∙ z)))

  module _ (h : v.number ≡ 0) where
    pub heading_passes : (ds : List Case) → first_case (heading_cases letter newest s ++ ds) ≡ first_case ds
    heading_passes ds = after (heading_cases letter newest s) ds (heading-refuses letter newest s) (sym heading-number ∙ h)

    pub heading-long : 6 ≤ length s
    unfolding heading_cases
    heading-long = ltb-false (length s) 6 (none (heading_cases letter newest s) (heading-refuses letter newest s) (sym heading-number ∙ h)).0
