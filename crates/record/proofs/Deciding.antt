-- The tests that decide the refusals of reading a record, and what the code answers as it goes through them.
-- Assumes nothing.
use borrow.Author.Tests.{lt-ltb, le-ltb, eq-eqb, ne_eqb}
use mathlib.Core.Path.{◌≡◌, refl, ◌∙◌, sym, ap}
use mathlib.Core.Bool.{not}
use mathlib.Core.List.{List, [], ◌∷◌, ◌++◌}
use Prim.Native.Nat.{ℕ, ◌+◌, ◌*◌, ◌<◌, ◌≤◌}
use lib.Dec.{ltb, eqb}
use lib.ListN.{length, drop}
use Rattle.std.proofs.Common.{Ok, Err}
use Rattle.refusal.specs.declared.Verdict.{Verdict}
use Rattle.refusal.specs.declared.Reason.{Reason}
use Rattle.refusal.specs.declared.Reason.TheVariants.{ManySamples, WrongLength, SmallOutput}
use Rattle.refusal.specs.First.{Answers}
use Rattle.refusal.specs.Computed.{Case, at0, first_case, accepted, heading_cases}
use Rattle.refusal.specs.Reasons.{verdict_of}
use Rattle.refusal.specs.Heading.{count, heading_refusals}
use Rattle.refusal.proofs.Cases.{skip, stop, through}
use Rattle.refusal.proofs.Deciding.{Decides, answers, decided_when, decides_append}
use Rattle.refusal.proofs.Headings.{decides_heading}
use Rattle.refusal.proofs.Errors.{refused_by, heading_refused, heading_accepted}
use Rattle.telling.proofs.Telling.{is_not, is_eq, is_lt}
use Rattle.record.specs.Record.{samples, refusals, Reads}
use Rattle.record.specs.Computed.{reading_by}

-- after the tests of the first six bytes
abbrev pub later_cases : List ℕ → ℕ → List Case
later_cases s words =
    at0 10 (ltb 63 (count s)) ∷ at0 5 (not (eqb (length s) (6 + 8 * count s))) ∷ at0 15 (ltb words (count s)) ∷ []

abbrev pub cases : List ℕ → ℕ → List Case
cases s words = heading_cases 0x57 1 s ++ later_cases s words

pub decides : (s : List ℕ) (words : ℕ) → Decides (cases s words) (refusals s words)
unfolding refusals
decides s words =
    decides_append (heading_cases 0x57 1 s) (later_cases s words) (heading_refusals 0x57 1 s) _ (decides_heading 0x57 1 s)
    (λ _. (
      decided_when 10 (is_lt 63 (count s)),
      λ _. (
        decided_when 5 (is_not (is_eq (length s) (6 + 8 * count s))),
        λ _. (decided_when 15 (is_lt words (count s)), λ _. tt),
      ),
    ))

module _ (s d : List ℕ) where
  answered : (v : Verdict) → v ≡ first_case (cases s (length d)) → Answers (refusals s (length d)) v
  answered v e = rw e (answers (cases s (length d)) (refusals s (length d)) (decides s (length d)))

  refuses : (e : Reason) → verdict_of e ≡ first_case (cases s (length d)) → Reads s d (reading_by (Err e)) d
  refuses e q = record { answer = answered _ q; accepted = λ z. absurd (refused_by e z); refused = λ _. (refl, refl) }

  -- ---- the answers of the code, test by test, where n is what it has of the count

  pub by_heading : (e : Reason) → Answers (heading_refusals 0x57 1 s) (verdict_of e) → Reads s d (reading_by (Err e)) d
  by_heading e a = refuses e (heading_refused 0x57 1 s e a (later_cases s (length d)))

  module _ (a : Answers (heading_refusals 0x57 1 s) accepted) (n : ℕ) (en : n ≡ count s) where
    -- the later cases from the ith on are left
    abbrev Left : ℕ → Type 0
    Left i = first_case (cases s (length d)) ≡ first_case (drop i (later_cases s (length d)))

    left0 : Left 0
    left0 = heading_accepted 0x57 1 s a (later_cases s (length d))

    pub many_samples : 63 < n → Reads s d (reading_by (Err ManySamples)) d
    many_samples g = refuses ManySamples (sym (left0 ∙ stop _ _ _ (lt-ltb _ _ (rw en at g))))

    module _ (few : n ≤ 63) where
      left1 : Left 1
      left1 = left0 ∙ skip _ _ _ (le-ltb _ _ (rw en at few))

      pub wrong_length : ¬ (length s ≡ 6 + 8 * n) → Reads s d (reading_by (Err WrongLength)) d
      wrong_length g = refuses WrongLength (sym (left1 ∙ stop _ _ _ (ap not (ne_eqb _ _ (rw en at g)))))

      module _ (agrees : length s ≡ 6 + 8 * n) where
        left2 : Left 2
        left2 = left1 ∙ skip _ _ _ (ap not (eq-eqb _ _ (rw en at agrees)))

        pub small_output : length d < n → Reads s d (reading_by (Err SmallOutput)) d
        small_output g = refuses SmallOutput (sym (left2 ∙ stop _ _ _ (lt-ltb _ _ (rw en at g))))

        pub reads : n ≤ length d → (d' : List ℕ) → d' ≡ samples s n ++ drop n d → Reads s d (reading_by (Ok n)) d'
        reads g d' e = record {
          answer = answered accepted (sym (left2 ∙ skip _ _ _ (le-ltb _ _ (rw en at g)) ∙ through));
          accepted = λ _. (en, rw en at e);
          refused = λ z. absurd (z refl);
        }
