-- A refusal of the table that rewriting answers, whatever it hands on with it, is the judge's and match ends' too. Assumes nothing.
use native.Mathlib.Omega.{arith}
use mathlib.Core.Path.{◌≡◌, refl}
use mathlib.Core.Logic.{inl, inr}
use mathlib.Core.Bool.{true, not, ◌&&◌}
use mathlib.Core.List.{List, [], ◌∷◌, ◌++◌}
use Prim.Native.Nat.{ℕ, ◌+◌, ◌*◌, ◌<◌}
use lib.Dec.{eqb}
use lib.ListN.{length}
use Rattle.telling.specs.Tells.{Tells}
use Rattle.telling.proofs.Telling.{passed, is_and, is_not, is_eq}
use Rattle.refusal.specs.declared.Verdict.{Verdict}
use Rattle.refusal.specs.First.{Refusal, when, Answers}
use Rattle.refusal.proofs.Given.{answers_after}
use Rattle.table.specs.Check as Check
use Rattle.numbers.specs.Numbers.{new_count}
use Rattle.rewrite.specs.Rewrites.{OfClocks, too_many}
use Rattle.rewrite.specs.Rewrites as Rewrites
use Rattle.rewrite.specs.Computed.{Renumbered, rewriting_of, Renumbers}
use Rattle.settling.specs.Computed.{own_refusals, settling, Settles}

module _ (s : List ℕ) (wrong n start words : ℕ) (d : List ℕ) (room : length d ≡ 486) (r : Renumbered) (d' : List ℕ) (found : Renumbers s d r d') where
  abbrev v : Verdict
  v = r.verdict

  abbrev later : List Refusal
  later = too_many s ∷ when 15 (OfClocks s (λ clock. length d < 6 + 4 * new_count s clock)) ∷ []

  rewritten : Answers (Check.refusals s ++ later) v
  unfolding Rewrites.refusals
  rewritten = found.rewrites.answer

  -- 1 to 9 are answered as they are: 13 and 15 are not, for there is room for 120 nodes
  stopped : ¬ (v.number ≡ 0) → ¬ (v.number ≡ 13) → Answers (settling s wrong n start words) v
  unfolding settling Answers
  stopped z t = answers_after (Check.refusals s) later (own_refusals s wrong n start words) v (λ _ a. absurd (bad a)) rewritten
    where
      bad : Answers later v → ⊥
      bad (inl a) = t a.0
      bad (inr (few, inl (e, (_, (clock, right, l))))) = few 0 (refl, (clock, right, omega arith))
      bad (inr (few, inr (_, (e, _)))) = z e

  asked : Tells (not (eqb v.number 0) && not (eqb v.number 13)) ((¬ (v.number ≡ 0)) × (¬ (v.number ≡ 13)))
  asked = is_and (is_not (is_eq v.number 0)) (is_not (is_eq v.number 13))

  pub of_table_lem : (not (eqb v.number 0) && not (eqb v.number 13)) ≡ true → Settles s wrong n start words d r d'
  of_table_lem t =
      let (z, h) = asked.to (passed t) in
      record {
        answer = stopped z h;
        rewriting = rewriting_of r;
        rewrites = found.rewrites;
        count = grind arith;
        numbered = λ y. absurd (z y);
        accepted = λ y. absurd (z y);
      }
