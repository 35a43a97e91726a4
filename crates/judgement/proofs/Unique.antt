-- Of an accepted table the meaning leaves one answer: two that fit are the same. Assumes nothing.
use mathlib.Core.Path.{◌≡◌, refl, subst, sym, ◌∙◌}
use mathlib.Core.Bool.{false}
use mathlib.Core.List.{List}
use Prim.Native.Nat.{ℕ}
use Rattle.telling.specs.Tells.{Tells}
use Rattle.telling.proofs.Telling.{same_test}
use Rattle.refusal.specs.Computed.{accepted}
use Rattle.meaning.specs.Syntax.{Prop}
use Rattle.meaning.specs.Meaning.{Level}
use Rattle.meaning.specs.Tested.{Tests}
use Rattle.meaning.specs.Pairs.{Atom, reading, pairs}
use Rattle.meaning.proofs.Theorems.{level_unique}
use Rattle.table.specs.Check.{Checks}
use Rattle.table.proofs.Reading.{unique_p}
use Rattle.table.proofs.Checking.{accepted_root}
use Rattle.judgement.specs.declared.Judgement.{Judgement}
use Rattle.judgement.specs.Meant.{Meant}

pub meant_unique : (s xs : List ℕ) → Checks s accepted → (r q : Judgement) → r.verdict ≡ q.verdict → Meant s xs r → Meant s xs q → r ≡ q
meant_unique s xs ok r q v a b = λ i. record { verdict = v i; level = record { number = levels i }; tested = tests i }
  where
    levels : r.level.number ≡ q.level.number
    levels =
        let (P, f, l) = a.level in
        let (Q, g, m) = b.level in
        level_unique reading P (accepted_root s accepted ok refl P f) (pairs xs) l (subst (λ (Q : Prop Atom). Level reading Q (pairs xs) q.level.number) (unique_p g f) m)

    tests : r.tested ≡ q.tested
    tests =
        let (P, f, t) = a.tested in
        let (Q, g, u) = b.tested in
        same_test t (subst (λ (Q : Prop Atom). Tells q.tested (Tests reading (pairs xs) Q)) (unique_p g f) u)

-- a refusal has level 0 and is not tested
pub refused_unique : (r q : Judgement) → r.verdict ≡ q.verdict → (r.level.number ≡ 0) × (r.tested ≡ false) → (q.level.number ≡ 0) × (q.tested ≡ false) → r ≡ q
refused_unique r q v a b = λ i. record { verdict = v i; level = record { number = (a.0 ∙ sym b.0) i }; tested = (a.1 ∙ sym b.1) i }
