-- The first case that applies: one case at a time, and one list of cases after another. Assumes nothing.
use borrow.Author.Tests.{ltb-true}
use mathlib.Core.Path.{◌≡◌, refl}
use mathlib.Core.Bool.{Bool, true, false, cond, ◌&&◌}
use mathlib.Core.List.{List, [], ◌∷◌, ◌++◌}
use native.Mathlib.Omega.{arith}
use lib.Dec.{T, ltb}
use Rattle.refusal.specs.declared.Verdict.{Verdict}
use Rattle.refusal.specs.Computed.{Case, first_case, accepted}

-- ---- one case at a time

pub skip : (b : Bool) (v : Verdict) (cs : List Case) → b ≡ false → first_case (record { applies = b; answer = v } ∷ cs) ≡ first_case cs
unfolding first_case
skip b v cs e = rw e

pub stop : (b : Bool) (v : Verdict) (cs : List Case) → b ≡ true → first_case (record { applies = b; answer = v } ∷ cs) ≡ v
unfolding first_case
stop b v cs e = rw e

pub through : first_case [] ≡ accepted
unfolding first_case
through = refl

-- ---- an acceptance says that no case applies, where each answer is a refusal

abbrev pub NoneApplies : List Case → Type 0
NoneApplies [] = Unit {0}
NoneApplies (c ∷ cs) = (c.applies ≡ false) × NoneApplies cs

abbrev pub refuses : List Case → Bool
refuses [] = true
refuses (c ∷ cs) = ltb 0 c.answer.number && refuses cs

pub none : (cs : List Case) → T (refuses cs) → (first_case cs).number ≡ 0 → NoneApplies cs
unfolding first_case
none [] t e = tt
none (c ∷ cs) t e = go (none cs) c.applies refl (ltb 0 c.answer.number) refl t
  where
    go : (T (refuses cs) → (first_case cs).number ≡ 0 → NoneApplies cs) → (b : Bool) → c.applies ≡ b → (l : Bool) → ltb 0 c.answer.number ≡ l →
        T (l && refuses cs) → NoneApplies (c ∷ cs)
    go ih b p false q u = absurd u
    go ih true p true q u =
        let z : c.answer.number ≡ 0 = simp p at e in
        let w : ⊥ = omega (arith, ltb-true) in
        absurd w
    go ih false p true q u = (p, ih u (simp p at e))

-- ---- one list after another: where the first gives a refusal it is answered, else the second is asked

pub after : (cs ds : List Case) → T (refuses cs) → (first_case cs).number ≡ 0 → first_case (cs ++ ds) ≡ first_case ds
unfolding first_case
after cs ds t e = go cs (none cs t e)
  where
    go : (cs : List Case) → NoneApplies cs → first_case (cs ++ ds) ≡ first_case ds
    go [] n = refl
    go (c ∷ cs) n = rw n.0 (go cs n.1)

pub before : (cs ds : List Case) → ((first_case cs).number ≡ 0 → ⊥) → first_case (cs ++ ds) ≡ first_case cs
unfolding first_case
before [] ds z = absurd (z refl)
before (c ∷ cs) ds z = go (before cs ds) c.applies refl z
  where
    go : (((first_case cs).number ≡ 0 → ⊥) → first_case (cs ++ ds) ≡ first_case cs) → (b : Bool) → c.applies ≡ b → ((cond b c.answer (first_case cs)).number ≡ 0 → ⊥)
        → cond b c.answer (first_case (cs ++ ds)) ≡ cond b c.answer (first_case cs)
    go later true e z = refl
    go later false e z = later z
