-- No second verdict answers the same refusals, where each is given at one node at most. Assumes nothing.
use mathlib.Core.Path.{◌≡◌, ◌∙◌, sym, ap}
use mathlib.Core.Logic.{inl, inr, ⊎_elim}
use mathlib.Core.List.{List, [], ◌∷◌, ◌++◌}
use Prim.Native.Nat.{ℕ, ◌≤◌, ◌<◌}
use native.Mathlib.Nat.{le_of_suc-le-suc, le_antisymm, lt_of_not-le}
use Rattle.telling.proofs.Telling.{decide, is_eq}
use Rattle.refusal.specs.declared.Verdict.{Verdict}
use Rattle.refusal.specs.First.{Refusal, LowestSuch, when, at_lowest, Answers}
use Rattle.refusal.specs.Computed.{refused}

abbrev pub Single : Refusal → Type 0
Single r = (j k : ℕ) → r.given j → r.given k → j ≡ k

pub single_when : (i : ℕ) (Holds : Type 0) → Single (when i Holds)
single_when i Holds j k a b = a.0 ∙ sym b.0

pub single_lowest : (i n : ℕ) (Such : ℕ → Type 0) → Single (at_lowest i n Such)
single_lowest i n Such j k a b = le_antisymm (low j k a b) (low k j b a)
  where
    low : (j k : ℕ) → LowestSuch n Such j → LowestSuch n Such k → j ≤ k
    low j k a b = le_of_suc-le-suc (lt_of_not-le (λ (l : k < j). a.lowest k l b.such))

abbrev pub Singles : List Refusal → Type 0
Singles [] = Unit {0}
Singles (r ∷ rs) = Single r × Singles rs

pub singles_append : (rs ss : List Refusal) → Singles rs → Singles ss → Singles (rs ++ ss)
singles_append [] ss a b = b
singles_append (r ∷ rs) ss a b = (a.0, singles_append rs ss a.1 b)

pub answers_unique : (rs : List Refusal) → Singles rs → (u v : Verdict) → Answers rs u → Answers rs v → u ≡ v
unfolding Answers
answers_unique [] s u v (a, b) (c, d) = λ i. refused ((a ∙ sym c) i) ((b ∙ sym d) i)
answers_unique (r ∷ rs) s u v (inl (a, g)) (inl (b, h)) = λ i. refused ((a ∙ sym b) i) (s.0 u.node v.node g h i)
answers_unique (r ∷ rs) s u v (inl (a, g)) (inr (un, b)) = absurd (un u.node g)
answers_unique (r ∷ rs) s u v (inr (un, a)) (inl (b, h)) = absurd (un v.node h)
answers_unique (r ∷ rs) s u v (inr (un, a)) (inr (un', b)) = answers_unique rs s.1 u v a b

-- two answers to the same refusals: one verdict, and then both are accepted or both refused
pub by_verdict : {R : Type 0} (rs : List Refusal) → Singles rs → (u v : Verdict) → Answers rs u → Answers rs v
    → (u ≡ v → u.number ≡ 0 → v.number ≡ 0 → R) → (u ≡ v → ¬ (u.number ≡ 0) → ¬ (v.number ≡ 0) → R) → R
by_verdict rs s u v a b accepted refused =
    let e = answers_unique rs s u v a b in
    let n : v.number ≡ u.number = ap (λ (w : Verdict). w.number) (sym e) in
    ⊎_elim (λ z. accepted e z (n ∙ z)) (λ z. refused e z (λ y. z (sym n ∙ y))) (decide (is_eq u.number 0))
