-- What is computed in Computed.antt is what First.antt says: from tests that decide the refusals, one by one. Assumes nothing.
use borrow.Author.Tests.{ltb-true, lt-ltb}
use mathlib.Core.Path.{◌≡◌, refl, ◌∙◌, sym}
use mathlib.Core.Logic.{◌⊎◌, inl, inr}
use mathlib.Core.Bool.{Bool, true, false, cond, true≢false, false≢true}
use mathlib.Core.List.{List, [], ◌∷◌, ◌++◌}
use Prim.Native.Nat.{ℕ, ◌<◌}
use native.Mathlib.Omega.{arith}
use Rattle.telling.specs.Tells.{Tells}
use Rattle.telling.proofs.Telling.{passes, passed}
use Rattle.refusal.specs.First.{Refusal, LowestSuch, when, at_lowest, Answers, NotGiven}
use Rattle.refusal.specs.Computed.{first, Case, at0, at_first, first_case}
use Rattle.refusal.proofs.Firsts.{found_passes, below_found, found_at}
use Rattle.refusal.proofs.Unique.{single_lowest}

-- the test passes exactly if the refusal is given, and the answer is its number and its node
pub record Decided (c : Case) (r : Refusal) : Type 0 where
  pub number : c.answer.number ≡ r.number
  pub to : c.applies ≡ true → r.given c.answer.node
  pub from : (k : ℕ) → r.given k → (c.applies ≡ true) × (k ≡ c.answer.node)

-- each case decides its refusal, where none of those before it is given
abbrev pub Decides : List Case → List Refusal → Type 0
Decides [] [] = Unit {0}
Decides [] (r ∷ rs) = ⊥
Decides (c ∷ cs) [] = ⊥
Decides (c ∷ cs) (r ∷ rs) = Decided c r × (((k : ℕ) → ¬ r.given k) → Decides cs rs)

not_given : {c : Case} {r : Refusal} → Decided c r → c.applies ≡ false → (k : ℕ) → ¬ r.given k
not_given d e k g = false≢true (sym e ∙ (d.from k g).0)

pub not_applied : {c : Case} {r : Refusal} → Decided c r → ((k : ℕ) → ¬ r.given k) → c.applies ≡ false
not_applied {c} d h = go c.applies refl
  where
    go : (b : Bool) → c.applies ≡ b → b ≡ false
    go true e = absurd (h c.answer.node (d.to e))
    go false e = refl

pub answers : (cs : List Case) (rs : List Refusal) → Decides cs rs → Answers rs (first_case cs)
unfolding Answers first_case
answers [] [] d = (refl, refl)
answers [] (r ∷ rs) d = absurd d
answers (c ∷ cs) [] d = absurd d
answers (c ∷ cs) (r ∷ rs) d = go (λ no. answers cs rs (d.1 no)) c.applies refl
  where
    go : (((k : ℕ) → ¬ r.given k) → Answers rs (first_case cs)) → (b : Bool) → c.applies ≡ b
        → (((cond b c.answer (first_case cs)).number ≡ r.number) × r.given (cond b c.answer (first_case cs)).node)
        ⊎ (((k : ℕ) → ¬ r.given k) × Answers rs (cond b c.answer (first_case cs)))
    go later true e = inl (d.0.number, d.0.to e)
    go later false e = inr (not_given d.0 e, later (not_given d.0 e))

pub decides_append : (cs ds : List Case) (rs ss : List Refusal) → Decides cs rs → (NotGiven rs → Decides ds ss) → Decides (cs ++ ds) (rs ++ ss)
decides_append [] ds [] ss d e = e tt
decides_append [] ds (r ∷ rs) ss d e = absurd d
decides_append (c ∷ cs) ds [] ss d e = absurd d
decides_append (c ∷ cs) ds (r ∷ rs) ss d e = (d.0, λ no. decides_append cs ds rs ss (d.1 no) (λ n. e (no, n)))

-- ---- a test that decides a statement decides its refusal

pub decided_when : (i : ℕ) {b : Bool} {Holds : Type 0} → Tells b Holds → Decided (at0 i b) (when i Holds)
decided_when i h = record { number = refl; to = λ e. (refl, h.to (passed e)); from = λ k g. (passes (h.from g.1), g.0) }

pub decided_lowest : (p : ℕ → Bool) (n i : ℕ) {Such : ℕ → Type 0} → ((k : ℕ) → k < n → Tells (p k) (Such k)) → Decided (at_first i n p) (at_lowest i n Such)
decided_lowest p n i {Such} h = record {
  number = refl;
  to = λ e. found (ltb-true (first p 0 n) n e);
  from = λ k g.
      let u = found_at p n k g.below (passes ((h k g.below).from g.such)) in
      let l : first p 0 n < n = let b = g.below in omega arith in
      (lt-ltb (first p 0 n) n l, single_lowest i n Such k (first p 0 n) g (found l));
}
  where
    found : first p 0 n < n → LowestSuch n Such (first p 0 n)
    found l = record {
      below = l;
      such = (h (first p 0 n) l).to (passed (found_passes p n l));
      lowest = λ j u s. true≢false (sym (passes ((h j (omega arith)).from s)) ∙ below_found p n j (omega arith) u);
    }
