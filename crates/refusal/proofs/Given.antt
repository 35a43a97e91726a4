-- What an answer says of which refusals are given, and the other way round, in a list and in one list after another. Assumes nothing.
use mathlib.Core.Path.{◌≡◌, refl, ◌∙◌, sym, ap, subst}
use mathlib.Core.Logic.{inl, inr}
use mathlib.Core.Bool.{Bool, true, ◌&&◌}
use mathlib.Core.List.{List, [], ◌∷◌, ◌++◌}
use Prim.Native.Nat.{ℕ}
use native.Mathlib.Omega.{arith}
use lib.Dec.{T, ltb}
use Rattle.telling.proofs.Telling.{is_and, is_lt, is_test}
use Rattle.refusal.specs.declared.Verdict.{Verdict}
use Rattle.refusal.specs.First.{Refusal, Answers, NotGiven, FirstGiven}
use Rattle.refusal.specs.Computed.{refused}
use Rattle.refusal.proofs.Unique.{Singles, answers_unique}

-- ---- what an answer says of the refusals before it

-- the answer has none of these numbers
abbrev pub Other : Verdict → List Refusal → Type 0
Other v [] = Unit {0}
Other v (r ∷ rs) = (¬ (v.number ≡ r.number)) × Other v rs

pub reached : (rs ss : List Refusal) (v : Verdict) → Other v rs → Answers (rs ++ ss) v → NotGiven rs × Answers ss v
unfolding Answers
reached [] ss v o a = (tt, a)
reached (r ∷ rs) ss v o (inl a) = absurd (o.0 a.0)
reached (r ∷ rs) ss v o (inr (un, a)) = let (n, b) = reached rs ss v o.1 a in ((un, n), b)

-- where none of the first is given, the answer is one of the rest
pub beyond : (rs ss : List Refusal) (v : Verdict) → NotGiven rs → Answers (rs ++ ss) v → Answers ss v
unfolding Answers
beyond [] ss v n a = a
beyond (r ∷ rs) ss v n (inl a) = absurd (n.0 v.node a.1)
beyond (r ∷ rs) ss v n (inr (un, a)) = beyond rs ss v n.1 a

-- ---- an acceptance, where each refusal has a number above 0

abbrev pub numbered : List Refusal → Bool
numbered [] = true
numbered (r ∷ rs) = ltb 0 r.number && numbered rs

-- none is given
pub none_given : (rs : List Refusal) → T (numbered rs) → (v : Verdict) → v.number ≡ 0 → Answers rs v → NotGiven rs × (v.node ≡ 0)
unfolding Answers
none_given [] t v z a = (tt, a.1)
none_given (r ∷ rs) t v z (inl a) = let l = ((is_and (is_lt 0 r.number) (is_test (numbered rs))).to t).0 in let e = a.0 in absurd (omega arith)
none_given (r ∷ rs) t v z (inr (un, a)) =
    let (n, e) = none_given rs ((is_and (is_lt 0 r.number) (is_test (numbered rs))).to t).1 v z a in ((un, n), e)

pub not_given-append : (rs ss : List Refusal) → NotGiven (rs ++ ss) → NotGiven rs × NotGiven ss
not_given-append [] ss n = (tt, n)
not_given-append (r ∷ rs) ss n = let (a, b) = not_given-append rs ss n.1 in ((n.0, a), b)

pub not_given_join : (rs ss : List Refusal) → NotGiven rs → NotGiven ss → NotGiven (rs ++ ss)
not_given_join [] ss a b = b
not_given_join (r ∷ rs) ss a b = (a.0, not_given_join rs ss a.1 b)

pub answers_none : (rs : List Refusal) (v : Verdict) → NotGiven rs → v.number ≡ 0 → v.node ≡ 0 → Answers rs v
unfolding Answers
answers_none [] v n z e = (z, e)
answers_none (r ∷ rs) v n z e = inr (n.0, answers_none rs v n.1 z e)

-- ---- one list of refusals for another, after the same first ones

pub answers_after : (rs ss ts : List Refusal) (v : Verdict) → (NotGiven rs → Answers ss v → Answers ts v) → Answers (rs ++ ss) v → Answers (rs ++ ts) v
unfolding Answers
answers_after [] ss ts v f a = f tt a
answers_after (r ∷ rs) ss ts v f (inl a) = inl a
answers_after (r ∷ rs) ss ts v f (inr (un, a)) = inr (un, answers_after rs ss ts v (λ n. f (un, n)) a)

pub answers_beyond : (rs ss : List Refusal) (v : Verdict) → NotGiven rs → Answers ss v → Answers (rs ++ ss) v
unfolding Answers
answers_beyond [] ss v n a = a
answers_beyond (r ∷ rs) ss v n a = inr (n.0, answers_beyond rs ss v n.1 a)

-- a refusal of the first ones is one of all
pub answers_stopped : (rs ss : List Refusal) (v : Verdict) → ¬ (v.number ≡ 0) → Answers rs v → Answers (rs ++ ss) v
unfolding Answers
answers_stopped [] ss v z (n, _) = absurd (z n)
answers_stopped (r ∷ rs) ss v z (inl a) = inl a
answers_stopped (r ∷ rs) ss v z (inr (un, a)) = inr (un, answers_stopped rs ss v z a)

-- ---- what is answered is the first refusal given

-- an answer that is no acceptance is that of a refusal given, with none before it
pub answered_given : (rs : List Refusal) (v : Verdict) → Answers rs v → ¬ (v.number ≡ 0) → FirstGiven rs v
unfolding Answers
answered_given [] v a z = absurd (z a.0)
answered_given (r ∷ rs) v (inl (a, g)) z = record { before = []; refusal = r; after = rs; listed = refl; none = tt; number = a; given = g }
answered_given (r ∷ rs) v (inr (un, a)) z =
    let f = answered_given rs v a z in
    record { before = r ∷ f.before; refusal = f.refusal; after = f.after; listed = ap (λ (ss : List Refusal). r ∷ ss) f.listed; none = (un, f.none); number = f.number; given = f.given }

numbered_in : (rs : List Refusal) (r : Refusal) (ss : List Refusal) → T (numbered (rs ++ (r ∷ ss))) → ¬ (r.number ≡ 0)
numbered_in [] r ss t z = let l = ((is_and (is_lt 0 r.number) (is_test (numbered ss))).to t).0 in omega arith
numbered_in (q ∷ rs) r ss t z = numbered_in rs r ss ((is_and (is_lt 0 q.number) (is_test (numbered (rs ++ (r ∷ ss))))).to t).1 z

-- a refusal that is given, where none before it is, is the answer
pub given_refused : (rs : List Refusal) → Singles rs → T (numbered rs) → (before : List Refusal) (r : Refusal) (after : List Refusal) → rs ≡ before ++ (r ∷ after)
    → NotGiven before → (k : ℕ) → r.given k → (v : Verdict) → Answers rs v → (v.number ≡ r.number) × (v.node ≡ k) × (¬ (v.number ≡ 0))
unfolding Answers
given_refused rs s t before r after e n k g v a =
    let u = refused r.number k in
    let fits = subst (λ (ss : List Refusal). Answers ss u) (sym e) (answers_beyond before (r ∷ after) u n (inl (refl, g))) in
    let same = answers_unique rs s v u a fits in
    let number = ap (λ (w : Verdict). w.number) same in
    (number, ap (λ (w : Verdict). w.node) same, λ z. numbered_in before r after (subst (λ (ss : List Refusal). T (numbered ss)) e t) (sym number ∙ z))

-- with none given the answer is an acceptance
pub none_answered : (rs : List Refusal) → NotGiven rs → (v : Verdict) → Answers rs v → (v.number ≡ 0) × (v.node ≡ 0)
unfolding Answers
none_answered [] n v a = a
none_answered (r ∷ rs) n v (inl (a, g)) = absurd (n.0 v.node g)
none_answered (r ∷ rs) n v (inr (un, a)) = none_answered rs n.1 v a
