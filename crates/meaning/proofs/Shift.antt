-- Satisfaction looks at nothing but the letters from its position on: `Sat w i` is satisfaction of suffix i from its start, and
-- positions in a constant tail count as one. Assumes nothing.
use mathlib.Core.Bool.{Bool, not}
use mathlib.Core.Path.{◌≡◌, sym, ap, subst}
use mathlib.Core.Logic.{◌⊎◌, inl, inr, ◌↔◌}
use Prim.Native.Nat.{ℕ, zero, suc, ◌+◌, ◌-◌, ◌≤◌, ◌<◌}
use native.Mathlib.Omega.{arith}
use lib.Dec.{T}
use Rattle.meaning.specs.Syntax.{Bexp, Seq, Prop, strong, weak, neg, either, both, implies, next, until, under, Clock, free, on}
use Rattle.meaning.specs.Words.{Word, inside, is_bot, flip, bar, cut, suffix, NoBot}
use Rattle.meaning.specs.Meaning.{Match, counts, ticks, Second, Strong, Sat}
use Rattle.meaning.proofs.Order.{Below, same, carry}
use Rattle.telling.proofs.Telling.{side}
use Rattle.meaning.proofs.Words.{cut_in, cut_out}

-- w from i on is v from j on
abbrev pub Agree : {S : Type 0} → Word S → Word S → ℕ → ℕ → Type 0
Agree w v i j = (p q : ℕ) → i ≤ p → q + i ≡ p + j → w p ≡ v q

module _ {S : Type 0} where
  agree_sym : (w v : Word S) (i j : ℕ) → Agree w v i j → Agree v w j i
  agree_sym w v i j h p q u e = sym (h q p (omega arith) (sym e))

  agree_bar : (w v : Word S) (i j : ℕ) → Agree w v i j → Agree (bar w) (bar v) i j
  agree_bar w v i j h p q u e = ap flip (h p q u e)

  agree_on : (w v : Word S) (i j k l : ℕ) → Agree w v i j → i ≤ k → l + i ≡ k + j → Agree w v k l
  agree_on w v i j k l h u e p q x y = h p q (omega arith) (omega arith)

  agree_cut : (w v : Word S) (i j m n : ℕ) → Agree w v i j → n + i ≡ m + j → Agree (cut w m) (cut v n) i j
  agree_cut w v i j m n h e p q u z = go (side p m)
    where
      go : (p < m) ⊎ (m ≤ p) → cut w m p ≡ cut v n q
      go (inl x) = rw (cut_in w m p x, cut_in v n q (omega arith)) (h p q u z)
      go (inr x) = rw (cut_out w m p x, cut_out v n q (omega arith))

module _ {A S : Type 0} (reads : A → S → Bool) where
  match_shift : (κ : Clock A) (r : Seq A) (w v : Word S) (i j k l : ℕ) → Agree w v i j → l + i ≡ k + j → Match reads κ r w i k → Match reads κ r v j l
  match_shift κ r w v i j k l h e m =
      carry reads κ r w v i j i k j l (omega arith) e (λ p q z u x. subst (λ y. Below (w p) y) (h p q u z) same) m

  strong_shift : (κ : Clock A) (r : Seq A) (w v : Word S) (i j : ℕ) → Agree w v i j → Strong reads κ r w i → Strong reads κ r v j
  unfolding Strong
  strong_shift κ r w v i j h (k, l, m) = (k + j - i, omega arith, match_shift κ r w v i j k (k + j - i) h (omega arith) m)

  second_shift : (c : Bexp A) (w v : Word S) (i j k l : ℕ) → Agree w v i j → l + i ≡ k + j → Second reads c w i k → Second reads c v j l
  unfolding Second
  second_shift c w v i j k l h e (n, a, b, tn, tk, uniq) =
      let at : (p q : ℕ) → i ≤ p → q + i ≡ p + j → T (ticks reads c (w p)) → T (ticks reads c (v q)) = λ p q u z. subst (λ x. T (ticks reads c x)) (h p q u z) in (
        n + j - i,
        omega arith,
        omega arith,
        at n (n + j - i) a (omega arith) tn,
        at k l (omega arith) e tk,
        λ m x y t.
            let z = uniq (m + i - j) (omega arith) (omega arith) (subst (λ x. T (ticks reads c x)) (sym (h (m + i - j) m (omega arith) (omega arith))) t) in
            omega arith,
      )

  pub sat_shift : (κ : Clock A) (P : Prop A) (w v : Word S) (i j : ℕ) → Agree w v i j → Sat reads κ P w i → Sat reads κ P v j
  unfolding Sat NoBot Second
  sat_shift κ (strong r) w v i j h s = strong_shift κ r w v i j h s
  sat_shift κ (weak r) w v i j h s =
      λ p u t.
      strong_shift κ r (cut w (suc (p + i - j))) (cut v (suc p)) i j (agree_cut w v i j (suc (p + i - j)) (suc p) h (omega arith))
      (s (p + i - j) (omega arith) (subst (λ x. T (inside x)) (sym (h (p + i - j) p (omega arith) (omega arith))) t))
  sat_shift κ (neg P) w v i j h s = λ t. s (sat_shift κ P (bar v) (bar w) j i (agree_sym (bar w) (bar v) i j (agree_bar w v i j h)) t)
  sat_shift κ (either P Q) w v i j h (inl s) = inl (sat_shift κ P w v i j h s)
  sat_shift κ (either P Q) w v i j h (inr s) = inr (sat_shift κ Q w v i j h s)
  sat_shift κ (both P Q) w v i j h s = (sat_shift κ P w v i j h s.0, sat_shift κ Q w v i j h s.1)
  sat_shift κ (implies r P) w v i j h s =
      λ p u m.
      sat_shift κ P w v (p + i - j) p (agree_on w v i j (p + i - j) p h (omega arith) (omega arith))
      (s (p + i - j) (omega arith)
      (match_shift κ r (bar v) (bar w) j i (suc p) (suc (p + i - j)) (agree_sym (bar w) (bar v) i j (agree_bar w v i j h)) (omega arith) m))
  sat_shift free (next P) w v i j h (inl t) = inl (subst (λ x. T (not (inside x))) (h i j (omega arith) (omega arith)) t)
  sat_shift free (next P) w v i j h (inr s) = inr (sat_shift free P w v (suc i) (suc j) (agree_on w v i j (suc i) (suc j) h (omega arith) (omega arith)) s)
  sat_shift (on c) (next P) w v i j h (inl (k, x, s)) =
      inl (
        k + j - i,
        second_shift c w v i j k (k + j - i) h (omega arith) x,
        sat_shift (on c) P w v k (k + j - i) (agree_on w v i j k (k + j - i) h (omega arith) (omega arith)) s,
      )
  sat_shift (on c) (next P) w v i j h (inr (never, nb)) =
      inr (
        λ k x. never (k + i - j) (second_shift c v w j i k (k + i - j) (agree_sym w v i j h) (omega arith) x),
        λ p u. subst (λ x. T (not (is_bot x))) (h (p + i - j) p (omega arith) (omega arith)) (nb (p + i - j) (omega arith)),
      )
  sat_shift κ (until P Q) w v i j h (inl (k, u, t, n, s, before)) =
      let e = h k (k + j - i) u (omega arith) in
      inl (
        k + j - i,
        omega arith,
        subst (λ x. T (inside x)) e t,
        subst (λ x. T (counts reads κ x)) e n,
        sat_shift κ Q w v k (k + j - i) (agree_on w v i j k (k + j - i) h u (omega arith)) s,
        λ l x y z.
            sat_shift κ P w v (l + i - j) l (agree_on w v i j (l + i - j) l h (omega arith) (omega arith))
            (before (l + i - j) (omega arith) (omega arith) (subst (λ x. T (counts reads κ (flip x))) (sym (h (l + i - j) l (omega arith) (omega arith))) z)),
      )
  sat_shift κ (until P Q) w v i j h (inr s) =
      inr
      (λ l x t z.
      let e = sym (h (l + i - j) l (omega arith) (omega arith)) in
      sat_shift κ P w v (l + i - j) l (agree_on w v i j (l + i - j) l h (omega arith) (omega arith))
      (s (l + i - j) (omega arith) (subst (λ x. T (inside x)) e t) (subst (λ x. T (counts reads κ (flip x))) e z)))
  sat_shift κ (under c P) w v i j h s = sat_shift (on c) P w v i j h s

  -- `Sat w i` says of suffix i what `Sat` says of it from its start
  pub sat_suffix : (κ : Clock A) (P : Prop A) (w : Word S) (i : ℕ) → Sat reads κ P w i ↔ Sat reads κ P (suffix w i) zero
  sat_suffix κ P w i = (sat_shift κ P w (suffix w i) i zero go, sat_shift κ P (suffix w i) w zero i (agree_sym w (suffix w i) i zero go))
    where
      go : Agree w (suffix w i) i zero
      go p q u e = ap w (omega arith)
