-- ⊤ for ever satisfies every accepted property, ⊥ for ever none. Assumes nothing.
use mathlib.Core.Bool.{Bool, not}
use mathlib.Core.Path.{subst}
use mathlib.Core.Logic.{inl, inr, ⊎_elim}
use Prim.Native.Nat.{ℕ, suc, ◌+◌, ◌-◌, ◌<◌}
use native.Mathlib.Omega.{arith}
use lib.Dec.{T, T_not, ltb}
use Rattle.meaning.specs.Syntax.{Bexp, Seq, Prop, strong, weak, neg, either, both, implies, next, until, under, Clock, free, on}
use Rattle.meaning.specs.Words.{Cell, real, top, bot, end, Word, inside, is_bot, flip, bar, cut, NoBot}
use Rattle.meaning.proofs.Cells.{alive, is_top}
use Rattle.meaning.specs.Meaning.{satisfies, Match, counts, ticks, Second, Strong, Sat, Topped, Accepted}
use Rattle.meaning.proofs.Order.{top_above, carry, match_alive}
use Rattle.meaning.proofs.Words.{AllTop, AllBot, cut_in, cut-top}

module _ {S : Type 0} where
  flip_top : (x : Cell S) → T (is_top x) → T (is_bot (flip x))
  flip_top (real s) t = t
  flip_top top t = t
  flip_top bot t = t
  flip_top end t = t

  flip_bot : (x : Cell S) → T (is_bot x) → T (is_top (flip x))
  flip_bot (real s) t = t
  flip_bot top t = t
  flip_bot bot t = t
  flip_bot end t = t

  pub bot_inside : (x : Cell S) → T (is_bot x) → T (inside x)
  bot_inside (real s) t = tt
  bot_inside top t = tt
  bot_inside bot t = tt
  bot_inside end t = t

  bot_dead : (x : Cell S) → T (is_bot x) → T (alive x) → ⊥
  bot_dead (real s) t a = t
  bot_dead top t a = t
  bot_dead bot t a = a
  bot_dead end t a = a

  pub top_not_bot : (x : Cell S) → T (is_top x) → T (not (is_bot x))
  top_not_bot (real s) t = tt
  top_not_bot top t = tt
  top_not_bot bot t = t
  top_not_bot end t = tt

module _ {A S : Type 0} (reads : A → S → Bool) where
  pub bot_ticks : (c : Bexp A) (x : Cell S) → T (is_bot x) → T (ticks reads c x) → ⊥
  unfolding ticks
  bot_ticks c (real s) t h = t
  bot_ticks c top t h = t
  bot_ticks c bot t h = h
  bot_ticks c end t h = t

  pub top-ticks : (c : Bexp A) (x : Cell S) → T (is_top x) → T (ticks reads c x) → ⊥
  unfolding ticks
  top-ticks c (real s) t h = t
  top-ticks c top t h = h
  top-ticks c bot t h = t
  top-ticks c end t h = t

  -- where w has ⊥ the bar counts
  bot_counts : (κ : Clock A) (x : Cell S) → T (is_bot x) → T (counts reads κ (flip x))
  unfolding counts satisfies
  bot_counts free x t = tt
  bot_counts (on c) (real s) t = absurd t
  bot_counts (on c) top t = absurd t
  bot_counts (on c) bot t = tt
  bot_counts (on c) end t = absurd t

  pub topped_strong : (κ : Clock A) (r : Seq A) → Topped reads κ r → (w : Word S) (i : ℕ) → AllTop w i → Strong reads κ r w i
  unfolding Topped Strong
  topped_strong κ r (k, z, m) w i h =
      (i + k, omega arith, carry reads κ r (λ p. top) w 0 i 0 k i (i + k) (omega arith) (omega arith) (λ p q e u v. top_above top (w q) (h q (omega arith))) m)

  bot_match : (κ : Clock A) (r : Seq A) (w : Word S) (i j : ℕ) → T (is_bot (w i)) → i < j → Match reads κ r w i j → ⊥
  bot_match κ r w i j t l m = bot_dead (w i) t (match_alive reads κ r w i j m i (omega arith) l)

  pub ends : (κ : Clock A) (P : Prop A) → Accepted reads κ P → (w : Word S) (i : ℕ)
      → (AllTop w i → Sat reads κ P w i) × (AllBot w i → ¬ Sat reads κ P w i)
  unfolding Accepted Sat Strong NoBot Second
  ends κ (strong r) a w i = (topped_strong κ r a w i, λ h s. bot_match κ r w i s.0 (h i (omega arith)) s.1 s.2)
  ends κ (weak r) a w i = (
    λ h p u t. topped_strong κ r a (cut w (suc p)) i (λ q v. cut-top (ltb q (suc p)) (w q) (h q v)),
    λ h s.
        let b = h i (omega arith) in
        let (j, l, m) = s i (omega arith) (bot_inside (w i) b) in
        bot_match κ r (cut w (suc i)) i j (rw (cut_in w (suc i) i (omega arith)) b) l m,
  )
  ends κ (neg P) a w i = (
    λ h s. (ends κ P a (bar w) i).1 (λ p u. flip_top (w p) (h p u)) s,
    λ h s. s ((ends κ P a (bar w) i).0 (λ p u. flip_bot (w p) (h p u))),
  )
  ends κ (either P Q) a w i = (λ h. inl ((ends κ P a.0 w i).0 h), λ h. ⊎_elim ((ends κ P a.0 w i).1 h) ((ends κ Q a.1 w i).1 h))
  ends κ (both P Q) a w i = (λ h. ((ends κ P a.0 w i).0 h, (ends κ Q a.1 w i).0 h), λ h s. (ends κ P a.0 w i).1 h s.0)
  ends κ (implies r P) a w i = (
    λ h p u m. absurd (bot_match κ r (bar w) i (suc p) (flip_top (w i) (h i (omega arith))) (omega arith) m),
    λ h s.
        let (j, l, m) = topped_strong κ r a.0 (bar w) i (λ p u. flip_bot (w p) (h p u)) in
        (ends κ P a.1 w (j - 1)).1 (λ p u. h p (omega arith))
        (s (j - 1) (omega arith) (subst (λ x. Match reads κ r (bar w) i x) (omega arith) m)),
  )
  ends free (next P) a w i = (λ h. inr ((ends free P a w (suc i)).0 (λ p u. h p (omega arith))), λ h. ⊎_elim (λ t. T_not (inside (w i)) t (bot_inside (w i) (h i (omega arith)))) ((ends free P a w (suc i)).1 (λ p u. h p (omega arith))))
  ends (on c) (next P) a w i = (
    λ h. inr (λ k s. top-ticks c (w k) (h k (omega arith)) s.4, λ p u. top_not_bot (w p) (h p u)),
    λ h.
        ⊎_elim (λ s. bot_ticks c (w s.0) (h s.0 (omega arith)) s.1.4)
        (λ s. T_not (is_bot (w i)) (s.1 i (omega arith)) (h i (omega arith))),
  )
  ends κ (until P Q) a w i = (
    λ h. inr (λ k u x y. (ends κ P a.0 w k).0 (λ p v. h p (omega arith))),
    λ h.
        ⊎_elim (λ s. (ends κ Q a.1 w s.0).1 (λ p v. h p (omega arith)) s.4)
        (λ s. let b = h i (omega arith) in (ends κ P a.0 w i).1 h (s i (omega arith) (bot_inside (w i) b) (bot_counts κ (w i) b))),
  )
  ends κ (under c P) a w i = ends (on c) P a w i
