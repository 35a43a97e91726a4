-- Satisfaction of an accepted property goes up with the letters: ⊥ below samples and the end, these below ⊤.
-- It gives "strong implies neutral implies weak" and "a closed verdict never reopens". Assumes nothing.
use mathlib.Core.Bool.{Bool, not}
use mathlib.Core.Logic.{◌⊎◌, inl, inr, ⊎_elim}
use Prim.Native.Nat.{ℕ, zero, suc, ◌≤◌, ◌<◌, zero-le}
use native.Mathlib.Omega.{arith}
use lib.Dec.{T, T_not, not_T, ltb}
use Rattle.meaning.specs.Syntax.{Bexp, Seq, Prop, strong, weak, neg, either, both, implies, next, until, under, Clock, free, on}
use Rattle.meaning.specs.Words.{Cell, real, top, bot, end, Word, inside, is_bot, bar, cut, NoBot}
use Rattle.meaning.proofs.Cells.{is_top}
use Rattle.meaning.specs.Meaning.{counts, ticks, Second, Strong, Sat, Topped, Accepted}
use Rattle.meaning.proofs.Order.{Below, from_bot, to_top, same, below_flip, top_above, Keeps, from_real, stay, Proper, proper_bar, below-satisfies, match_mono}
use Rattle.telling.proofs.Telling.{side}
use Rattle.meaning.proofs.Words.{cut_in, cut_out, cut-top, ◌⊑◌}
use Rattle.meaning.proofs.Tails.{top-ticks, bot_ticks, topped_strong, ends}

module _ {S : Type 0} where
  -- what one cell says of a higher one
  in_or : (x : Cell S) → T (inside x) ⊎ T (not (inside x))
  in_or (real s) = inl tt
  in_or top = inl tt
  in_or bot = inl tt
  in_or end = inr tt

  end_up : {x y : Cell S} → Below x y → T (not (inside x)) → T (inside y) → T (is_top y)
  end_up from_bot t u = absurd t
  end_up to_top t u = tt
  end_up (same {x = x}) t u = absurd (T_not (inside x) t u)

  end_down : {x y : Cell S} → Below x y → T (inside x) → T (not (inside y)) → T (is_bot x)
  end_down from_bot t u = tt
  end_down to_top t u = absurd u
  end_down (same {x = x}) t u = absurd (T_not (inside x) u t)

  no_bot_up : {x y : Cell S} → Below x y → T (not (is_bot x)) → T (not (is_bot y))
  no_bot_up from_bot t = absurd t
  no_bot_up to_top t = tt
  no_bot_up same t = t

  -- what one cell says of a later one
  tops_stay : {x y : Cell S} → Keeps x y → T (is_top x) → T (is_top y)
  tops_stay from_real t = absurd t
  tops_stay stay t = t

  bots_stay : {x y : Cell S} → Keeps x y → T (is_bot x) → T (is_bot y)
  bots_stay from_real t = absurd t
  bots_stay stay t = t

  in_back : {x y : Cell S} → Keeps x y → T (inside y) → T (inside x)
  in_back from_real t = tt
  in_back stay t = t

  top_bot : (x : Cell S) → T (is_top x) → T (is_bot x) → ⊥
  top_bot (real s) t u = t
  top_bot top t u = u
  top_bot bot t u = t
  top_bot end t u = t

  -- two cut words
  cut_below : (w v : Word S) (n m p : ℕ) → (p < n → p < m → Below (w p) (v p)) → (n ≤ p → p < m → T (is_top (v p))) → Below (cut w n p) (cut v m p)
  cut_below w v n m p f g = go (side p n) (side p m)
    where
      go : (p < n) ⊎ (n ≤ p) → (p < m) ⊎ (m ≤ p) → Below (cut w n p) (cut v m p)
      go (inl a) (inl b) = rw (cut_in w n p a, cut_in v m p b) (f a b)
      go (inl a) (inr b) = rw (cut_out v m p b) to_top
      go (inr a) (inl b) = rw (cut_in v m p b) (top_above _ (v p) (g a b))
      go (inr a) (inr b) = rw (cut_out v m p b) to_top

module _ {A S : Type 0} (reads : A → S → Bool) where
  below-counts : {x y : Cell S} (κ : Clock A) → Below x y → T (counts reads κ x) → T (counts reads κ y)
  unfolding counts
  below-counts free h t = tt
  below-counts (on c) h t = below-satisfies reads c h t

  tick_up : {x y : Cell S} (c : Bexp A) → Below x y → T (ticks reads c x) → T (ticks reads c y) ⊎ T (is_top y)
  unfolding ticks
  tick_up c from_bot t = absurd t
  tick_up c to_top t = inr tt
  tick_up c same t = inl t

  tick_down : {x y : Cell S} (c : Bexp A) → Below x y → T (ticks reads c y) → T (ticks reads c x) ⊎ T (is_bot x)
  unfolding ticks
  tick_down c from_bot t = inr tt
  tick_down c to_top t = absurd t
  tick_down c same t = inl t

  pub strong_mono : (κ : Clock A) (r : Seq A) (w v : Word S) (i : ℕ) → w ⊑ v → Strong reads κ r w i → Strong reads κ r v i
  unfolding Strong
  strong_mono κ r w v i h (j, l, m) = (j, l, match_mono reads κ r w v i j (λ p _ _. h p) m)

  cut_mono : (w v : Word S) (n : ℕ) → w ⊑ v → cut w n ⊑ cut v n
  cut_mono w v n h p = cut_below w v n n p (λ _ _. h p) (λ x y. absurd (omega arith))

  -- weak(R) goes up: where w has ended, v has only ⊤, and one more ⊤ in the cut changes nothing
  weak_base : (κ : Clock A) (r : Seq A) → Topped reads κ r → (v : Word S) (i p : ℕ) → Proper v → p ≤ i → T (is_top (v p)) → Strong reads κ r (cut v (suc p)) i
  weak_base κ r a v i p pv u t =
      topped_strong reads κ r a (cut v (suc p)) i (λ q x. cut-top (ltb q (suc p)) (v q) (tops_stay (pv p q (omega arith)) t))

  weak_up : (κ : Clock A) (r : Seq A) → Topped reads κ r → (w v : Word S) (i : ℕ) → w ⊑ v → Proper v
      → ((p : ℕ) → i ≤ p → T (inside (w p)) → Strong reads κ r (cut w (suc p)) i)
      → (p : ℕ) → i ≤ p → T (inside (v p)) → Strong reads κ r (cut v (suc p)) i
  weak_up κ r a w v i h pv s zero u t =
      ⊎_elim (λ x. strong_mono κ r (cut w 1) (cut v 1) i (cut_mono w v 1 h) (s zero u x))
      (λ x. weak_base κ r a v i zero pv zero-le (end_up (h zero) x t)) (in_or (w zero))
  weak_up κ r a w v i h pv s (suc p) u t =
      ⊎_elim (λ x. strong_mono κ r (cut w (suc (suc p))) (cut v (suc (suc p))) i (cut_mono w v (suc (suc p)) h) (s (suc p) u x))
      (λ x.
      let z = end_up (h (suc p)) x t in
      ⊎_elim (λ y. weak_base κ r a v i (suc p) pv y z)
      (λ y.
      strong_mono κ r (cut v (suc p)) (cut v (suc (suc p))) i
      (λ q. cut_below v v (suc p) (suc (suc p)) q (λ _ _. same) (λ a b. tops_stay (pv (suc p) q a) z))
      (weak_up κ r a w v i h pv s p y (in_back (pv p (suc p) (omega arith)) t)))
      (side p i))
      (in_or (w (suc p)))

  -- nexttime under a clock goes up
  Asked : Bexp A → Prop A → Word S → ℕ → Type 0
  Asked c P w i = ((k : ℕ) × Second reads c w i k × Sat reads (on c) P w k) ⊎ (((k : ℕ) → ¬ Second reads c w i k) × NoBot w i)

  next_up : (c : Bexp A) (P : Prop A) (w v : Word S) (i : ℕ) → w ⊑ v → Proper w → Proper v
      → ((k : ℕ) → Sat reads (on c) P w k → Sat reads (on c) P v k) → Asked c P w i → Asked c P v i
  unfolding Asked Second NoBot
  next_up c P w v i h pw pv ih (inl (k, (j, ij, jk, tj, tk, uniq), s)) = go (tick_up c (h k) tk)
    where
      -- a tick of v at or before k is one of w: w has no ⊥ there
      back : (m : ℕ) → m ≤ k → T (ticks reads c (v m)) → T (ticks reads c (w m))
      back m l t = ⊎_elim (λ x. x) (λ b. absurd (bot_ticks reads c (w k) (bots_stay (pw m k l) b) tk)) (tick_down c (h m) t)

      go : T (ticks reads c (v k)) ⊎ T (is_top (v k)) → Asked c P v i
      go (inl t) =
          inl (
            k,
            (
              j,
              ij,
              jk,
              ⊎_elim (λ x. x) (λ b. absurd (top-ticks reads c (v k) (tops_stay (pv j k (omega arith)) b) t)) (tick_up c (h j) tj),
              t,
              λ m a l y. uniq m a l (back m (omega arith) y),
            ),
            ih k s,
          )
      go (inr t) =
          inr (
            λ k' (j', a, b, x, y, z).
                let l : k' < k = ⊎_elim (λ e. e) (λ e. absurd (top-ticks reads c (v k') (tops_stay (pv k k' e) t) y)) (side k' k) in
                let e = uniq k' (omega arith) l (back k' (omega arith) y) in
                let e' = uniq j' a (omega arith) (back j' (omega arith) x) in
                omega arith,
            λ p u.
                not_T (is_bot (v p))
                (λ b. ⊎_elim (λ l. top_bot (v k) t (bots_stay (pv p k (omega arith)) b)) (λ l. top_bot (v p) (tops_stay (pv k p l) t) b) (side p k)),
          )
  next_up c P w v i h pw pv ih (inr (never, nb)) =
      inr (
        λ k (j, ij, jk, tj, tk, uniq).
            let back : (m : ℕ) → i ≤ m → T (ticks reads c (v m)) → T (ticks reads c (w m)) =
            λ m u t. ⊎_elim (λ x. x) (λ b. absurd (T_not (is_bot (w m)) (nb m u) b)) (tick_down c (h m) t) in
            never k (
              j,
              ij,
              jk,
              back j ij tj,
              back k (omega arith) tk,
              λ m a l y. uniq m a l (⊎_elim (λ x. x) (λ b. absurd (top-ticks reads c (v k) (tops_stay (pv m k (omega arith)) b) tk)) (tick_up c (h m) y)),
            ),
        λ p u. no_bot_up (h p) (nb p u),
      )

  pub mono : (κ : Clock A) (P : Prop A) → Accepted reads κ P → (w v : Word S) (i : ℕ) → w ⊑ v → Proper w → Proper v
      → Sat reads κ P w i → Sat reads κ P v i
  unfolding Accepted Sat Asked
  mono κ (strong r) a w v i h pw pv s = strong_mono κ r w v i h s
  mono κ (weak r) a w v i h pw pv s = weak_up κ r a w v i h pv s
  mono κ (neg P) a w v i h pw pv s =
      λ t. s (mono κ P a (bar v) (bar w) i (λ p. below_flip (h p)) (proper_bar v pv) (proper_bar w pw) t)
  mono κ (either P Q) a w v i h pw pv (inl s) = inl (mono κ P a.0 w v i h pw pv s)
  mono κ (either P Q) a w v i h pw pv (inr s) = inr (mono κ Q a.1 w v i h pw pv s)
  mono κ (both P Q) a w v i h pw pv s = (mono κ P a.0 w v i h pw pv s.0, mono κ Q a.1 w v i h pw pv s.1)
  mono κ (implies r P) a w v i h pw pv s =
      λ p u m. mono κ P a.1 w v p h pw pv (s p u (match_mono reads κ r (bar v) (bar w) i (suc p) (λ q _ _. below_flip (h q)) m))
  mono free (next P) a w v i h pw pv (inl s) =
      ⊎_elim (λ t. inr ((ends reads free P a v (suc i)).0 (λ p u. tops_stay (pv i p (omega arith)) (end_up (h i) s t)))) (λ t. inl t) (in_or (v i))
  mono free (next P) a w v i h pw pv (inr s) = inr (mono free P a w v (suc i) h pw pv s)
  mono (on c) (next P) a w v i h pw pv s = next_up c P w v i h pw pv (λ k. mono (on c) P a w v k h pw pv) s
  mono κ (until P Q) a w v i h pw pv (inl (j, ij, t, n, s, before)) =
      ⊎_elim
      (λ x.
      inl (
        j,
        ij,
        x,
        below-counts κ (h j) n,
        mono κ Q a.1 w v j h pw pv s,
        λ k u l y. mono κ P a.0 w v k h pw pv (before k u l (below-counts κ (below_flip (h k)) y)),
      ))
      (λ x. absurd ((ends reads κ Q a.1 w j).1 (λ p u. bots_stay (pw j p u) (end_down (h j) t x)) s))
      (in_or (v j))
  mono κ (until P Q) a w v i h pw pv (inr s) =
      inr
      (λ k u t n.
      ⊎_elim (λ x. mono κ P a.0 w v k h pw pv (s k u x (below-counts κ (below_flip (h k)) n)))
      (λ x. (ends reads κ P a.0 v k).0 (λ p y. tops_stay (pv k p y) (end_up (h k) x t)))
      (in_or (w k)))
  mono κ (under c P) a w v i h pw pv s = mono (on c) P a w v i h pw pv s
