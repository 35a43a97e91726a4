-- until under any clock, and nexttime under a clock: the suffixes that satisfy them, where t has the letters that count and the operands' tests tell theirs.
-- Assumes nothing.
use mathlib.Core.Path.{◌≡◌, sym, subst, ap, ◌∙◌}
use mathlib.Core.Bool.{Bool, true, false, not, ◌||◌, ◌&&◌}
use mathlib.Core.List.{List}
use mathlib.Core.Logic.{◌⊎◌, inl, inr, ⊎_elim}
use Prim.Native.Nat.{ℕ, zero, suc, ◌-◌, ◌≤◌, ◌<◌}
use native.Mathlib.Omega.{arith}
use native.Mathlib.Nat.{eq-or-lt_of_le}
use lib.Dec.{T}
use lib.ListN.{length}
use borrow.Author.Tests.{le-leb}
use Rattle.telling.specs.Tells.{Tells}
use Rattle.telling.proofs.Telling.{is_map, is_like, is_as, is_true, is_and, is_or, is_not, is_test, decide, side}
use Rattle.meaning.specs.Syntax.{Bexp, Prop, next, until, Clock, free, on}
use Rattle.meaning.specs.Words.{word, is_bot, after, NoBot, Tail, none, tops, bots}
use Rattle.meaning.specs.Meaning.{satisfies, counts, ticks, Second, Sat}
use Rattle.meaning.proofs.Words.{botted, word_in, word_out, word_not_bot, no_bot}
use Rattle.meaning.proofs.Answers.{out_ticks}
use Rattle.ticking.specs.Ticks.{idle, tick_run, first_tick, unticked, second_bit, until_end, ticked_until}
use Rattle.rowmeaning.specs.Sets.{is_on, TicksOf, Says}
use Rattle.rowmeaning.proofs.Stepping.{ticks_satisfy, until_here, until_tail, until_past}
use Rattle.rowmeaning.proofs.PropertyRules.{by_run, off_run}

-- ---- until

module _ {A S : Type 0} (reads : A → S → Bool) (xs : List S) where
  -- at n, which stands for the whole tail
  at_end : (κ : Clock A) {P Q : Prop A} {f g : Tail → ℕ → Bool} → Says reads xs κ P f → Says reads xs κ Q g → (u : Tail)
      → Tells (until_end (is_on κ) u (f u (length xs)) (g u (length xs))) (Sat reads κ (until P Q) (word xs u) (length xs))
  unfolding counts satisfies
  at_end κ {P} {Q} hp hq none = is_true (until_past reads xs κ P Q)
  at_end free {P} {Q} hp hq tops =
      is_like
      (is_map (is_or (is_or (hp.answers tops (length xs) (omega arith)) (hq.answers tops (length xs) (omega arith))) (is_test false))
      (⊎_elim (⊎_elim (λ s. inr (λ c. s)) (λ s. inl (tt, s))) (λ s. absurd s))
      (⊎_elim (λ s. inl (inr s.1)) (λ s. inl (inl (s tt)))))
      (until_tail reads xs free P Q tops tt)
  at_end (on c) {P} {Q} hp hq tops =
      is_like
      (is_map (is_or (is_or (hp.answers tops (length xs) (omega arith)) (hq.answers tops (length xs) (omega arith))) (is_test true))
      (λ s. inr (λ z. absurd z)) (λ s. inr tt))
      (until_tail reads xs (on c) P Q tops tt)
  at_end free {P} {Q} hp hq bots =
      is_like
      (is_map (is_or (hp.answers bots (length xs) (omega arith)) (is_and (hq.answers bots (length xs) (omega arith)) (is_test true)))
      (⊎_elim (λ s. inr (λ c. s)) (λ s. inl (tt, s.0))) (⊎_elim (λ s. inr (s.1, tt)) (λ s. inl (s tt))))
      (until_tail reads xs free P Q bots tt)
  at_end (on c) {P} {Q} hp hq bots =
      is_like
      (is_map (is_or (hp.answers bots (length xs) (omega arith)) (is_and (hq.answers bots (length xs) (omega arith)) (is_test false)))
      (⊎_elim (λ s. inr (λ c. s)) (λ s. absurd s.1)) (⊎_elim (λ s. absurd s.0) (λ s. inl (s tt))))
      (until_tail reads xs (on c) P Q bots tt)

  module _ (κ : Clock A) {t : ℕ → Bool} (ht : TicksOf reads xs κ t) {P Q : Prop A} {f g : Tail → ℕ → Bool} (hp : Says reads xs κ P f) (hq : Says reads xs κ Q g) where
    -- at a sample, from the position after it
    until_at : (u : Tail) (i : ℕ) → i < length xs → (b : Bool) → Tells b (Sat reads κ (until P Q) (word xs u) (suc i))
        → Tells ((g u i && t i) || ((f u i || idle t (length xs) i) && b)) (Sat reads κ (until P Q) (word xs u) i)
    until_at u i l b later =
        let tick = is_as (ht.bits i l) (is_test (counts reads κ (word xs none i))) in
        rw (le-leb i (length xs) (omega arith))
        (is_like
        (is_map (is_or (is_and (hq.answers u i (omega arith)) tick) (is_and (is_or (hp.answers u i (omega arith)) (is_not tick)) later))
        (⊎_elim (λ s. inl (s.1, s.0)) (λ s. inr (λ c. ⊎_elim (λ y. y) (λ y. absurd (y c)) s.0, s.1)))
        (⊎_elim (λ s. inl (s.1, s.0)) (λ s. inr (⊎_elim (λ c. inl (s.0 c)) inr (decide tick), s.1))))
        (until_here reads xs κ P Q u i l))

    pub until_says : Says reads xs κ (until P Q) (ticked_until (is_on κ) t (length xs) f g)
    unfolding tick_run
    until_says = record {
      answers = λ u i h. by_run _ _ _ (length xs) (Sat reads κ (until P Q) (word xs u)) (at_end κ hp hq u) (until_at u) i h;
      past = λ u i h. off_run _ _ _ (length xs) i h;
    }

-- ---- nexttime under a clock

module _ {A S : Type 0} (reads : A → S → Bool) (xs : List S) (c : Bexp A) (P : Prop A) (t : ℕ → Bool) (ht : TicksOf reads xs (on c) t) (u : Tail) where
  abbrev Tick : ℕ → Type 0
  Tick k = T (ticks reads c (word xs u k))

  no_tick : (k : ℕ) → length xs ≤ k → ¬ Tick k
  no_tick k l z = out_ticks reads c u (rw (word_out xs u k l) at z)

  ticked : (k : ℕ) → k < length xs → Tells (t k) (Tick k)
  unfolding counts
  ticked k l = is_as (ht.bits k l ∙ sym (ap (ticks reads c) (word_in xs u none k l) ∙ ticks_satisfy reads c xs k)) (is_test (ticks reads c (word xs u k)))

  -- the first tick from i on, if there is one
  seek : (d i : ℕ) → length xs - i ≤ d
      → ((k : ℕ) × (i ≤ k) × Tick k × ((m : ℕ) → i ≤ m → m < k → ¬ Tick m)) ⊎ ((k : ℕ) → i ≤ k → ¬ Tick k)
  seek zero i h = inr (λ k a. no_tick k (omega arith))
  seek (suc d) i h = ⊎_elim (λ (l : i < length xs). here (decide (ticked i l)) (seek d (suc i) (omega arith))) (λ (l : length xs ≤ i). inr (λ k a. no_tick k (omega arith))) (side i (length xs))
    where
      here : Tick i ⊎ (¬ Tick i) → ((k : ℕ) × (suc i ≤ k) × Tick k × ((m : ℕ) → suc i ≤ m → m < k → ¬ Tick m)) ⊎ ((k : ℕ) → suc i ≤ k → ¬ Tick k)
          → ((k : ℕ) × (i ≤ k) × Tick k × ((m : ℕ) → i ≤ m → m < k → ¬ Tick m)) ⊎ ((k : ℕ) → i ≤ k → ¬ Tick k)
      here (inl y) later = inl (i, omega arith, y, λ m a b. absurd (omega arith))
      here (inr g) (inl (k, a, y, f)) = inl (k, omega arith, y, λ m v w. ⊎_elim (λ e. subst (λ m. ¬ Tick m) e g) (λ e. f m e w) (eq-or-lt_of_le v))
      here (inr g) (inr f) = inr (λ k v. ⊎_elim (λ e. subst (λ m. ¬ Tick m) e g) (λ e. f k e) (eq-or-lt_of_le v))

  -- P at the first tick from i on; with none, whatever the tail says
  abbrev AtFirst : ℕ → Type 0
  AtFirst i =
      ((k : ℕ) × (i ≤ k) × Tick k × ((m : ℕ) → i ≤ m → m < k → ¬ Tick m) × Sat reads (on c) P (word xs u) k)
      ⊎ (((k : ℕ) → i ≤ k → ¬ Tick k) × T (unticked u))

  first_end : Tells (unticked u) (AtFirst (length xs))
  first_end = is_map (is_test (unticked u)) (λ z. inr (no_tick, z)) (⊎_elim (λ q. absurd (no_tick q.0 q.1 q.2)) (λ q. q.1))

  module _ (p : ℕ → Bool) (hp : (i : ℕ) → i ≤ length xs → Tells (p i) (Sat reads (on c) P (word xs u) i)) where
    first_at : (i : ℕ) → i < length xs → (b : Bool) → Tells b (AtFirst (suc i)) → Tells ((p i && t i) || (idle t (length xs) i && b)) (AtFirst i)
    first_at i l b later =
        rw (le-leb i (length xs) (omega arith))
        (is_map (is_or (is_and (hp i (omega arith)) (ticked i l)) (is_and (is_not (ticked i l)) later))
        there back)
      where
        there : (Sat reads (on c) P (word xs u) i × Tick i) ⊎ ((¬ Tick i) × AtFirst (suc i)) → AtFirst i
        there (inl (s, y)) = inl (i, omega arith, y, λ m a b. absurd (omega arith), s)
        there (inr (g, inl (k, a, y, f, s))) = inl (k, omega arith, y, λ m v w. ⊎_elim (λ e. subst (λ m. ¬ Tick m) e g) (λ e. f m e w) (eq-or-lt_of_le v), s)
        there (inr (g, inr (f, z))) = inr (λ k v. ⊎_elim (λ e. subst (λ m. ¬ Tick m) e g) (λ e. f k e) (eq-or-lt_of_le v), z)

        back : AtFirst i → (Sat reads (on c) P (word xs u) i × Tick i) ⊎ ((¬ Tick i) × AtFirst (suc i))
        back (inl (k, a, y, f, s)) =
            ⊎_elim (λ e. inl (subst (λ k. Sat reads (on c) P (word xs u) k) (sym e) s, subst (λ k. Tick k) (sym e) y))
            (λ e. inr (f i (omega arith) e, inl (k, e, y, λ m v w. f m (omega arith) w, s))) (eq-or-lt_of_le a)
        back (inr (f, z)) = inr (f i (omega arith), inr (λ k v. f k (omega arith), z))

    first_tells : (i : ℕ) → i ≤ length xs → Tells (first_tick t (length xs) (unticked u) p i) (AtFirst i)
    unfolding tick_run
    first_tells i h = by_run _ _ _ (length xs) AtFirst first_end first_at i h

  -- ---- the second tick

  abbrev Next : ℕ → Type 0
  Next i = Sat reads (on c) (next P) (word xs u) i

  unbotted : (i : ℕ) → T (unticked u) → NoBot (word xs u) i
  unbotted i z = no_bot xs u i (go u z)
    where
      go : (u : Tail) → T (unticked u) → T (not (botted u))
      go none z = tt
      go tops z = tt
      go bots z = z

  botless : (i : ℕ) → i ≤ length xs → NoBot (word xs u) i → T (unticked u)
  unfolding NoBot
  botless i h nb = go u (rw (word_out xs u (length xs) (omega arith)) at (nb (length xs) h))
    where
      go : (u : Tail) → T (not (is_bot {S = S} (after u))) → T (unticked u)
      go none z = tt
      go tops z = tt
      go bots z = z

  next_end : Tells (unticked u) (Next (length xs))
  unfolding Sat Second
  next_end =
      is_map (is_test (unticked u)) (λ z. inr (λ k s. no_tick k (omega arith) s.4, unbotted (length xs) z))
      (⊎_elim (λ q. absurd (no_tick q.0 (let a = q.1.1 in let b = q.1.2 in omega arith) q.1.4)) (λ q. botless (length xs) (omega arith) q.1))

  module _ (i : ℕ) (l : i < length xs) where
    next_there : (AtFirst (suc i) × Tick i) ⊎ ((¬ Tick i) × Next (suc i)) → Next i
    unfolding Sat Second NoBot
    next_there (inl (inl (k, a, y, f, s), z)) =
        inl (k, (i, omega arith, a, z, y, λ m v w x. ⊎_elim (λ e. sym e) (λ e. absurd (f m e w x)) (eq-or-lt_of_le v)), s)
    next_there (inl (inr (f, z), y)) = inr (λ k s. f k (let a = s.1 in let b = s.2 in omega arith) s.4, unbotted i z)
    next_there (inr (g, inl (k, (j, a, b, yj, yk, f), s))) =
        inl (k, (j, omega arith, b, yj, yk, λ m v w x. ⊎_elim (λ e. absurd (g (subst (λ m. Tick m) (sym e) x))) (λ e. f m e w x) (eq-or-lt_of_le v)), s)
    next_there (inr (g, inr (never, nb))) = inr (
      λ k s.
          let (j, a, b, yj, yk, f) = s in
          ⊎_elim (λ e. g (subst (λ m. Tick m) (sym e) yj)) (λ e. never k (j, e, b, yj, yk, λ m v w x. f m (omega arith) w x)) (eq-or-lt_of_le a),
      λ k v. ⊎_elim (λ e. subst (λ k. T (not (is_bot (word xs u k)))) e (word_not_bot xs u i l)) (λ e. nb k e) (eq-or-lt_of_le v),
    )

    next_back : Tick i ⊎ (¬ Tick i) → Next i → (AtFirst (suc i) × Tick i) ⊎ ((¬ Tick i) × Next (suc i))
    unfolding Sat Second NoBot
    next_back (inl y) (inl (k, (j, a, b, yj, yk, f), s)) =
        let e : i ≡ j = f i (omega arith) (omega arith) y in
        inl (inl (k, omega arith, yk, λ m v w x. let e' = f m (omega arith) w x in omega arith, s), y)
    next_back (inr g) (inl (k, (j, a, b, yj, yk, f), s)) =
        ⊎_elim (λ e. absurd (g (subst (λ m. Tick m) (sym e) yj))) (λ e. inr (g, inl (k, (j, e, b, yj, yk, λ m v w x. f m (omega arith) w x), s))) (eq-or-lt_of_le a)
    next_back (inl y) (inr (never, nb)) =
        ⊎_elim
        (λ q.
        let (k, a, z, f) = q in
        absurd (never k (i, omega arith, a, y, z, λ m v w x. ⊎_elim (λ e. sym e) (λ e. absurd (f m e w x)) (eq-or-lt_of_le v))))
        (λ f. inl (inr (f, botless i (omega arith) nb), y)) (seek (length xs - suc i) (suc i) (omega arith))
    next_back (inr g) (inr (never, nb)) =
        inr (g, inr (λ k s. let (j, a, b, yj, yk, f) = s in never k (j, omega arith, b, yj, yk, λ m v w x. ⊎_elim (λ e. absurd (g (subst (λ m. Tick m) (sym e) x))) (λ e. f m e w x) (eq-or-lt_of_le v)), λ k v. nb k (omega arith)))

    next_at : (a : Bool) → Tells a (AtFirst (suc i)) → (b : Bool) → Tells b (Next (suc i))
        → Tells ((a && t i) || (idle t (length xs) i && b)) (Next i)
    next_at a first b later =
        rw (le-leb i (length xs) (omega arith))
        (is_map (is_or (is_and first (ticked i l)) (is_and (is_not (ticked i l)) later)) next_there (next_back (decide (ticked i l))))

  next_tells : (p : ℕ → Bool) → ((i : ℕ) → i ≤ length xs → Tells (p i) (Sat reads (on c) P (word xs u) i)) → (i : ℕ) → i ≤ length xs
      → Tells (first_tick t (length xs) (unticked u) (λ k. first_tick t (length xs) (unticked u) p (suc k)) i) (Next i)
  unfolding tick_run
  next_tells p hp i h = by_run _ _ _ (length xs) Next next_end (λ i l b later. next_at i l _ (first_tells p hp (suc i) l) b later) i h

pub second_says : {A S : Type 0} (reads : A → S → Bool) (xs : List S) (c : Bexp A) {t : ℕ → Bool} → TicksOf reads xs (on c) t → {P : Prop A} {f : Tail → ℕ → Bool}
    → Says reads xs (on c) P f → Says reads xs (on c) (next P) (second_bit t (length xs) f)
unfolding tick_run
second_says reads xs c {t} ht {P} {f} hp = record {
  answers = λ u i h. next_tells reads xs c P t ht u (f u) (λ i l. hp.answers u i l) i h;
  past = λ u i h. off_run _ _ _ (length xs) i h;
}
