-- The meaning one step at a time, under any clock, over a record's words: what an operator asks of its operands. Most laws put two readings of one computed
-- test of `meaning` side by side. Assumes nothing.
use mathlib.Core.Path.{◌≡◌, refl, sym, ap, subst, ◌∙◌}
use mathlib.Core.Bool.{Bool, not}
use mathlib.Core.List.{List, [], ◌∷◌}
use mathlib.Core.Logic.{◌⊎◌, inl, inr, ⊎_elim, ◌↔◌}
use Prim.Native.Nat.{ℕ, zero, suc, ◌-◌, ◌≤◌, ◌<◌, min}
use native.Mathlib.Omega.{arith}
use native.Mathlib.Nat.{eq-or-lt_of_le, le_of_suc-le-suc}
use lib.Dec.{T}
use lib.ListN.{length}
use Rattle.telling.specs.Tells.{Tells}
use Rattle.telling.proofs.Telling.{is_map, is_and, is_or, is_imp, is_le, is_eq, is_test, is_every, is_some_at, agree, side}
use Rattle.meaning.specs.Syntax.{Bexp, nott, Seq, one, cat, fuse, alt, empty, plus, Prop, weak, implies, next, until, Clock, free, on}
use Rattle.meaning.specs.Words.{word, Tail, none, tops, bots, inside, flip, after}
use Rattle.meaning.specs.Meaning.{value, satisfies, Match, Strong, Sat, counts, ticks}
use Rattle.meaning.proofs.Order.{match_le}
use Rattle.meaning.proofs.Unroll.{until_step}
use Rattle.meaning.proofs.Eval.{match_b, is_match, top_b, is_top_lem}
use Rattle.meaning.proofs.Words.{full, full-top, ended, botted, shut, word_in, word_out, word-inside, bar-word}
use Rattle.meaning.proofs.Sequences.{match_any, match_shut, is_strong, is_weak, weak_b}
use Rattle.meaning.proofs.Answers.{ans_b, is_ans, fold}
use Rattle.rowmeaning.specs.Rows.{Inside, Onward}

-- ---- a letter that is a sample

module _ {A S : Type 0} (reads : A → S → Bool) where
  -- with no tail a tick is a letter that satisfies the condition
  pub ticks_satisfy : (c : Bexp A) (xs : List S) (j : ℕ) → ticks reads c (word xs none j) ≡ satisfies reads (word xs none j) c
  unfolding ticks satisfies word
  ticks_satisfy c [] j = refl
  ticks_satisfy c (x ∷ xs) zero = refl
  ticks_satisfy c (x ∷ xs) (suc j) = ticks_satisfy c xs j

  -- and a sample satisfies a boolean or its contrary
  pub not_satisfies : (c : Bexp A) (xs : List S) (j : ℕ) → j < length xs → not (satisfies reads (word xs none j) c) ≡ satisfies reads (word xs none j) (nott c)
  unfolding satisfies value word
  not_satisfies c [] j l = absurd (omega arith)
  not_satisfies c (x ∷ xs) zero l = refl
  not_satisfies c (x ∷ xs) (suc j) l = not_satisfies c xs j (le_of_suc-le-suc l)

  -- past the record no letter satisfies a boolean
  pub satisfies_in : (c : Bexp A) (xs : List S) (j : ℕ) → T (satisfies reads (word xs none j) c) → j < length xs
  unfolding satisfies
  satisfies_in c xs j h = ⊎_elim (λ l. l) (λ l. absurd (rw (word_out xs none j l) at h)) (side j (length xs))

module _ {A S : Type 0} (reads : A → S → Bool) (xs : List S) (κ : Clock A) where
  -- ---- matches inside the record: the tail does not matter

  pub starts-below : (r : Seq A) (i j : ℕ) → Inside reads xs κ r i j → i ≤ j
  starts-below r i j m = match_le reads κ r (word xs none) i j m

  pub ends_inside : (r : Seq A) (i j : ℕ) → i ≤ length xs → Inside reads xs κ r i j → j ≤ length xs
  ends_inside r i j h m =
      ⊎_elim (λ e. omega arith) (λ l. match_shut reads κ r xs none tt i j l m) (eq-or-lt_of_le (starts-below r i j m))

  to_tail : (r : Seq A) (t : Tail) (i j : ℕ) → i ≤ length xs → Inside reads xs κ r i j → Match reads κ r (word xs t) i j
  to_tail r t i j h m = match_any reads κ r xs none t i j (ends_inside r i j h m) m

  from_tail : (r : Seq A) (t : Tail) (i j : ℕ) → j ≤ length xs → Match reads κ r (word xs t) i j → Inside reads xs κ r i j
  from_tail r t i j h m = match_any reads κ r xs t none i j h m

  inside_tells : (r : Seq A) (i j : ℕ) → i ≤ length xs → j ≤ length xs → Tells (match_b reads κ r (full xs) i j) (Inside reads xs κ r i j)
  inside_tells r i j h l = is_map (is_match reads κ r (full xs) i j) (from_tail r tops i j l) (to_tail r tops i j h)

  -- ---- matches that go on among letters ⊤

  onward_tells : (r : Seq A) (i : ℕ) → i ≤ length xs → Tells (top_b reads κ r (full xs) (length xs) i) (Onward reads xs κ r i)
  onward_tells r i h = is_top_lem reads κ r (full xs) (length xs) (full-top xs) i h

  pub onward_cat : (r s : Seq A) (i : ℕ) → i ≤ length xs
      → Onward reads xs κ (cat r s) i
      ↔ (((m : ℕ) × (Inside reads xs κ r i m × Onward reads xs κ s m)) ⊎ (Onward reads xs κ r i × (Inside reads xs κ s (length xs) (length xs) ⊎ Onward reads xs κ s (length xs))))
  unfolding top_b
  onward_cat r s i h =
      let n = length xs in
      agree (onward_tells (cat r s) i h)
      (is_or
      (is_some_at i (suc (n - i)) (λ m q. let l = ends_inside r i m h q.0 in (starts-below r i m q.0, omega arith))
      (λ m u v. is_and (inside_tells r i m h (omega arith)) (onward_tells s m (omega arith))))
      (is_and (onward_tells r i h) (is_or (inside_tells s n n (omega arith) (omega arith)) (onward_tells s n (omega arith)))))

  -- here the second match starts at the last letter of the first
  pub onward_fuse : (r s : Seq A) (i : ℕ) → i ≤ length xs
      → Onward reads xs κ (fuse r s) i ↔ (((l : ℕ) × ((Inside reads xs κ r i (suc l) × (i < suc l)) × Onward reads xs κ s l)) ⊎ (Onward reads xs κ r i × Onward reads xs κ s (length xs)))
  unfolding top_b
  onward_fuse r s i h =
      agree (onward_tells (fuse r s) i h)
      (is_or
      (is_some_at i (length xs - i) (λ l q. let e = ends_inside r i (suc l) h q.0.0 in let u = q.0.1 in (omega arith, omega arith))
      (λ l u v.
      is_and (is_map (inside_tells r i (suc l) h (omega arith)) (λ m. (m, omega arith)) (λ q. q.0)) (onward_tells s l (omega arith))))
      (is_and (onward_tells r i h) (onward_tells s (length xs) (omega arith))))

  pub onward_alt : (r s : Seq A) (i : ℕ) → i ≤ length xs → Onward reads xs κ (alt r s) i ↔ (Onward reads xs κ r i ⊎ Onward reads xs κ s i)
  unfolding top_b
  onward_alt r s i h = agree (onward_tells (alt r s) i h) (is_or (onward_tells r i h) (onward_tells s i h))

  pub onward_empty : (r : Seq A) (i : ℕ) → i ≤ length xs → ¬ Onward reads xs κ (empty r) i
  unfolding top_b
  onward_empty r i h = (onward_tells (empty r) i h).from

  pub onward_plus : (r : Seq A) (i : ℕ) → i ≤ length xs
      → Onward reads xs κ (plus r) i ↔ (((m : ℕ) × (Inside reads xs κ (plus r) i m × Onward reads xs κ r m)) ⊎ Onward reads xs κ r i)
  unfolding top_b match_b
  onward_plus r i h =
      let n = length xs in
      agree (onward_tells (plus r) i h)
      (is_map
      (is_or (onward_tells r i h)
      (is_some_at i (suc (n - i))
      (λ m q. let l = ends_inside (plus r) i m h q.0 in (starts-below (plus r) i m q.0, omega arith))
      (λ m u v. is_and (inside_tells (plus r) i m h (omega arith)) (onward_tells r m (omega arith)))))
      (⊎_elim inr inl) (⊎_elim inr inl))

  -- ---- properties

  -- a match that is not empty: inside the record, or, with a ⊤ tail, one that goes on among its letters
  abbrev pub Longer : Seq A → ℕ → Type 0
  Longer r i = (j : ℕ) × (Inside reads xs κ r i j × (i < j))

  pub strong_shut : (r : Seq A) (t : Tail) → T (shut t) → (i : ℕ) → i ≤ length xs → Strong reads κ r (word xs t) i ↔ Longer r i
  unfolding Strong
  strong_shut r t z i h = (
    λ s. (s.0, (from_tail r t i s.0 (match_shut reads κ r xs t z i s.0 s.1 s.2) s.2, s.1)),
    λ s. (s.0, s.1.1, to_tail r t i s.0 h s.1.0),
  )

  pub strong_open : (r : Seq A) (i : ℕ) → i ≤ length xs → Strong reads κ r (word xs tops) i ↔ (Longer r i ⊎ Onward reads xs κ r i)
  unfolding Strong
  strong_open r i h = (
    λ s. ⊎_elim (λ l. inr (s.0, l, s.2)) (λ l. inl (s.0, (from_tail r tops i s.0 l s.2, s.1))) (side (length xs) s.0),
    ⊎_elim (λ s. (s.0, s.1.1, to_tail r tops i s.0 h s.1.0)) (λ s. (s.0, omega arith, s.2)),
  )

  pub weak_none : (r : Seq A) (i : ℕ) → i ≤ length xs
      → Sat reads κ (weak r) (word xs none) i ↔ ((length xs ≤ i) ⊎ Strong reads κ r (word xs tops) i)
  unfolding weak_b
  weak_none r i h = agree (is_weak reads κ r xs none i h) (is_or (is_le (length xs) i) (is_strong reads κ r xs tops i h))

  pub weak_tops : (r : Seq A) (i : ℕ) → i ≤ length xs → Sat reads κ (weak r) (word xs tops) i ↔ Strong reads κ r (word xs tops) i
  unfolding weak_b
  weak_tops r i h = agree (is_weak reads κ r xs tops i h) (is_strong reads κ r xs tops i h)

  pub weak_bots : (r : Seq A) (i : ℕ) → i ≤ length xs → Sat reads κ (weak r) (word xs bots) i ↔ Strong reads κ r (word xs bots) i
  unfolding weak_b
  weak_bots r i h = agree (is_weak reads κ r xs bots i h) (is_strong reads κ r xs bots i h)

  pub implies_step : (r : Seq A) (P : Prop A) (t : Tail) (i : ℕ) → i ≤ length xs
      → Sat reads κ (implies r P) (word xs t) i
      ↔ (((l : ℕ) → i ≤ l → Inside reads xs κ r i (suc l) → Sat reads κ P (word xs t) l)
      × (T (botted t) → Onward reads xs κ r i → Sat reads κ P (word xs t) (length xs)))
  unfolding ans_b
  implies_step r P t i h =
      let n = length xs in
      let a =
      agree (is_ans reads κ (implies r P) xs t i h)
      (is_and
      (is_every i (n - i) (λ p u v. is_imp (inside_tells r i (suc p) h (omega arith)) (is_ans reads κ P xs t p (omega arith))))
      (is_imp (is_test (botted t)) (is_imp (onward_tells r i h) (is_ans reads κ P xs t n (omega arith))))) in (
        λ p. (λ l u m. let e = ends_inside r i (suc l) h m in (a.0 p).0 l u (omega arith) m, (a.0 p).1),
        λ q. a.1 (λ l u v m. q.0 l u m, q.1),
      )

  -- until at position i, where a and b say whether it counts for the right and for the left side
  abbrev Here : Prop A → Prop A → Tail → ℕ → Bool → Bool → Type 0
  Here P Q t i a b =
      Sat reads κ (until P Q) (word xs t) i
      ↔ ((T a × Sat reads κ Q (word xs t) i) ⊎ ((T b → Sat reads κ P (word xs t) i) × Sat reads κ (until P Q) (word xs t) (suc i)))

  -- until: at a sample, by whether it counts, from the position after it; at n, which stands for the whole tail; and past the end of a finite word
  pub until_here : (P Q : Prop A) (t : Tail) (i : ℕ) → i < length xs
      → Sat reads κ (until P Q) (word xs t) i
      ↔ ((T (counts reads κ (word xs none i)) × Sat reads κ Q (word xs t) i)
      ⊎ ((T (counts reads κ (word xs none i)) → Sat reads κ P (word xs t) i) × Sat reads κ (until P Q) (word xs t) (suc i)))
  until_here P Q t i h =
      subst (λ (a : Bool). Here P Q t i a (counts reads κ (word xs none i))) here
      (subst (λ (b : Bool). Here P Q t i (counts reads κ (word xs t i)) b) barred (until_step reads κ P Q (word xs t) i (word-inside xs t i h)))
    where
      here : counts reads κ (word xs t i) ≡ counts reads κ (word xs none i)
      here = ap (counts reads κ) (word_in xs t none i h)

      barred : counts reads κ (flip (word xs t i)) ≡ counts reads κ (word xs none i)
      barred = ap (λ x. counts reads κ (flip x)) (word_in xs t none i h) ∙ ap (λ w. counts reads κ (w i)) (bar-word xs none)

  -- every position of the tail is as n
  down : (P : Prop A) (t : Tail) (j : ℕ) → length xs ≤ j → Sat reads κ P (word xs t) j → Sat reads κ P (word xs t) (length xs)
  down P t j u s = subst (λ k. Sat reads κ P (word xs t) k) (omega arith) ((fold reads κ P xs t j).0 s)

  up : (P : Prop A) (t : Tail) (j : ℕ) → length xs ≤ j → Sat reads κ P (word xs t) (length xs) → Sat reads κ P (word xs t) j
  up P t j u s = (fold reads κ P xs t j).1 (subst (λ k. Sat reads κ P (word xs t) k) (omega arith) s)

  pub until_tail : (P Q : Prop A) (t : Tail) → T (inside {S = S} (after t))
      → Sat reads κ (until P Q) (word xs t) (length xs)
      ↔ ((T (counts reads κ (after t)) × Sat reads κ Q (word xs t) (length xs))
      ⊎ (T (counts reads κ (flip (after t))) → Sat reads κ P (word xs t) (length xs)))
  unfolding Sat
  until_tail P Q t z = (
    ⊎_elim (λ s. inl (subst (λ c. T (counts reads κ c)) (word_out xs t s.0 s.1) s.3, down Q t s.0 s.1 s.4))
        (λ s. inr (λ c. s (length xs) (omega arith) here (subst (λ c. T (counts reads κ (flip c))) (sym out) c))),
    ⊎_elim (λ q. inl (length xs, omega arith, here, subst (λ c. T (counts reads κ c)) (sym out) q.0, q.1, λ k u v c. absurd (omega arith)))
        (λ p. inr (λ k u y c. up P t k u (p (subst (λ c. T (counts reads κ (flip c))) (word_out xs t k u) c)))),
  )
    where
      out : word xs t (length xs) ≡ after t
      out = word_out xs t (length xs) (omega arith)

      here : T (inside (word xs t (length xs)))
      here = rw out z

  pub until_past : (P Q : Prop A) → Sat reads κ (until P Q) (word xs none) (length xs)
  unfolding Sat
  until_past P Q = inr (λ k u y c. absurd (rw (word_out xs none k u) at y))

-- ---- where it matters whether there is a clock

module _ {A S : Type 0} (reads : A → S → Bool) (xs : List S) where
  -- a letter that goes on among letters ⊤: with no clock from n alone, and under one where no tick is left
  pub onward_one : (b : Bexp A) (i : ℕ) → i ≤ length xs → Onward reads xs free (one b) i ↔ (i ≡ length xs)
  unfolding top_b
  onward_one b i h = agree (onward_tells reads xs free (one b) i h) (is_eq i (length xs))

  pub onward_tick : (c b : Bexp A) (i : ℕ) → i ≤ length xs
      → Onward reads xs (on c) (one b) i ↔ ((m : ℕ) → i ≤ m → m < length xs → T (satisfies reads (word xs none m) (nott c)))
  unfolding top_b
  onward_tick c b i h =
      agree (onward_tells reads xs (on c) (one b) i h)
      (is_map (is_every i (length xs - i) (λ m u v. is_test (satisfies reads (full xs m) (nott c))))
      (λ f m u v. subst (λ x. T (satisfies reads x (nott c))) (word_in xs tops none m v) (f m u (omega arith)))
      (λ f m u v. subst (λ x. T (satisfies reads x (nott c))) (word_in xs none tops m (omega arith)) (f m u (omega arith))))

  -- nexttime with no clock
  pub next_step : (P : Prop A) (t : Tail) (i : ℕ) → i ≤ length xs
      → Sat reads free (next P) (word xs t) i ↔ ((T (ended t) × (length xs ≤ i)) ⊎ Sat reads free P (word xs t) (min (suc i) (length xs)))
  unfolding ans_b
  next_step P t i h =
      agree (is_ans reads free (next P) xs t i h)
      (is_or (is_and (is_test (ended t)) (is_le (length xs) i)) (is_ans reads free P xs t (min (suc i) (length xs)) (omega arith)))
