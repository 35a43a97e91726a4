-- Each rule of a property that a clock does not change gives the suffixes that satisfy its tree, where its operands' rows and tests do; and nexttime and until
-- with no clock. n is the number of letters, and R has the rows of sequences. Assumes nothing.
use mathlib.Core.Path.{◌≡◌, sym, subst, ◌∙◌}
use mathlib.Core.Bool.{Bool, true, false, ◌||◌, ◌&&◌}
use mathlib.Core.List.{List}
use mathlib.Core.Logic.{◌⊎◌, inl, inr, ⊎_elim}
use Prim.Native.Nat.{ℕ, zero, suc, ◌-◌, ◌≤◌, ◌<◌, min}
use native.Mathlib.Omega.{arith}
use native.Mathlib.Nat.{eq-or-lt_of_le}
use native.Mathlib.Decide.{dec_lt}
use lib.Dec.{leb}
use lib.ListN.{length}
use borrow.Author.Tests.{le-leb, lt-leb, eq-eqb, ne_eqb}
use Rattle.telling.specs.Tells.{Tells}
use Rattle.telling.proofs.Telling.{is_map, is_like, is_as, is_true, is_false, is_and, is_and_then, is_or, is_not, is_eq, is_test, is_some_at, decide, side}
use Rattle.positions.specs.Member.{has}
use Rattle.meaning.specs.Syntax.{Bexp, Seq, Prop, strong, weak, neg, either, both, implies, next, until, under, Clock, free, on}
use Rattle.meaning.specs.Words.{word, Tail, none, tops, bots, other}
use Rattle.meaning.specs.Meaning.{counts, Strong, Sat}
use Rattle.meaning.proofs.Words.{bar-word}
use Rattle.nodes.specs.declared.PropertyOp.TheVariants as op
use Rattle.cells.specs.Shares.{top_word, longest, word_in, bit_in, word_of}
use Rattle.cells.specs.Bits.{starts, follows, until_from, until_bit, until_last, negated_bit, implies_bit, next_bit, property_bit}
use Rattle.rowmeaning.specs.Rows.{Inside, SequenceRow, PropertyRow}
use Rattle.rowmeaning.specs.Sets.{Says}
use Rattle.rowmeaning.proofs.Stepping.{ends_inside, Longer, strong_shut, strong_open, weak_none, weak_tops, weak_bots, implies_step, next_step, until_here, until_tail, until_past}
use Rattle.rowmeaning.proofs.SequenceRules.{longer_tells}

-- ---- a rule that goes from the last position to the first

module _ (P Q : ℕ → Bool) (last : Bool) (n : ℕ) (U : ℕ → Type 0) (z : Tells last (U n))
    (f : (i : ℕ) → i < n → (b : Bool) → Tells b (U (suc i)) → Tells (Q i || (P i && b)) (U i)) where
  from_end : (d : ℕ) → d ≤ n → Tells (until_from P Q last n d) (U (n - d))
  unfolding until_from
  from_end zero h = let e : n ≡ n - 0 = omega arith in subst (λ k. Tells last (U k)) e z
  from_end (suc d) h =
      let e : n - d ≡ suc (n - suc d) = omega arith in
      f (n - suc d) (omega arith) _ (subst (λ k. Tells (until_from P Q last n d) (U k)) e (from_end d (omega arith)))

  pub by_run : (i : ℕ) → i ≤ n → Tells (until_bit P Q last n i) (U i)
  by_run i h =
      let e : n - (n - i) ≡ i = omega arith in
      rw (le-leb i n h) (subst (λ k. Tells (until_from P Q last n (n - i)) (U k)) e (from_end (n - i) (omega arith)))

pub off_run : (P Q : ℕ → Bool) (last : Bool) (n i : ℕ) → n < i → until_bit P Q last n i ≡ false
off_run P Q last n i h = rw (lt-leb i n h)

-- a run of A that leads up to a B below n, from any position
module _ (A B : ℕ → Type 0) (n : ℕ) where
  abbrev pub Run : ℕ → Type 0
  Run i = (j : ℕ) × (i ≤ j) × (j < n) × B j × ((k : ℕ) → i ≤ k → k < j → A k)

  there : (i : ℕ) → i < n → B i ⊎ (A i × Run (suc i)) → Run i
  there i l (inl b) = (i, omega arith, l, b, λ k u v. absurd (omega arith))
  there i l (inr (a, (j, u, v, b, e))) = (j, omega arith, v, b, λ k x y. ⊎_elim (λ z. subst A z a) (λ z. e k z y) (eq-or-lt_of_le x))

  back : (i : ℕ) → Run i → B i ⊎ (A i × Run (suc i))
  back i (j, u, v, b, e) = ⊎_elim (λ z. inl (subst B (sym z) b)) (λ z. inr (e i (omega arith) z, (j, z, v, b, λ k x y. e k (omega arith) y))) (eq-or-lt_of_le u)

  none_left : (i : ℕ) → n ≤ i → Tells false (Run i)
  none_left i l = is_false (λ r. let (j, u, v, _, _) = r in omega arith)

pub is_run : {P Q : ℕ → Bool} {A B : ℕ → Type 0} (n : ℕ) → ((j : ℕ) → j < n → Tells (Q j) (B j)) → ((k : ℕ) → k < n → Tells (P k) (A k)) → (i : ℕ)
    → Tells (until_bit P Q false n i) (Run A B n i)
is_run {P} {Q} {A} {B} n q p i =
    ⊎_elim (λ l. rw (off_run P Q false n i l) (none_left A B n i (omega arith)))
    (λ l. by_run P Q false n (Run A B n) (none_left A B n n (omega arith)) (λ i l b later. is_map (is_or (q i l) (is_and (p i l) later)) (there A B n i l) (back A B n i)) i l) (side n i)

-- ---- under any clock

module _ {A S : Type 0} (reads : A → S → Bool) (xs : List S) (κ : Clock A) where
  abbrev Holds : Prop A → Tail → ℕ → Type 0
  Holds P t i = Sat reads κ P (word xs t) i

  -- what a property's row has, and the same by other tests
  pub row_says : {row : ℕ → ℕ} {P : Prop A} → PropertyRow reads xs κ row P → Says reads xs κ P (λ t. has (row (word_of t)))
  row_says r = record { answers = r.answers; past = r.past }

  pub says_as : {P : Prop A} {f g : Tail → ℕ → Bool} → ((t : Tail) (i : ℕ) → g t i ≡ f t i) → Says reads xs κ P f → Says reads xs κ P g
  says_as e h = record { answers = λ t i l. is_as (e t i) (h.answers t i l); past = λ t i l. e t i ∙ h.past t i l }

  -- x is the row of the sequence r
  module _ (short : length xs ≤ longest) (R : List ℕ) (x : ℕ) {r : Seq A} (rx : SequenceRow reads xs κ (word_in R x) r) where
    -- some match from i is not empty, inside the record
    started : (i : ℕ) → i ≤ length xs → Tells (starts R (length xs) x i) (Longer reads xs κ r i)
    started i h =
        rw (le-leb i (length xs) h)
        (is_some_at 0 64 (λ j q. let l = ends_inside reads xs κ r i j h q.0 in (omega arith, omega arith)) (λ j u v. longer_tells reads xs κ R x r rx i h j))

    -- the same with a ⊤ tail
    open_strong : (i : ℕ) → i ≤ length xs → Tells (starts R (length xs) x i || bit_in R x top_word i) (Strong reads κ r (word xs tops) i)
    open_strong i h = is_like (is_or (started i h) (rx.on i h)) (strong_open reads xs κ r i h)

    past_starts : (i : ℕ) → length xs < i → starts R (length xs) x i ≡ false
    past_starts i h = rw (lt-leb i (length xs) h)

    past_open : (i : ℕ) → length xs < i → (starts R (length xs) x i || bit_in R x top_word i) ≡ false
    past_open i h = rw (lt-leb i (length xs) h) (rx.past i h)

    pub strong_says : Says reads xs κ (strong r) (property_bit R (length xs) (op.Strong x))
    unfolding Sat
    strong_says = record { answers = right; past = off }
      where
        right : (t : Tail) (i : ℕ) → i ≤ length xs → Tells (property_bit R (length xs) (op.Strong x) t i) (Strong reads κ r (word xs t) i)
        right none i h = is_like (started i h) (strong_shut reads xs κ r none tt i h)
        right tops i h = open_strong i h
        right bots i h = is_like (started i h) (strong_shut reads xs κ r bots tt i h)

        off : (t : Tail) (i : ℕ) → length xs < i → property_bit R (length xs) (op.Strong x) t i ≡ false
        off none i h = past_starts i h
        off tops i h = past_open i h
        off bots i h = past_starts i h

    pub weak_says : Says reads xs κ (weak r) (property_bit R (length xs) (op.Weak x))
    weak_says = record { answers = right; past = off }
      where
        right : (t : Tail) (i : ℕ) → i ≤ length xs → Tells (property_bit R (length xs) (op.Weak x) t i) (Holds (weak r) t i)
        right none i h =
            is_like
            (is_map (is_or (open_strong i h) (is_eq i (length xs))) (⊎_elim inr (λ e. inl (omega arith))) (⊎_elim (λ l. inr (omega arith)) inl))
            (weak_none reads xs κ r i h)
        right tops i h = is_like (open_strong i h) (weak_tops reads xs κ r i h)
        right bots i h = is_like (is_like (started i h) (strong_shut reads xs κ r bots tt i h)) (weak_bots reads xs κ r i h)

        off : (t : Tail) (i : ℕ) → length xs < i → property_bit R (length xs) (op.Weak x) t i ≡ false
        off none i h = rw (past_open i h, ne_eqb i (length xs) (λ z. let bad : ⊥ = omega arith in bad))
        off tops i h = past_open i h
        off bots i h = past_starts i h

    module _ {P : Prop A} {f : Tail → ℕ → Bool} (hp : Says reads xs κ P f) where
      -- each match that is not empty has its last letter where P holds
      followed : (t : Tail) (i : ℕ) → i ≤ length xs → Tells (follows R (length xs) x (f t) i) ((l : ℕ) → i ≤ l → Inside reads xs κ r i (suc l) → Holds P t l)
      followed t i h =
          rw (le-leb i (length xs) h)
          (is_map
          (is_not
          (is_some_at 0 64 (λ l q. let e = ends_inside reads xs κ r i (suc l) h q.0.0 in (omega arith, omega arith))
          (λ l u v.
          is_and_then (longer_tells reads xs κ R x r rx i h (suc l))
          (λ q. let e = ends_inside reads xs κ r i (suc l) h q.0 in is_not (hp.answers t l (omega arith))))))
          (λ never l u m.
          let e = ends_inside reads xs κ r i (suc l) h m in
          ⊎_elim (λ s. s) (λ s. absurd (never (l, ((m, omega arith), s)))) (decide (hp.answers t l (omega arith))))
          (λ all q. let (l, ((m, v), s)) = q in s (all l (omega arith) m)))

      pub implies_says : Says reads xs κ (implies r P) (implies_bit R (length xs) x f)
      implies_says = record { answers = right; past = off }
        where
          right : (t : Tail) (i : ℕ) → i ≤ length xs → Tells (implies_bit R (length xs) x f t i) (Holds (implies r P) t i)
          right none i h = is_like (is_map (followed none i h) (λ f. (f, λ b. absurd b)) (λ q. q.0)) (implies_step reads xs κ r P none i h)
          right tops i h = is_like (is_map (followed tops i h) (λ f. (f, λ b. absurd b)) (λ q. q.0)) (implies_step reads xs κ r P tops i h)
          right bots i h =
              let last = hp.answers bots (length xs) (omega arith) in
              is_like
              (is_map (is_and (followed bots i h) (is_not (is_and (rx.on i h) (is_not last))))
              (λ q. (q.0, λ b t. ⊎_elim (λ s. s) (λ s. absurd (q.1 (t, s))) (decide last)))
              (λ q. (q.0, λ z. z.1 (q.1 tt z.0))))
              (implies_step reads xs κ r P bots i h)

          off : (t : Tail) (i : ℕ) → length xs < i → implies_bit R (length xs) x f t i ≡ false
          off none i h = rw (lt-leb i (length xs) h)
          off tops i h = rw (lt-leb i (length xs) h)
          off bots i h = rw (lt-leb i (length xs) h)

  module _ {P : Prop A} {f : Tail → ℕ → Bool} (hp : Says reads xs κ P f) where
    pub negated_says : Says reads xs κ (neg P) (negated_bit (length xs) f)
    unfolding Sat
    negated_says = record {
      answers = λ t i h.
          rw (le-leb i (length xs) h)
          (is_map (is_not (hp.answers (other t) i h)) (λ n s. n (subst (λ w. Sat reads κ P w i) (bar-word xs t) s))
          (λ n s. n (subst (λ w. Sat reads κ P w i) (sym (bar-word xs t)) s)));
      past = λ t i h. rw (lt-leb i (length xs) h);
    }

    module _ {Q : Prop A} {g : Tail → ℕ → Bool} (hq : Says reads xs κ Q g) where
      pub any_says : Says reads xs κ (either P Q) (λ t i. f t i || g t i)
      unfolding Sat
      any_says = record { answers = λ t i h. is_or (hp.answers t i h) (hq.answers t i h); past = λ t i h. rw (hp.past t i h, hq.past t i h) }

      pub both_says : Says reads xs κ (both P Q) (λ t i. f t i && g t i)
      unfolding Sat
      both_says = record { answers = λ t i h. is_and (hp.answers t i h) (hq.answers t i h); past = λ t i h. rw (hp.past t i h) }

  -- a clock node is its operand under the clock
  pub under_says : {c : Bexp A} {P : Prop A} {f : Tail → ℕ → Bool} → Says reads xs (on c) P f → Says reads xs κ (under c P) f
  unfolding Sat
  under_says h = record { answers = h.answers; past = h.past }

-- ---- with no clock

module _ {A S : Type 0} (reads : A → S → Bool) (xs : List S) {P : Prop A} {f : Tail → ℕ → Bool} (hp : Says reads xs free P f) where
  -- P at the next position, which for n is n itself
  at_next : (t : Tail) (i : ℕ) → i ≤ length xs → Tells (f t (suc i) || (f t i && leb (length xs) i)) (Sat reads free P (word xs t) (min (suc i) (length xs)))
  at_next t i h =
      let n = length xs in
      elim (dec_lt i n) [
        | yes l ↦
            let e : min (suc i) n ≡ suc i = omega arith in
            rw (e, lt-leb n i l)
            (is_map (is_or (hp.answers t (suc i) l) (is_and (hp.answers t i h) (is_test false))) (⊎_elim (λ q. q) (λ q. absurd q.1)) inl)
        | no l ↦
            let e : min (suc i) n ≡ i = omega arith in
            rw (e, le-leb n i (omega arith), hp.past t (suc i) (omega arith))
            (is_map (is_and (hp.answers t i h) (is_test true)) (λ q. q.0) (λ q. (q, tt)))
      ]

  pub next_says : Says reads xs free (next P) (next_bit (length xs) f)
  next_says = record { answers = right; past = off }
    where
      right : (t : Tail) (i : ℕ) → i ≤ length xs → Tells (next_bit (length xs) f t i) (Sat reads free (next P) (word xs t) i)
      right none i h =
          let n = length xs in
          is_like
          (elim (dec_lt i n) [
            | yes l ↦
                let e : min (suc i) n ≡ suc i = omega arith in
                rw e
                (is_map (is_or (hp.answers none (suc i) l) (is_eq i n)) (⊎_elim inr (λ q. absurd (omega arith))) (⊎_elim (λ z. absurd (omega arith)) inl))
            | no l ↦
                rw (eq-eqb i n (omega arith), hp.past none (suc i) (omega arith)) (is_true (inl (tt, omega arith)))
          ])
          (next_step reads xs P none i h)
      right tops i h = is_like (is_map (at_next tops i h) inr (⊎_elim (λ z. absurd z.0) (λ z. z))) (next_step reads xs P tops i h)
      right bots i h = is_like (is_map (at_next bots i h) inr (⊎_elim (λ z. absurd z.0) (λ z. z))) (next_step reads xs P bots i h)

      off : (t : Tail) (i : ℕ) → length xs < i → next_bit (length xs) f t i ≡ false
      off none i h = rw (hp.past none (suc i) (omega arith), ne_eqb i (length xs) (λ z. let bad : ⊥ = omega arith in bad))
      off tops i h = rw (hp.past tops (suc i) (omega arith), hp.past tops i h)
      off bots i h = rw (hp.past bots (suc i) (omega arith), hp.past bots i h)

  module _ {Q : Prop A} {g : Tail → ℕ → Bool} (hq : Says reads xs free Q g) where
    at_last : (t : Tail) → Tells (until_last t (f t (length xs)) (g t (length xs))) (Sat reads free (until P Q) (word xs t) (length xs))
    unfolding counts
    at_last none = is_true (until_past reads xs free P Q)
    at_last tops =
        is_like
        (is_map (is_or (hp.answers tops (length xs) (omega arith)) (hq.answers tops (length xs) (omega arith))) (⊎_elim (λ p. inr (λ c. p)) (λ q. inl (tt, q)))
        (⊎_elim (λ q. inr q.1) (λ p. inl (p tt))))
        (until_tail reads xs free P Q tops tt)
    at_last bots =
        is_like
        (is_map (is_or (hp.answers bots (length xs) (omega arith)) (hq.answers bots (length xs) (omega arith))) (⊎_elim (λ p. inr (λ c. p)) (λ q. inl (tt, q)))
        (⊎_elim (λ q. inr q.1) (λ p. inl (p tt))))
        (until_tail reads xs free P Q bots tt)

    at_each : (t : Tail) (i : ℕ) → i < length xs → (b : Bool) → Tells b (Sat reads free (until P Q) (word xs t) (suc i))
        → Tells (g t i || (f t i && b)) (Sat reads free (until P Q) (word xs t) i)
    unfolding counts
    at_each t i l b later =
        is_like
        (is_map (is_or (hq.answers t i (omega arith)) (is_and (hp.answers t i (omega arith)) later)) (⊎_elim (λ q. inl (tt, q)) (λ s. inr (λ c. s.0, s.1)))
        (⊎_elim (λ q. inl q.1) (λ s. inr (s.0 tt, s.1))))
        (until_here reads xs free P Q t i l)

    pub until_free_says : Says reads xs free (until P Q) (λ t. until_bit (f t) (g t) (until_last t (f t (length xs)) (g t (length xs))) (length xs))
    until_free_says = record {
      answers = λ t i h. by_run _ _ _ (length xs) (Sat reads free (until P Q) (word xs t)) (at_last t) (at_each t) i h;
      past = λ t i h. off_run _ _ _ (length xs) i h;
    }
