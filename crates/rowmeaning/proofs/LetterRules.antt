-- The letter under any clock: T has the letters that count, B those that satisfy b, and a match ends after the first that counts if it satisfies b.
-- Assumes nothing.
use mathlib.Core.Path.{◌≡◌, sym, subst, ap, ◌∙◌}
use mathlib.Core.Bool.{Bool, not, cond, ◌&&◌}
use mathlib.Core.List.{List}
use mathlib.Core.Logic.{⊎_elim}
use Prim.Native.Nat.{ℕ, ◌-◌, ◌≤◌, ◌<◌}
use native.Mathlib.Omega.{arith}
use native.Mathlib.Nat.{eq-or-lt_of_le}
use lib.Dec.{T, T_not, eqb, leb, ltb}
use lib.ListN.{length}
use borrow.Author.Tests.{lt-ltb, le-ltb}
use Rattle.telling.specs.Tells.{Tells, some}
use Rattle.telling.proofs.Telling.{is_map, is_like, is_and, is_not, is_le, is_test, is_some_at, side, test, passed}
use Rattle.meaning.specs.Syntax.{Bexp, nott, one, Clock, free, on}
use Rattle.meaning.specs.Words.{word, none}
use Rattle.meaning.specs.Meaning.{satisfies, counts, Match}
use Rattle.cells.specs.Shares.{share, top_word, longest}
use Rattle.cells.specs.Stored.{set64}
use Rattle.ticking.specs.Ticks.{letter_bit, letter_top}
use Rattle.ticking.proofs.FirstTicks.{letter_tells}
use Rattle.rowmeaning.specs.Rows.{Inside, Onward, SequenceRow}
use Rattle.rowmeaning.specs.Sets.{Valued, TicksOf}
use Rattle.rowmeaning.proofs.Stepping.{not_satisfies, satisfies_in, onward_one, onward_tick}
use Rattle.rowmeaning.proofs.SequenceRules.{bits_row}

module _ {A S : Type 0} (reads : A → S → Bool) (xs : List S) where
  -- ---- ticks

  -- a letter that does not satisfy a boolean
  unmet : (b : Bexp A) (B : ℕ → Bool) → Valued reads xs b B → (k : ℕ) → k < length xs → not (B k) ≡ satisfies reads (word xs none k) (nott b)
  unmet b B h k l = ap not (h.bits k l) ∙ not_satisfies reads b xs k l

  -- the ticks of c are the letters that satisfy it
  pub clock_valued : (c : Bexp A) (t : ℕ → Bool) → TicksOf reads xs (on c) t → Valued reads xs c t
  unfolding counts
  clock_valued c t h = record { bits = h.bits; past = h.past }

  pub ticks_valued : (c : Bexp A) (t : ℕ → Bool) → Valued reads xs c t → TicksOf reads xs (on c) t
  unfolding counts
  ticks_valued c t h = record { bits = h.bits; past = h.past }

  -- with no clock all letters count
  free_ticks : (t : ℕ → Bool) → TicksOf reads xs free t → (k : ℕ) → k < length xs → T (t k)
  unfolding counts
  free_ticks t h k l = passed (h.bits k l)

  pub all_ticks : TicksOf reads xs free (λ i. ltb i (length xs))
  unfolding counts
  all_ticks = record { bits = λ i l. lt-ltb i (length xs) l; past = λ i l. le-ltb i (length xs) l }

  pub tick_in : (κ : Clock A) (t : ℕ → Bool) → TicksOf reads xs κ t → (k : ℕ) → T (t k) → k < length xs
  tick_in κ t h k z = ⊎_elim (λ l. l) (λ l. absurd (subst T (h.past k l) z)) (side k (length xs))

  -- ---- the ends

  module _ (b : Bexp A) (B : ℕ → Bool) (hb : Valued reads xs b B) (t : ℕ → Bool) where
    letter_ends : (κ : Clock A) → TicksOf reads xs κ t → (i j : ℕ) → i ≤ length xs → Tells (letter_bit B t i j) (Inside reads xs κ (one b) i j)
    unfolding Match
    letter_ends free ht i j h =
        is_map (letter_tells B t i j)
        (λ q.
        let (u, (y, (z, f))) = q in
        let l = tick_in free t ht (j - 1) y in
        let e : j - 1 ≡ i = ⊎_elim (λ e. sym e) (λ v. absurd (T_not (t i) (f i (omega arith) v) (free_ticks t ht i (omega arith)))) (eq-or-lt_of_le (let g : i ≤ j - 1 = omega arith in g)) in
        (omega arith, subst (λ k. T (satisfies reads (word xs none k) b)) e (subst T (hb.bits (j - 1) l) z)))
        (λ q.
        let l = satisfies_in reads b xs i q.1 in
        let e : i ≡ j - 1 = let g = q.0 in omega arith in (
          let g = q.0 in omega arith,
          (subst (λ k. T (t k)) e (free_ticks t ht i l), (subst (λ k. T (B k)) e (subst T (sym (hb.bits i l)) q.1), λ m u v. absurd (omega arith))),
        ))
    letter_ends (on c) ht i j h =
        let hc = clock_valued c t ht in
        is_map (letter_tells B t i j)
        (λ q.
        let (u, (y, (z, f))) = q in
        let l = tick_in (on c) t ht (j - 1) y in (
          j - 1,
          omega arith,
          omega arith,
          subst T (hc.bits (j - 1) l) y,
          subst T (hb.bits (j - 1) l) z,
          λ m a v. subst T (unmet c t hc m (omega arith)) (f m a v),
        ))
        (λ q.
        let (k, e, a, y, z, f) = q in
        let l = satisfies_in reads c xs k y in
        let g : k ≡ j - 1 = omega arith in (
          omega arith,
          (
            subst (λ k. T (t k)) g (subst T (sym (hc.bits k l)) y),
            (subst (λ k. T (B k)) g (subst T (sym (hb.bits k l)) z), λ m u v. subst T (sym (unmet c t hc m (omega arith))) (f m u (omega arith))),
          ),
        ))

  -- ---- and where it goes on into ⊤

  -- there is no tick from i on
  no_ticks : (κ : Clock A) (t : ℕ → Bool) → TicksOf reads xs κ t → length xs ≤ longest → (i : ℕ)
      → Tells (not (some (λ m. t m && leb i m) 0 64)) (¬ ((m : ℕ) × (T (t m) × (i ≤ m))))
  no_ticks κ t ht short i =
      is_not (is_some_at 0 64 (λ m q. let l = tick_in κ t ht m q.0 in (omega arith, omega arith)) (λ m u v. is_and (is_test (t m)) (is_le i m)))

  letter_onward : (b : Bexp A) (t : ℕ → Bool) (κ : Clock A) → TicksOf reads xs κ t → length xs ≤ longest → (i : ℕ) → i ≤ length xs
      → Tells (not (some (λ m. t m && leb i m) 0 64)) (Onward reads xs κ (one b) i)
  letter_onward b t free ht short i h =
      is_like
      (is_map (no_ticks free t ht short i) (λ f. ⊎_elim (λ e. e) (λ l. absurd (f (i, (free_ticks t ht i l, omega arith)))) (eq-or-lt_of_le h))
      (λ e q. let l = tick_in free t ht q.0 q.1.0 in let g = q.1.1 in omega arith))
      (onward_one reads xs b i h)
  letter_onward b t (on c) ht short i h =
      let hc = clock_valued c t ht in
      is_like
      (is_map (no_ticks (on c) t ht short i)
      (λ f m u v. ⊎_elim (λ z. absurd (f (m, (z, u)))) (λ z. subst T (unmet c t hc m v) z) (test (t m)))
      (λ g q.
      let (m, (y, u)) = q in
      let l = tick_in (on c) t ht m y in
      T_not (t m) (subst T (sym (unmet c t hc m l)) (g m u l)) y))
      (onward_tick reads xs c b i h)

  -- ---- the row

  pub letter_under : (κ : Clock A) {b : Bexp A} {B t : ℕ → Bool} {row : ℕ → ℕ} → length xs ≤ longest → TicksOf reads xs κ t → Valued reads xs b B
      → ((i : ℕ) → i < share → row i ≡ cond (leb i (length xs)) (set64 (letter_bit B t i)) (cond (eqb i top_word) (set64 (letter_top t (length xs))) 0))
      → SequenceRow reads xs κ row (one b)
  letter_under κ {b} {B} {t} {row} short ht hb w =
      bits_row reads xs κ (one b) row (letter_bit B t) (λ i. not (some (λ m. t m && leb i m) 0 64)) short w
      (λ i h j. letter_ends b B hb t κ ht i j h) (λ i h. letter_onward b t κ ht short i h)
