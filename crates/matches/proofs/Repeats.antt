-- One or more matches in a row: how often is asked does not matter once it is often enough, so a word follows from the words above it.
-- Assumes nothing.
use mathlib.Core.Path.{◌≡◌, refl, sym, ap, ap₂, ◌∙◌, subst}
use mathlib.Core.Bool.{Bool, true, false, ◌||◌, ◌&&◌, or-false, or_comm}
use mathlib.Core.List.{List}
use mathlib.Core.Logic.{inr, ⊎_elim}
use Prim.Native.Nat.{ℕ, zero, suc, ◌-◌, ◌≤◌, ◌<◌}
use native.Mathlib.Nat.{eq-or-lt_of_le}
use native.Mathlib.Omega.{arith}
use lib.Dec.{T, ltb}
use lib.ListN.{get_or}
use Rattle.telling.specs.Tells.{Tells}
use Rattle.telling.proofs.Telling.{passed, fails, is_test, is_and, is_or, is_as, is_lt, side}
use Rattle.positions.specs.Member.{has, Is}
use Rattle.cells.specs.Shares.{word_in, bit_in}
use Rattle.cells.specs.Bits.{reached, repeated}
use Rattle.matches.specs.Shapes.{Chains, Forward}
use Rattle.matches.proofs.Walking.{is_reached, reached_same, reached_where}

module _ (M : ℕ → ℕ → Bool) (n : ℕ) where
  -- the places that a match from i that is not empty can end at
  abbrev on : ℕ → ℕ → Bool
  on i m = M i m && ltb i m

  is_on_lem : (i m : ℕ) → Tells (on i m) (T (M i m) × (i < m))
  is_on_lem i m = is_and (is_test (M i m)) (is_lt i m)

  after : (i m : ℕ) → on i m ≡ true → i < m
  after i m e = ((is_on_lem i m).to (passed e)).1

  none_left : (i j : ℕ) (g : ℕ → ℕ → Bool) → n ≤ i → reached (on i) g n j ≡ false
  none_left i j g h = fails (is_reached g n j (is_on_lem i) (λ m. is_test (g m j))) (λ q. omega arith)

  enough : (d e i j : ℕ) → n - i ≤ d → n - i ≤ e → repeated M n d i j ≡ repeated M n e i j
  unfolding repeated
  enough zero zero i j u v = refl
  enough zero (suc e) i j u v = sym (ap (λ b. M i j || b) (none_left i j (repeated M n e) (omega arith)) ∙ or-false (M i j))
  enough (suc d) zero i j u v = ap (λ b. M i j || b) (none_left i j (repeated M n d) (omega arith)) ∙ or-false (M i j)
  enough (suc d) (suc e) i j u v =
      ap (λ b. M i j || b)
      (reached_where (on i) (repeated M n d) (repeated M n e) n j (λ m l t. let a = after i m t in enough d e m j (omega arith) (omega arith)))

  -- word i from the words above it
  repeat_step : (i j : ℕ) (g : ℕ → ℕ → Bool) → ((m : ℕ) → i < m → m ≤ n → g m j ≡ repeated M n (n - m) m j)
      → (M i j || reached (on i) g n j) ≡ repeated M n (n - i) i j
  unfolding repeated
  repeat_step i j g h =
      ap (λ b. M i j || b)
      (reached_where (on i) g (repeated M n (n - i)) n j (λ m l t. let a = after i m t in h m a l ∙ enough (n - m) (n - i) m j (omega arith) (omega arith)))
      ∙ enough (suc (n - i)) (n - i) i j (omega arith) (omega arith)

  -- from p to q and on from there
  step_in : (p q j : ℕ) → q ≤ n → T (M p q) → p < q → T (repeated M n (n - q) q j) → T (repeated M n (n - p) p j)
  step_in p q j l t h r =
      subst T (repeat_step p j (λ m j. repeated M n (n - m) m j) (λ m u v. refl))
      ((is_or (is_test (M p j)) (is_reached (λ m j. repeated M n (n - m) m j) n j (is_on_lem p) (λ m. is_test (repeated M n (n - m) m j)))).from (inr (q, l, (t, h), r)))

  -- a repetition chains, where no match leads back
  module _ (forward : (i j : ℕ) → i ≤ n → j < i → M i j ≡ false) where
    first_in : (p m j : ℕ) → p ≤ n → m ≤ n → T (M p m) → T (repeated M n (n - m) m j) → T (repeated M n (n - p) p j)
    first_in p m j lp lm t r =
        ⊎_elim
        (λ (h : m < p). absurd (subst T (forward p m lp h) t))
        (λ (h : p ≤ m). ⊎_elim (λ e. subst (λ x. T (repeated M n (n - x) x j)) (sym e) r) (λ (u : p < m). step_in p m j lm t u r) (eq-or-lt_of_le h))
        (side m p)

    chained : (d p m j : ℕ) → p ≤ n → m ≤ n → T (repeated M n d p m) → T (repeated M n (n - m) m j) → T (repeated M n (n - p) p j)
    unfolding repeated
    chained zero p m j lp lm t r = first_in p m j lp lm t r
    chained (suc d) p m j lp lm t r =
        ⊎_elim
        (λ u. first_in p m j lp lm u r)
        (λ q. step_in p q.0 j q.1 q.2.0 q.2.1 (chained d q.0 m j q.1 lm q.3 r))
        ((is_or (is_test (M p m)) (is_reached (repeated M n d) n m (is_on_lem p) (λ x. is_test (repeated M n d x m)))).to t)

-- the node's own words above i chain
pub repeat_chains : (rows own : List ℕ) (n a i f s : ℕ) → Forward rows a n → Is s (λ j. has f j && ltb i j)
    → ((m : ℕ) → i < m → m ≤ n → Is (get_or own m 0) (repeated (bit_in rows a) n (n - m) m)) → Chains (has s) (λ m j. has (get_or own m 0) j) n
repeat_chains rows own n a i f s forward es h =
    record {
      on = λ p m j lp lm sp sm t r.
          subst T (sym (h p (after_i p sp) lp j)) (chained (bit_in rows a) n forward (n - p) p m j lp lm (subst T (h p (after_i p sp) lp m) t) (subst T (h m (after_i m sm) lm j) r));
    }
  where
    after_i : (m : ℕ) → T (has s m) → i < m
    after_i m t = ((is_as (es m) (is_and (is_test (has f m)) (is_lt i m))).to t).1

-- the same of sets: f is word i of row a, s its places after i, t what is reached from s by the words above, r the two joined
pub repeat_ends : (rows own : List ℕ) (n a i f s t r : ℕ) → f ≡ word_in rows a i → Is s (λ j. has f j && ltb i j)
    → Is t (reached (has s) (λ m j. has (get_or own m 0) j) n) → Is r (λ j. has t j || has f j)
    → ((m : ℕ) → i < m → m ≤ n → Is (get_or own m 0) (repeated (bit_in rows a) n (n - m) m)) → Is r (repeated (bit_in rows a) n (n - i) i)
repeat_ends rows own n a i f s t r ef es et er h j =
    er j ∙ or_comm (has t j) (has f j)
    ∙ ap₂ ◌||◌ (ap (λ x. has x j) ef)
    (et j ∙ reached_same (λ m j. has (get_or own m 0) j) (λ m j. has (get_or own m 0) j) n j (λ m l. es m ∙ ap (λ x. has x m && ltb i m) ef) (λ m. refl))
    ∙ repeat_step (bit_in rows a) n i j (λ m j. has (get_or own m 0) j) (λ m u v. h m u v j)
