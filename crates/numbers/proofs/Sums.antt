-- Laws of sums. Assumes nothing.
use native.Mathlib.Omega.{arith}
use native.Mathlib.Nat.{eq-or-lt_of_le, le_refl, le_of_suc-le-suc, not-suc-le-zero}
use borrow.Author.Tests.{eq-eqb, ne_eqb}
use mathlib.Core.Path.{◌≡◌, refl, ◌∙◌, sym, ap}
use mathlib.Core.Logic.{⊎_elim}
use mathlib.Core.Bool.{Bool, true, false, not, cond}
use Prim.Native.Nat.{ℕ, zero, suc, ◌+◌, ◌*◌, ◌<◌, ◌≤◌}
use lib.Dec.{eqb}
use Rattle.numbers.specs.Numbers.{sum}

-- ---- of one function

module _ (f : ℕ → ℕ) where
  pub sum_le : (j k : ℕ) → j ≤ k → sum f j ≤ sum f k
  unfolding sum
  sum_le j zero h = let e : j ≡ 0 = omega arith in rw e (le_refl _)
  sum_le j (suc k) h = ⊎_elim (λ (e : j ≡ suc k). rw e (le_refl _)) (λ (l : j < suc k). let t = sum_le j k (omega arith) in omega arith) (eq-or-lt_of_le h)

  -- one more
  pub sum_in : (k n : ℕ) → k < n → sum f k + f k ≤ sum f n
  unfolding sum
  sum_in k n h = sum_le (suc k) n h

  pub sum_bound : (c n : ℕ) → ((k : ℕ) → k < n → f k ≤ c) → sum f n ≤ c * n
  unfolding sum
  sum_bound c zero h = omega arith
  sum_bound c (suc n) h =
      let a = sum_bound c n (λ k l. h k (omega arith)) in
      let b = h n (omega arith) in
      let e : c * suc n ≡ c * n + c = omega arith in
      omega arith

  pub sum_zero : (n : ℕ) → ((k : ℕ) → k < n → f k ≡ 0) → sum f n ≡ 0
  unfolding sum
  sum_zero zero h = refl
  sum_zero (suc n) h = let a = sum_zero n (λ k l. h k (omega arith)) in let b = h n (omega arith) in omega arith

  -- the first term, and the others
  pub sum_first : (n : ℕ) → sum f (suc n) ≡ f 0 + sum (λ k. f (suc k)) n
  unfolding sum
  sum_first zero = omega arith
  sum_first (suc n) = let e = sum_first n in omega arith

-- ---- of two

module _ (f g : ℕ → ℕ) where
  pub sum_same : (n : ℕ) → ((k : ℕ) → k < n → f k ≡ g k) → sum f n ≡ sum g n
  unfolding sum
  sum_same zero h = refl
  sum_same (suc n) h = let a = sum_same n (λ k l. h k (omega arith)) in let b = h n (omega arith) in omega arith

  pub sum_plus : (n : ℕ) → sum (λ k. f k + g k) n ≡ sum f n + sum g n
  unfolding sum
  sum_plus zero = refl
  sum_plus (suc n) = let a = sum_plus n in omega arith

-- what passes a test, and what does not
pub sum_split : (f : ℕ → ℕ) (p : ℕ → Bool) (n : ℕ) → sum f n ≡ sum (λ k. cond (p k) (f k) 0) n + sum (λ k. cond (not (p k)) (f k) 0) n
unfolding sum
sum_split f p zero = refl
sum_split f p (suc n) = let a = sum_split f p n in let b = go (p n) in omega arith
  where
    go : (t : Bool) → f n ≡ cond t (f n) 0 + cond (not t) (f n) 0
    go true = omega arith
    go false = omega arith

-- rows and columns
pub sum_swap : (f : ℕ → ℕ → ℕ) (m n : ℕ) → sum (λ i. sum (f i) n) m ≡ sum (λ j. sum (λ i. f i j) m) n
unfolding sum
sum_swap f zero n = sym (sum_zero (λ j. 0) n (λ k l. refl))
sum_swap f (suc m) n = ap (λ (a : ℕ). a + sum (f m) n) (sum_swap f m n) ∙ sym (sum_plus (λ j. sum (λ i. f i j) m) (f m) n)

-- one term alone
pub sum_one : (f : ℕ → ℕ) (v n : ℕ) → v < n → sum (λ k. cond (eqb v k) (f k) 0) n ≡ f v
unfolding sum
sum_one f v zero h = absurd (not-suc-le-zero h)
sum_one f v (suc n) h =
    ⊎_elim
    (λ (e : v ≡ n).
    let z = sum_zero (λ k. cond (eqb v k) (f k) 0) n (λ k l. rw (ne_eqb v k (λ q. omega arith))) in
    let w : cond (eqb v n) (f n) 0 ≡ f v = rw (eq-eqb v n e, e) in
    omega arith)
    (λ (l : v < n).
    let z = sum_one f v n l in
    let w : cond (eqb v n) (f n) 0 ≡ 0 = rw (ne_eqb v n (λ q. omega arith)) in
    omega arith)
    (eq-or-lt_of_le (le_of_suc-le-suc h))
