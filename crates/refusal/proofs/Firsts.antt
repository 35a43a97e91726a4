-- Laws of `first`, the lowest number that a test passes: what is found passes and nothing below it does; and what a loop that looks for it has found.
-- Assumes nothing.
use borrow.Author.Tests.{ltb-true, ltb-false, lt-ltb}
use mathlib.Core.Path.{◌≡◌, refl, ◌∙◌, sym}
use mathlib.Core.Bool.{Bool, true, false, cond, true≢false}
use Prim.Native.Nat.{ℕ, zero, suc, ◌+◌, ◌-◌, ◌<◌, ◌≤◌}
use native.Mathlib.Nat.{sub-zero, zero-add, add-zero, not-suc-le-zero, le_of_suc-le-suc, suc-add, add-suc}
use native.Mathlib.Omega.{arith}
use lib.Dec.{ltb}
use Rattle.std.proofs.Common.{Some, None}
use Rattle.refusal.specs.Computed.{first_of, first, found}

module _ (p : ℕ → Bool) where
  -- below what is found no test passes
  none_from : (m i k : ℕ) → k < m → i + k < first_of p i m → p (i + k) ≡ false
  unfolding first_of
  none_from zero i k l h = absurd (not-suc-le-zero l)
  none_from (suc m) i k l h = go (none_from m (suc i)) (p i) refl k l h
    where
      go : ((k : ℕ) → k < m → suc i + k < first_of p (suc i) m → p (suc i + k) ≡ false) → (b : Bool) → p i ≡ b
          → (k : ℕ) → k < suc m → i + k < cond (p i) i (first_of p (suc i) m) → p (i + k) ≡ false
      go ih true e k l h = let g : i + k < i = simp e at h in absurd (let w : ⊥ = omega arith in w)
      go ih false e zero l h = rw add-zero e
      go ih false e (suc k) l h =
          let g : i + suc k < first_of p (suc i) m = simp e at h in
          rw (add-suc i k, ← suc-add i k) (ih k (le_of_suc-le-suc l) (omega arith))

  -- what is found passes
  found_from : (m i : ℕ) → first_of p i m < i + m → p (first_of p i m) ≡ true
  unfolding first_of
  found_from zero i h = absurd (let w : ⊥ = omega arith in w)
  found_from (suc m) i h = go (found_from m (suc i)) (p i) refl h
    where
      go : (first_of p (suc i) m < suc i + m → p (first_of p (suc i) m) ≡ true) → (b : Bool) → p i ≡ b
          → cond b i (first_of p (suc i) m) < i + suc m → p (cond b i (first_of p (suc i) m)) ≡ true
      go ih true e h = e
      go ih false e h = ih (omega arith)

  module _ (n : ℕ) where
    pub found_passes : first p 0 n < n → p (first p 0 n) ≡ true
    found_passes h = let z : n - 0 ≡ n = sub-zero n in found_from (n - 0) 0 (omega arith)

    pub below_found : (k : ℕ) → k < n → k < first p 0 n → p k ≡ false
    below_found k l h = let z : n - 0 ≡ n = sub-zero n in rw (zero-add k) at (none_from (n - 0) 0 k (omega arith) (omega arith))

    -- a search that comes to the end has found none
    pub none_below : ltb (first p 0 n) n ≡ false → (k : ℕ) → k < n → p k ≡ false
    none_below e k l = below_found k l (omega (arith, ltb-false))

    -- a test that passes below n is found at or below it
    pub found_at : (k : ℕ) → k < n → p k ≡ true → first p 0 n ≤ k
    found_at k l e = go (ltb k (first p 0 n)) refl
      where
        go : (b : Bool) → ltb k (first p 0 n) ≡ b → first p 0 n ≤ k
        go true q = absurd (true≢false (sym e ∙ below_found k l (ltb-true k (first p 0 n) q)))
        go false q = ltb-false k (first p 0 n) q

-- ---- a loop that goes up from 0: no number that it has passed passes the test

module _ (p : ℕ → Bool) (n : ℕ) where
  pub found_here : (k : ℕ) → k < n → ((j : ℕ) → j < k → p j ≡ false) → p k ≡ true → Some k ≡ found p n
  found_here k l before e =
      let here : first p 0 n ≡ k = go (ltb (first p 0 n) k) refl in
      let below : ltb (first p 0 n) n ≡ true = lt-ltb _ _ (omega arith) in
      rw (below, here)
    where
      go : (b : Bool) → ltb (first p 0 n) k ≡ b → first p 0 n ≡ k
      go true q = let h = ltb-true (first p 0 n) k q in absurd (true≢false (sym (found_passes p n (omega arith)) ∙ before (first p 0 n) h))
      go false q = let h = ltb-false (first p 0 n) k q in let g = found_at p n k l e in omega arith

  pub found_nowhere : (k : ℕ) → n ≤ k → ((j : ℕ) → j < k → p j ≡ false) → None ≡ found p n
  found_nowhere k l before = go (ltb (first p 0 n) n) refl
    where
      go : (b : Bool) → ltb (first p 0 n) n ≡ b → None ≡ cond b (Some (first p 0 n)) None
      go true q = let h = ltb-true (first p 0 n) n q in absurd (true≢false (sym (found_passes p n h) ∙ before (first p 0 n) (omega arith)))
      go false q = refl

  -- what is found, as tests
  pub found_some : (k : ℕ) → Some k ≡ found p n → (ltb (first p 0 n) n ≡ true) × (first p 0 n ≡ k)
  found_some k = go (ltb (first p 0 n) n)
    where
      go : (b : Bool) → Some k ≡ cond b (Some (first p 0 n)) None → (b ≡ true) × (first p 0 n ≡ k)
      go true e = (refl, cc)
      go false e = cc

  pub found_none : None ≡ found p n → ltb (first p 0 n) n ≡ false
  found_none = go (ltb (first p 0 n) n)
    where
      go : (b : Bool) → None ≡ cond b (Some (first p 0 n)) None → b ≡ false
      go true e = cc
      go false e = refl
