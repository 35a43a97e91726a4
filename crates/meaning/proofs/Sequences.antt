-- Sequences on a record: matches among the samples and past them, and strong(R) and weak(R) as tests that antt computes. Assumes nothing.
use mathlib.Core.Bool.{Bool, ◌||◌}
use mathlib.Core.Path.{sym, subst}
use mathlib.Core.Logic.{inl, inr, ⊎_elim}
use mathlib.Core.List.{List}
use Prim.Native.Nat.{ℕ, suc, ◌-◌, ◌≤◌, ◌<◌}
use native.Mathlib.Omega.{arith}
use lib.Dec.{T, leb}
use lib.ListN.{length}
use Rattle.telling.specs.Tells.{Tells, some}
use Rattle.telling.proofs.Telling.{side, is_map, is_or, is_le, is_some}
use Rattle.meaning.specs.Syntax.{Seq, weak, Clock}
use Rattle.meaning.specs.Words.{inside, cut, word, Tail, none, tops, bots, after}
use Rattle.meaning.specs.Meaning.{Match, Strong, Sat}
use Rattle.meaning.proofs.Cells.{alive}
use Rattle.meaning.proofs.Order.{Below, same, match_mono, match_alive}
use Rattle.meaning.proofs.Words.{shut, word_in, word_out, word-inside, full, full-top, cut_in, cut_above, full_above, full-below}
use Rattle.meaning.proofs.Mono.{strong_mono}
use Rattle.meaning.proofs.Eval.{match_b, is_match, top_b, is_top_lem}

module _ {A S : Type 0} (reads : A → S → Bool) where
  -- a match inside the samples is one whatever the tail
  pub match_any : (κ : Clock A) (r : Seq A) (xs : List S) (t u : Tail) (i j : ℕ) → j ≤ length xs → Match reads κ r (word xs t) i j → Match reads κ r (word xs u) i j
  match_any κ r xs t u i j l m =
      match_mono reads κ r (word xs t) (word xs u) i j (λ p a b. subst (λ x. Below (word xs t p) x) (word_in xs t u p (omega arith)) same) m

  -- with no tail or a ⊥ tail a match ends inside the samples
  pub match_shut : (κ : Clock A) (r : Seq A) (xs : List S) (t : Tail) → T (shut t) → (i j : ℕ) → i < j → Match reads κ r (word xs t) i j → j ≤ length xs
  match_shut κ r xs t z i j l m = ⊎_elim (λ x. omega arith) (λ x. absurd (go t z (rw (word_out xs t (j - 1) x) at (match_alive reads κ r (word xs t) i j m (j - 1) (omega arith) (omega arith))))) (side (j - 1) (length xs))
    where
      go : (t : Tail) → T (shut t) → T (alive {S = S} (after t)) → ⊥
      go none z h = h
      go tops z h = z
      go bots z h = h

  unfoldable pub in_b : Clock A → Seq A → List S → ℕ → Bool
  in_b κ r xs i = some (λ p. match_b reads κ r (full xs) i (suc p)) i (length xs - i)

  is_in : (κ : Clock A) (r : Seq A) (xs : List S) (t : Tail) (i : ℕ)
      → Tells (in_b κ r xs i) ((j : ℕ) × (i < j) × (j ≤ length xs) × Match reads κ r (word xs t) i j)
  unfolding in_b
  is_in κ r xs t i =
      is_map (is_some i (length xs - i) (λ p u v. is_match reads κ r (full xs) i (suc p)))
      (λ q. (suc q.0, omega arith, omega arith, match_any κ r xs tops t i (suc q.0) (omega arith) q.3))
      (λ q. (
        q.0 - 1,
        omega arith,
        omega arith,
        subst (λ k. Match reads κ r (full xs) i k) (omega arith) (match_any κ r xs t tops i q.0 q.2 q.3),
      ))

  unfoldable pub strong_b : Clock A → Seq A → List S → Tail → ℕ → Bool
  strong_b κ r xs none i = in_b κ r xs i
  strong_b κ r xs tops i = let t = top_b reads κ r (full xs) (length xs) i in in_b κ r xs i || t
  strong_b κ r xs bots i = in_b κ r xs i

  is_shut : (κ : Clock A) (r : Seq A) (xs : List S) (t : Tail) → T (shut t) → (i : ℕ) → Tells (in_b κ r xs i) (Strong reads κ r (word xs t) i)
  unfolding Strong
  is_shut κ r xs t z i =
      is_map (is_in κ r xs t i) (λ q. (q.0, q.1, q.3)) (λ q. (q.0, q.1, match_shut κ r xs t z i q.0 q.1 q.2, q.2))

  pub is_strong : (κ : Clock A) (r : Seq A) (xs : List S) (t : Tail) (i : ℕ) → i ≤ length xs → Tells (strong_b κ r xs t i) (Strong reads κ r (word xs t) i)
  unfolding strong_b Strong
  is_strong κ r xs none i l = is_shut κ r xs none tt i
  is_strong κ r xs bots i l = is_shut κ r xs bots tt i
  is_strong κ r xs tops i l =
      is_map (is_or (is_in κ r xs tops i) (is_top_lem reads κ r (full xs) (length xs) (full-top xs) i l))
      (⊎_elim (λ q. (q.0, q.1, q.3)) (λ q. (q.0, omega arith, q.2)))
      (λ q. ⊎_elim (λ x. inr (q.0, x, q.2)) (λ x. inl (q.0, q.1, x, q.2)) (side (length xs) q.0))

  -- cutting a ⊥ tail after its first ⊥ lets no new match in
  bots_cut : (κ : Clock A) (r : Seq A) (xs : List S) (i : ℕ) → i ≤ length xs
      → Strong reads κ r (cut (word xs bots) (suc (length xs))) i → Strong reads κ r (word xs bots) i
  unfolding Strong
  bots_cut κ r xs i l (j, u, m) =
      let n = length xs in
      let w = word xs bots in
      let v : j ≤ n =
      ⊎_elim
      (λ x.
      absurd
      (rw (cut_in w (suc n) n (omega arith), word_out xs bots n (omega arith)) at (match_alive reads κ r (cut w (suc n)) i j m n (omega arith) x)))
      (λ x. x) (side n j) in (
        j,
        u,
        match_mono reads κ r (cut w (suc n)) w i j (λ p a b. subst (λ x. Below x (w p)) (sym (cut_in w (suc n) p (omega arith))) same) m,
      )

  unfoldable pub weak_b : Clock A → Seq A → List S → Tail → ℕ → Bool
  weak_b κ r xs none i = leb (length xs) i || strong_b κ r xs tops i
  weak_b κ r xs tops i = strong_b κ r xs tops i
  weak_b κ r xs bots i = strong_b κ r xs bots i

  pub is_weak : (κ : Clock A) (r : Seq A) (xs : List S) (t : Tail) (i : ℕ) → i ≤ length xs → Tells (weak_b κ r xs t i) (Sat reads κ (weak r) (word xs t) i)
  unfolding weak_b Sat
  is_weak κ r xs none i l =
      let n = length xs in
      is_map (is_or (is_le n i) (is_strong κ r xs tops i l))
      (λ q p u z.
      let v : p < n = ⊎_elim (λ x. x) (λ x. absurd (subst (λ c. T (inside c)) (word_out xs none p x) z)) (side p n) in
      ⊎_elim (λ x. absurd (omega arith)) (strong_mono reads κ r (full xs) (cut (word xs none) (suc p)) i (λ q. full-below xs none (suc p) q v)) q)
      (λ h.
      ⊎_elim
      (λ x.
      inr
      (strong_mono reads κ r (cut (word xs none) (suc (n - 1))) (full xs) i (λ q. full_above xs none (suc (n - 1)) q (omega arith))
      (h (n - 1) (omega arith) (word-inside xs none (n - 1) (omega arith)))))
      inl (side i n))
  is_weak κ r xs tops i l =
      let n = length xs in
      is_map (is_strong κ r xs tops i l) (λ s p u z. strong_mono reads κ r (full xs) (cut (full xs) (suc p)) i (cut_above (full xs) (suc p)) s)
      (λ h.
      strong_mono reads κ r (cut (full xs) (suc n)) (full xs) i (λ q. full_above xs tops (suc n) q (omega arith))
      (h n l (rw (word_out xs tops n (omega arith)) tt)))
  is_weak κ r xs bots i l =
      let w = word xs bots in
      is_map (is_strong κ r xs bots i l) (λ s p u z. strong_mono reads κ r w (cut w (suc p)) i (cut_above w (suc p)) s)
      (λ h. bots_cut κ r xs i l (h (length xs) l (rw (word_out xs bots (length xs) (omega arith)) tt)))
