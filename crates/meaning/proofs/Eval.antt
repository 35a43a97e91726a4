-- Matching as tests that antt computes. Assumes nothing.
use mathlib.Core.Bool.{Bool, false, ◌&&◌, ◌||◌}
use mathlib.Core.Path.{◌≡◌, refl, sym, subst}
use mathlib.Core.Logic.{◌⊎◌, inl, inr, ⊎_elim}
use Prim.Native.Nat.{ℕ, zero, suc, ◌+◌, ◌-◌, ◌≤◌, ◌<◌}
use native.Mathlib.Omega.{arith}
use native.Mathlib.Nat.{eq-or-lt_of_le}
use lib.Dec.{T, ltb, eqb}
use Rattle.meaning.specs.Syntax.{Bexp, nott, Seq, one, cat, fuse, alt, empty, plus, clocked, Clock, free, on}
use Rattle.meaning.specs.Words.{Cell, real, top, bot, end, Word}
use Rattle.meaning.proofs.Cells.{is_top}
use Rattle.meaning.specs.Meaning.{Plus, last, more, satisfies, Match}
use Rattle.meaning.proofs.Order.{top_above, match_le, carry}
use Rattle.telling.proofs.Telling.{side, is_map, is_test, is_false, is_and, is_or, is_eq, is_le, is_some, is_every}
use Rattle.meaning.proofs.Words.{AllTop}
use Rattle.meaning.proofs.Unroll.{plus_first}
use Rattle.telling.specs.Tells.{Tells, some, every}

-- one or more stretches in a row, n steps at most
unfoldable pub plus_b : (ℕ → ℕ → Bool) → ℕ → ℕ → ℕ → Bool
plus_b M zero i j = M i j
plus_b M (suc n) i j = let r = some (λ m. let s = plus_b M n m j in M i m && s) (suc i) (j - suc i) in M i j || r

pub is_plus : {M : ℕ → ℕ → Bool} {N : ℕ → ℕ → Type 0} → ((a b : ℕ) → Tells (M a b) (N a b)) → ((a b : ℕ) → N a b → a ≤ b)
    → (n i j : ℕ) → j ≤ i + n → Tells (plus_b M n i j) (Plus N i j)
unfolding plus_b
is_plus h le zero i j c = is_map (h i j) last (λ q. ⊎_elim (λ x. x) (λ x. absurd (omega arith)) (plus_first le q))
is_plus h le (suc n) i j c =
    is_map (is_or (h i j) (is_some (suc i) (j - suc i) (λ m u v. is_and (h i m) (is_plus h le n m j (omega arith)))))
    (⊎_elim last (λ q. more q.3.0 q.3.1))
    (λ q. ⊎_elim inl (λ x. inr (x.0, x.1, omega arith, (x.3, x.4))) (plus_first le q))

-- a row that ends past e has a stretch that passes e
plus_cross : {N : ℕ → ℕ → Type 0} (e : ℕ) → ((a b : ℕ) → N a b → a ≤ b) → {i j : ℕ} → Plus N i j → i ≤ e → e < j
    → (a : ℕ) × (k : ℕ) × ((i ≡ a) ⊎ Plus N i a) × (i ≤ a) × (a ≤ e) × (e < k) × N a k
plus_cross e le (last {i = i} {j = j} h) u v = (i, j, inl refl, omega arith, u, v, h)
plus_cross {N} e le (more {i = i} {m = m} {j = j} h q) u v =
    let l = le i m h in
    ⊎_elim (λ x. (i, m, inl refl, omega arith, u, x, h))
    (λ x.
    let (a, k, z, y, w, t, n) = plus_cross e le q x v in
    (a, k, ⊎_elim (λ p. inr (subst (λ b. Plus N i b) p (last h))) (λ p. inr (more h p)) z, omega arith, w, t, n))
    (side e m)

plus_snoc : {N : ℕ → ℕ → Type 0} {i m : ℕ} → Plus N i m → (j : ℕ) → N m j → Plus N i j
plus_snoc (last a) j h = more a (last h)
plus_snoc (more a q) j h = more a (plus_snoc q j h)

module _ {A S : Type 0} (reads : A → S → Bool) where
  unfoldable pub match_b : Clock A → Seq A → Word S → ℕ → ℕ → Bool
  match_b free (one b) f i j = let t = satisfies reads (f i) b in eqb j (suc i) && t
  match_b (on c) (one b) f i j =
      let t = satisfies reads (f (j - 1)) c && (satisfies reads (f (j - 1)) b && every (λ m. satisfies reads (f m) (nott c)) i (j - 1 - i)) in
      ltb i j && t
  match_b κ (cat r s) f i j = some (λ m. let t = match_b κ s f m j in match_b κ r f i m && t) i (suc (j - i))
  match_b κ (fuse r s) f i j = some (λ m. let t = match_b κ s f m j in match_b κ r f i (suc m) && t) i (j - i)
  match_b κ (alt r s) f i j = let t = match_b κ s f i j in match_b κ r f i j || t
  match_b κ (empty r) f i j = eqb i j
  match_b κ (plus r) f i j = plus_b (match_b κ r f) (j - i) i j
  match_b κ (clocked c r) f i j = match_b (on c) r f i j

  pub is_match : (κ : Clock A) (r : Seq A) (f : Word S) (i j : ℕ) → Tells (match_b κ r f i j) (Match reads κ r f i j)
  unfolding match_b Match
  is_match free (one b) f i j = is_and (is_eq j (suc i)) (is_test (satisfies reads (f i) b))
  is_match (on c) (one b) f i j =
      is_map
      (is_and (is_le (suc i) j)
      (is_and (is_test (satisfies reads (f (j - 1)) c))
      (is_and (is_test (satisfies reads (f (j - 1)) b)) (is_every i (j - 1 - i) (λ m u v. is_test (satisfies reads (f m) (nott c)))))))
      (λ q. (j - 1, omega arith, omega arith, q.1.0, q.1.1.0, λ m u v. q.1.1.1 m u (omega arith)))
      (λ q.
      let e : q.0 ≡ j - 1 = omega arith in (
        omega arith,
        (
          subst (λ k. T (satisfies reads (f k) c)) e q.3,
          (subst (λ k. T (satisfies reads (f k) b)) e q.4, λ m u v. q.5 m u (omega arith)),
        ),
      ))
  is_match κ (cat r s) f i j =
      is_map (is_some i (suc (j - i)) (λ m u v. is_and (is_match κ r f i m) (is_match κ s f m j))) (λ q. (q.0, q.3.0, q.3.1))
      (λ q. let x = match_le reads κ r f i q.0 q.1 in let y = match_le reads κ s f q.0 j q.2 in (q.0, x, omega arith, (q.1, q.2)))
  is_match κ (fuse r s) f i j =
      is_map (is_some i (j - i) (λ m u v. is_and (is_match κ r f i (suc m)) (is_match κ s f m j))) (λ q. (q.0, q.1, omega arith, q.3.0, q.3.1))
      (λ q. (q.0, q.1, omega arith, (q.3, q.4)))
  is_match κ (alt r s) f i j = is_or (is_match κ r f i j) (is_match κ s f i j)
  is_match κ (empty r) f i j = is_eq i j
  is_match κ (plus r) f i j = is_plus (is_match κ r f) (match_le reads κ r f) (j - i) i j (omega arith)
  is_match κ (clocked c r) f i j = is_match (on c) r f i j

  top-satisfies : (b : Bexp A) (x : Cell S) → T (is_top x) → T (satisfies reads x b)
  unfolding satisfies
  top-satisfies b (real s) t = absurd t
  top-satisfies b top t = tt
  top-satisfies b bot t = t
  top-satisfies b end t = t

  -- letters i to e - 1 of f, then one or more ⊤, match r; f has only ⊤ from e on
  unfoldable pub top_b : Clock A → Seq A → Word S → ℕ → ℕ → Bool
  top_b free (one b) f e i = eqb i e
  top_b (on c) (one b) f e i = every (λ m. satisfies reads (f m) (nott c)) i (e - i)
  top_b κ (cat r s) f e i =
      let u = top_b κ r f e i && (match_b κ s f e e || top_b κ s f e e) in
      some (λ m. let t = top_b κ s f e m in match_b κ r f i m && t) i (suc (e - i)) || u
  top_b κ (fuse r s) f e i =
      let u = top_b κ r f e i && top_b κ s f e e in
      some (λ m. let t = top_b κ s f e m in match_b κ r f i (suc m) && t) i (e - i) || u
  top_b κ (alt r s) f e i = let t = top_b κ s f e i in top_b κ r f e i || t
  top_b κ (empty r) f e i = false
  top_b κ (plus r) f e i =
      let u = some (λ m. let t = top_b κ r f e m in plus_b (match_b κ r f) (m - i) i m && t) i (suc (e - i)) in
      top_b κ r f e i || u
  top_b κ (clocked c r) f e i = top_b (on c) r f e i

  abbrev pub Past : Clock A → Seq A → Word S → ℕ → ℕ → Type 0
  Past κ r f e i = (k : ℕ) × (e < k) × Match reads κ r f i k

  -- among ⊤ letters a match may stand anywhere
  float : (κ : Clock A) (r : Seq A) (f : Word S) (e : ℕ) → AllTop f e → (i j k : ℕ) → e ≤ i → e ≤ k → Match reads κ r f i j → Match reads κ r f k (j + k - i)
  float κ r f e h i j k u v m =
      let l = match_le reads κ r f i j m in
      carry reads κ r f f i k i j k (j + k - i) (omega arith) (omega arith) (λ p q z x y. top_above (f p) (f q) (h q (omega arith))) m

  pub is_top_lem : (κ : Clock A) (r : Seq A) (f : Word S) (e : ℕ) → AllTop f e → (i : ℕ) → i ≤ e → Tells (top_b κ r f e i) (Past κ r f e i)
  unfolding top_b match_b Match satisfies
  is_top_lem free (one b) f e h i u =
      is_map (is_eq i e) (λ z. (suc e, omega arith, (omega arith, top-satisfies b (f i) (h i (omega arith))))) (λ q. omega arith)
  is_top_lem (on c) (one b) f e h i u =
      is_map (is_every i (e - i) (λ m u v. is_test (satisfies reads (f m) (nott c))))
      (λ t.
      let x = h e (omega arith) in
      (suc e, omega arith, (e, refl, u, top-satisfies c (f e) x, top-satisfies b (f e) x, λ m a l. t m a (omega arith))))
      (λ q m v w. q.2.5 m v (omega arith))
  is_top_lem κ (cat r s) f e h i u =
      is_map
      (is_or (is_some i (suc (e - i)) (λ m a b. is_and (is_match κ r f i m) (is_top_lem κ s f e h m (omega arith))))
      (is_and (is_top_lem κ r f e h i u) (is_or (is_match κ s f e e) (is_top_lem κ s f e h e (omega arith)))))
      (⊎_elim (λ q. let (m, a, b, (x, (k, l, y))) = q in (k, l, (m, x, y)))
      (λ q.
      let ((k, l, x), z) = q in
      ⊎_elim (λ y. (e + k - e, omega arith, (k, x, float κ s f e h e e k (omega arith) (omega arith) y)))
      (λ y. (y.0 + k - e, omega arith, (k, x, float κ s f e h e y.0 k (omega arith) (omega arith) y.2))) z))
      (λ q.
      let (k, l, (m, x, y)) = q in
      let a = match_le reads κ r f i m x in
      let b = match_le reads κ s f m k y in
      ⊎_elim
      (λ z.
      let y' = float κ s f e h m k e (omega arith) (omega arith) y in
      inr (
        (m, z, x),
        ⊎_elim (λ w. inl (subst (λ b. Match reads κ s f e b) (omega arith) y')) (λ w. inr (k + e - m, omega arith, y')) (eq-or-lt_of_le b),
      ))
      (λ z. inl (m, a, omega arith, (x, (k, l, y)))) (side e m))
  is_top_lem κ (fuse r s) f e h i u =
      is_map
      (is_or (is_some i (e - i) (λ m a b. is_and (is_match κ r f i (suc m)) (is_top_lem κ s f e h m (omega arith))))
      (is_and (is_top_lem κ r f e h i u) (is_top_lem κ s f e h e (omega arith))))
      (⊎_elim (λ q. let (m, a, b, (x, (k, l, y))) = q in (k, l, (m, a, omega arith, x, y)))
      (λ q.
      let ((k, l, x), (k2, l2, y)) = q in (
        k2 + (k - 1) - e,
        omega arith,
        (
          k - 1,
          omega arith,
          omega arith,
          subst (λ b. Match reads κ r f i b) (omega arith) x,
          float κ s f e h e k2 (k - 1) (omega arith) (omega arith) y,
        ),
      )))
      (λ q.
      let (k, l, (m, a, b, x, y)) = q in
      ⊎_elim (λ z. inl (m, a, omega arith, (x, (k, l, y))))
      (λ z. inr ((suc m, omega arith, x), (k + e - m, omega arith, float κ s f e h m k e (omega arith) (omega arith) y))) (side m e))
  is_top_lem κ (alt r s) f e h i u =
      is_map (is_or (is_top_lem κ r f e h i u) (is_top_lem κ s f e h i u))
      (⊎_elim (λ q. (q.0, q.1, inl q.2)) (λ q. (q.0, q.1, inr q.2)))
      (λ q. ⊎_elim (λ x. inl (q.0, q.1, x)) (λ x. inr (q.0, q.1, x)) q.2)
  is_top_lem κ (empty r) f e h i u = is_false (λ q. omega arith)
  is_top_lem κ (plus r) f e h i u =
      is_map
      (is_or (is_top_lem κ r f e h i u)
      (is_some i (suc (e - i))
      (λ m a b. is_and (is_plus (is_match κ r f) (match_le reads κ r f) (m - i) i m (omega arith)) (is_top_lem κ r f e h m (omega arith)))))
      (⊎_elim (λ q. (q.0, q.1, last q.2)) (λ q. let (m, a, b, (x, (k, l, y))) = q in (k, l, plus_snoc x k y)))
      (λ q.
      let (k, l, p) = q in
      let (a, b, z, y, w, c, n) = plus_cross e (match_le reads κ r f) p u l in
      ⊎_elim (λ x. inl (b, c, subst (λ a. Match reads κ r f a b) (sym x) n)) (λ x. inr (a, y, omega arith, (x, (b, c, n)))) z)
  is_top_lem κ (clocked c r) f e h i u = is_top_lem (on c) r f e h i u
