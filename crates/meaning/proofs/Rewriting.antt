-- Rewriting clocks away changes no match of a word and no answer of a record. Assumes nothing.
use mathlib.Core.Bool.{Bool, not}
use mathlib.Core.Path.{◌≡◌, refl, sym, subst, fun_ext}
use mathlib.Core.Logic.{◌⊎◌, inl, inr, ⊎_elim, ◌↔◌}
use mathlib.Core.List.{List, [], ◌∷◌}
use Prim.Native.Nat.{ℕ, zero, suc, ◌+◌, ◌-◌, ◌≤◌, ◌<◌}
use native.Mathlib.Omega.{arith}
use native.Mathlib.Nat.{eq-or-lt_of_le}
use lib.Dec.{T, T_not}
use lib.ListN.{length}
use Rattle.meaning.specs.Syntax.{Bexp, nott, andd, Seq, one, cat, fuse, alt, empty, plus, clocked, Prop, strong, weak, neg, either, both, implies, next, until, under, Clock, free, on}
use Rattle.meaning.specs.Words.{Cell, real, top, bot, end, Word, inside, is_bot, flip, bar, cut, NoBot, word, Tail, none, tops, bots, other}
use Rattle.meaning.proofs.Cells.{is_top}
use Rattle.meaning.specs.Meaning.{Plus, last, more, value, satisfies, Match, counts, ticks, Second, Strong, Sat, Topped, Accepted, Level}
use Rattle.meaning.specs.Rewriting.{tick_s, rew_s, now, seek, rew_p}
use Rattle.telling.proofs.Telling.{side, is_test, is_true, is_false, is_and, is_not, test}
use Rattle.meaning.proofs.Words.{bar-word, word_out, word-inside, word_not_bot, botted, no_bot}
use Rattle.meaning.proofs.Tails.{bot_inside}
use Rattle.meaning.proofs.Answers.{out_ticks, decided}
use Rattle.meaning.proofs.Leveling.{same_level}
use Rattle.telling.specs.Tells.{Tells}

plus_map : {M N : ℕ → ℕ → Type 0} → ((a b : ℕ) → M a b → N a b) → {i j : ℕ} → Plus M i j → Plus N i j
plus_map f (last {i = i} {j = j} a) = last (f i j a)
plus_map f (more {i = i} {m = m} a q) = more (f i m a) (plus_map f q)

-- a row of single letters
run_out : (F : ℕ → Bool) {i j : ℕ} → Plus (λ a b. (b ≡ suc a) × T (F a)) i j → (i < j) × ((p : ℕ) → i ≤ p → p < j → T (F p))
run_out F (last {i = i} {j = j} (e, t)) = (omega arith, λ p u v. subst (λ x. T (F x)) (omega arith) t)
run_out F (more {i = i} {m = m} {j = j} (e, t) q) =
    let (x, y) = run_out F q in
    (omega arith, λ p u v. ⊎_elim (λ z. subst (λ x. T (F x)) z t) (λ z. y p (omega arith) v) (eq-or-lt_of_le u))

run_in : (F : ℕ → Bool) (n i j : ℕ) → j ≡ i + suc n → ((p : ℕ) → i ≤ p → p < j → T (F p)) → Plus (λ a b. (b ≡ suc a) × T (F a)) i j
run_in F zero i j e h = last {i = i} {j = j} (omega arith, h i (omega arith) (omega arith))
run_in F (suc n) i j e h = more {i = i} {m = suc i} {j = j} (refl, h i (omega arith) (omega arith)) (run_in F n (suc i) j (omega arith) (λ p u v. h p (omega arith) v))

-- the first place from i on, among n, where F passes
first : (F : ℕ → Bool) (n i : ℕ)
    → ((j : ℕ) × (i ≤ j) × T (F j) × ((m : ℕ) → i ≤ m → m < j → T (not (F m)))) ⊎ ((m : ℕ) → i ≤ m → m < i + n → T (not (F m)))
first F zero i = inr (λ m u v. absurd (omega arith))
first F (suc n) i =
    ⊎_elim (λ x. inl (i, omega arith, x, λ m u v. absurd (omega arith)))
    (λ x.
    ⊎_elim
    (λ y. let (j, a, b, c) = y in inl (j, omega arith, b, λ m u v. ⊎_elim (λ e. subst (λ k. T (not (F k))) e x) (λ l. c m l v) (eq-or-lt_of_le u)))
    (λ y. inr (λ m u v. ⊎_elim (λ e. subst (λ k. T (not (F k))) e x) (λ l. y m l (omega arith)) (eq-or-lt_of_le u)))
    (first F n (suc i)))
    (test (F i))

module _ {A S : Type 0} (reads : A → S → Bool) where
  is_satisfies : (x : Cell S) (b c : Bexp A) → Tells (satisfies reads x (andd b c)) (T (satisfies reads x b) × T (satisfies reads x c))
  unfolding satisfies value
  is_satisfies (real s) b c = is_and (is_test (value reads b s)) (is_test (value reads c s))
  is_satisfies top b c = is_true (tt, tt)
  is_satisfies bot b c = is_false (λ q. q.0)
  is_satisfies end b c = is_false (λ q. q.0)

  tick_iff : (c b : Bexp A) (w : Word S) (i j : ℕ) → Match reads (on c) (one b) w i j ↔ Match reads free (tick_s c b) w i j
  unfolding Match
  tick_iff c b w i j = (
    λ h.
        let (k, e, l, x, y, z) = h in (
          k,
          ⊎_elim (λ q. inl q) (λ q. inr (run_in (λ m. satisfies reads (w m) (nott c)) (k - 1 - i) i k (omega arith) z)) (eq-or-lt_of_le l),
          (e, (is_satisfies (w k) c b).from (x, y)),
        ),
    λ h.
        let (k, x, (e, t)) = h in
        let (y, z) = (is_satisfies (w k) c b).to t in
        ⊎_elim (λ q. (k, e, omega arith, y, z, λ m u v. absurd (omega arith)))
        (λ q. let (u, v) = run_out (λ m. satisfies reads (w m) (nott c)) q in (k, e, omega arith, y, z, v)) x,
  )

  -- a sequence and its rewriting match the same stretches of every word
  pub match_rew : (κ : Clock A) (r : Seq A) (w : Word S) (i j : ℕ) → Match reads κ r w i j ↔ Match reads free (rew_s κ r) w i j
  unfolding Match rew_s
  match_rew free (one b) w i j = (λ h. h, λ h. h)
  match_rew (on c) (one b) w i j = tick_iff c b w i j
  match_rew κ (cat r s) w i j = (
    λ h. let (m, x, y) = h in (m, (match_rew κ r w i m).0 x, (match_rew κ s w m j).0 y),
    λ h. let (m, x, y) = h in (m, (match_rew κ r w i m).1 x, (match_rew κ s w m j).1 y),
  )
  match_rew κ (fuse r s) w i j = (
    λ h. let (m, u, v, x, y) = h in (m, u, v, (match_rew κ r w i (suc m)).0 x, (match_rew κ s w m j).0 y),
    λ h. let (m, u, v, x, y) = h in (m, u, v, (match_rew κ r w i (suc m)).1 x, (match_rew κ s w m j).1 y),
  )
  match_rew κ (alt r s) w i j = (
    ⊎_elim (λ x. inl ((match_rew κ r w i j).0 x)) (λ x. inr ((match_rew κ s w i j).0 x)),
    ⊎_elim (λ x. inl ((match_rew κ r w i j).1 x)) (λ x. inr ((match_rew κ s w i j).1 x)),
  )
  match_rew κ (empty r) w i j = (λ h. h, λ h. h)
  match_rew κ (plus r) w i j = (plus_map (λ a b. (match_rew κ r w a b).0), plus_map (λ a b. (match_rew κ r w a b).1))
  match_rew κ (clocked c r) w i j = match_rew (on c) r w i j

  strong_rew : (κ : Clock A) (r : Seq A) (w : Word S) (i : ℕ) → Strong reads κ r w i ↔ Strong reads free (rew_s κ r) w i
  unfolding Strong
  strong_rew κ r w i =
      (λ h. let (j, l, m) = h in (j, l, (match_rew κ r w i j).0 m), λ h. let (j, l, m) = h in (j, l, (match_rew κ r w i j).1 m))

  now_iff : (b : Bexp A) (w : Word S) (i : ℕ) → Sat reads free (now b) w i ↔ T (satisfies reads (w i) b)
  unfolding Sat Strong Match
  now_iff b w i = (λ h. h.2.1, λ t. (suc i, omega arith, (refl, t)))

  stable : (κ : Clock A) (P : Prop A) (xs : List S) (t : Tail) (i : ℕ) → ¬ ¬ Sat reads κ P (word xs t) i → Sat reads κ P (word xs t) i
  stable κ P xs t i h = ⊎_elim (λ x. x) (λ x. absurd (h x)) (decided reads κ P xs t i)

  -- the cells
  tick_satisfies : (c : Bexp A) (x : Cell S) → T (ticks reads c x) → T (satisfies reads x c)
  unfolding ticks satisfies
  tick_satisfies c (real s) t = t
  tick_satisfies c top t = tt
  tick_satisfies c bot t = t
  tick_satisfies c end t = t

  meets_tick : (c : Bexp A) (x : Cell S) → T (satisfies reads x c) → T (ticks reads c x) ⊎ T (is_top x)
  unfolding ticks satisfies
  meets_tick c (real s) t = inl t
  meets_tick c top t = inr tt
  meets_tick c bot t = absurd t
  meets_tick c end t = absurd t

  idle : (c : Bexp A) (x : Cell S) → T (not (ticks reads c x)) → T (inside x) → T (not (is_bot x)) → T (satisfies reads x (nott c))
  unfolding ticks satisfies value
  idle c (real s) t u v = t
  idle c top t u v = tt
  idle c bot t u v = v
  idle c end t u v = u

  quiet : (c : Bexp A) (x : Cell S) → T (satisfies reads x (nott c)) → T (ticks reads c x) → ⊥
  unfolding ticks satisfies value
  quiet c (real s) t u = T_not (value reads c s) t u
  quiet c top t u = u
  quiet c bot t u = u
  quiet c end t u = u

  bot_deaf : (b : Bexp A) (x : Cell S) → T (is_bot x) → T (satisfies reads x b) → ⊥
  unfolding satisfies
  bot_deaf b (real s) t u = t
  bot_deaf b top t u = t
  bot_deaf b bot t u = u
  bot_deaf b end t u = t

  tick_inside : (c : Bexp A) (x : Cell S) → T (ticks reads c x) → T (inside x)
  unfolding ticks
  tick_inside c (real s) t = tt
  tick_inside c top t = tt
  tick_inside c bot t = tt
  tick_inside c end t = t

  tick_in : (c : Bexp A) (xs : List S) (t : Tail) (m : ℕ) → T (ticks reads c (word xs t m)) → m < length xs
  tick_in c xs t m h = ⊎_elim (λ x. x) (λ x. absurd (out_ticks reads c t (rw (word_out xs t m x) at h))) (side m (length xs))

  one_tick : (c : Bexp A) (w : Word S) (i j : ℕ) → ((m : ℕ) → i ≤ m → T (ticks reads c (w m)) → m ≡ j) → (k : ℕ) → ¬ Second reads c w i k
  unfolding Second
  one_tick c w i j h k (j', a, b, x, y, z) = let e = h j' a x in let e' = h k (omega arith) y in omega arith

  -- the first tick from i on, if there is one
  hunt : (c : Bexp A) (xs : List S) (t : Tail) (i : ℕ)
      → ((j : ℕ) × (i ≤ j) × T (ticks reads c (word xs t j)) × ((m : ℕ) → i ≤ m → m < j → T (not (ticks reads c (word xs t m)))))
      ⊎ ((m : ℕ) → i ≤ m → T (not (ticks reads c (word xs t m))))
  hunt c xs t i =
      ⊎_elim (λ x. inl x)
      (λ x.
      inr
      (λ m u.
      ⊎_elim (λ l. x m u l)
      (λ l. (is_not (is_test (ticks reads c (word xs t m)))).from (λ h. let y = tick_in c xs t m h in omega arith)) (side m (i + length xs))))
      (first (λ m. ticks reads c (word xs t m)) (length xs) i)

  -- nexttime under a clock is its block
  nextc_rew : (c : Bexp A) (P P' : Prop A) (xs : List S) (t : Tail) (i : ℕ)
      → ((k : ℕ) → Sat reads (on c) P (word xs t) k ↔ Sat reads free P' (word xs t) k)
      → Sat reads (on c) (next P) (word xs t) i → Sat reads free (seek c (next (seek c P'))) (word xs t) i
  unfolding Sat Second NoBot counts
  nextc_rew c P P' xs t i ih (inl (k, (j, ij, jk, tj, tk, uniq), s)) =
      let w = word xs t in
      let kn = tick_in c xs t k tk in
      let calm : (m : ℕ) → i ≤ m → m < k → ¬ (m ≡ j) → Sat reads free (now (nott c)) w m =
      λ m u v d.
      (now_iff (nott c) w m).1
      (idle c (w m) ((is_not (is_test (ticks reads c (w m)))).from (λ x. d (uniq m u v x))) (word-inside xs t m (omega arith)) (word_not_bot xs t m (omega arith))) in
      inl (
        j,
        ij,
        word-inside xs t j (omega arith),
        tt,
        (
          (now_iff c w j).1 (tick_satisfies c (w j) tj),
          inr
              (inl (
                k,
                jk,
                word-inside xs t k kn,
                tt,
                ((now_iff c w k).1 (tick_satisfies c (w k) tk), (ih k).0 s),
                λ m u v _. calm m (omega arith) v (λ e. omega arith),
              )),
        ),
        λ m u v _. calm m u (omega arith) (λ e. omega arith),
      )
  nextc_rew c P P' xs t i ih (inr (never, nb)) =
      let w = word xs t in
      let calm : (m : ℕ) → i ≤ m → T (not (ticks reads c (w m))) → T (inside (w m)) → Sat reads free (now (nott c)) w m =
      λ m u x y. (now_iff (nott c) w m).1 (idle c (w m) x y (nb m u)) in
      ⊎_elim
      (λ x.
      let (j, ij, tj, before) = x in
      let jn = tick_in c xs t j tj in
      inl (
        j,
        ij,
        word-inside xs t j jn,
        tt,
        (
          (now_iff c w j).1 (tick_satisfies c (w j) tj),
          inr
              (⊎_elim
              (λ y.
              let (k, jk, tk, between) = y in
              absurd
              (never k (
                j,
                ij,
                jk,
                tj,
                tk,
                λ m u v h.
                    ⊎_elim (λ l. absurd (T_not (ticks reads c (w m)) (before m u l) h))
                    (λ l. ⊎_elim (λ e. sym e) (λ l. absurd (T_not (ticks reads c (w m)) (between m l v) h)) (eq-or-lt_of_le l)) (side m j),
              )))
              (λ y. inr (λ m u z _. calm m (omega arith) (y m u) z))
              (hunt c xs t (suc j))),
        ),
        λ m u v _. calm m u (before m u v) (word-inside xs t m (omega arith)),
      ))
      (λ x. inr (λ m u z _. calm m u (x m u) z))
      (hunt c xs t i)

  top_tail : (xs : List S) (t : Tail) (k : ℕ) → T (is_top (word xs t k)) → (length xs ≤ k) × T (not (botted t))
  unfolding word
  top_tail [] none k h = absurd h
  top_tail [] tops k h = (omega arith, tt)
  top_tail [] bots k h = absurd h
  top_tail (x ∷ xs) t zero h = absurd h
  top_tail (x ∷ xs) t (suc k) h = let (a, b) = top_tail xs t k h in (omega arith, b)

  -- ⊥ stays: a bot is not before a tick
  bot_tick : (c : Bexp A) (xs : List S) (t : Tail) (p j : ℕ) → p ≤ j → T (is_bot (word xs t p)) → T (ticks reads c (word xs t j)) → ⊥
  bot_tick c xs t p j l b h = let z = tick_in c xs t j h in T_not (is_bot (word xs t p)) (word_not_bot xs t p (omega arith)) b

  second_back : (c : Bexp A) (P P' : Prop A) (xs : List S) (t : Tail) (i j : ℕ) → i ≤ j → T (ticks reads c (word xs t j))
      → ((m : ℕ) → i ≤ m → m < j → T (ticks reads c (word xs t m)) → ⊥)
      → ((k : ℕ) → Sat reads (on c) P (word xs t) k ↔ Sat reads free P' (word xs t) k)
      → Sat reads free (seek c P') (word xs t) (suc j) → Sat reads (on c) (next P) (word xs t) i
  unfolding Sat Second NoBot counts
  second_back c P P' xs t i j ij tj hush ih (inl (k, jk, ins, _, (ck, pk), between)) =
      let w = word xs t in
      let uniq : (m : ℕ) → i ≤ m → m < k → T (ticks reads c (w m)) → m ≡ j =
      λ m u v h.
      ⊎_elim (λ l. absurd (hush m u l h))
      (λ l. ⊎_elim (λ e. sym e) (λ l. absurd (quiet c (w m) ((now_iff (nott c) w m).0 (between m l v tt)) h)) (eq-or-lt_of_le l)) (side m j) in
      ⊎_elim (λ tk. inl (k, (j, ij, jk, tj, tk, uniq), (ih k).1 pk))
      (λ tk.
      let (a, b) = top_tail xs t k tk in
      inr (one_tick c w i j (λ m u h. let z = tick_in c xs t m h in uniq m u (omega arith) h), no_bot xs t i b))
      (meets_tick c (w k) ((now_iff c w k).0 ck))
  second_back c P P' xs t i j ij tj hush ih (inr s) =
      let w = word xs t in
      let deaf : (m : ℕ) → j < m → T (inside (w m)) → T (satisfies reads (w m) (nott c)) = λ m l x. (now_iff (nott c) w m).0 (s m l x tt) in
      inr (
        one_tick c w i j
            (λ m u h.
            ⊎_elim (λ l. absurd (hush m u l h))
            (λ l. ⊎_elim (λ e. sym e) (λ l. absurd (quiet c (w m) (deaf m l (tick_inside c (w m) h)) h)) (eq-or-lt_of_le l)) (side m j)),
        λ p u.
            (is_not (is_test (is_bot (w p)))).from
            (λ b. ⊎_elim (λ l. bot_deaf (nott c) (w p) b (deaf p l (bot_inside (w p) b))) (λ l. bot_tick c xs t p j l b tj) (side j p)),
      )

  nextc_back : (c : Bexp A) (P P' : Prop A) (xs : List S) (t : Tail) (i : ℕ)
      → ((k : ℕ) → Sat reads (on c) P (word xs t) k ↔ Sat reads free P' (word xs t) k)
      → Sat reads free (seek c (next (seek c P'))) (word xs t) i → Sat reads (on c) (next P) (word xs t) i
  unfolding Sat Second NoBot counts satisfies
  nextc_back c P P' xs t i ih (inr s) =
      let w = word xs t in
      let hush : (m : ℕ) → i ≤ m → T (ticks reads c (w m)) → ⊥ =
      λ m u h. quiet c (w m) ((now_iff (nott c) w m).0 (s m u (tick_inside c (w m) h) tt)) h in
      inr (
        λ k q. hush k (omega arith) q.4,
        λ p u. (is_not (is_test (is_bot (w p)))).from (λ b. bot_deaf (nott c) (w p) b ((now_iff (nott c) w p).0 (s p u (bot_inside (w p) b) tt))),
      )
  nextc_back c P P' xs t i ih (inl (j, ij, ins, _, (cj, nx), before)) =
      let w = word xs t in
      let hush : (m : ℕ) → i ≤ m → m < j → T (ticks reads c (w m)) → ⊥ =
      λ m u v h. quiet c (w m) ((now_iff (nott c) w m).0 (before m u v tt)) h in
      ⊎_elim
      (λ tj.
      ⊎_elim (λ x. absurd (T_not (inside (w j)) x ins))
      (λ x. second_back c P P' xs t i j ij tj hush ih x) nx)
      (λ tj.
      let (a, b) = top_tail xs t j tj in
      inr (λ k q. let z = tick_in c xs t k q.4 in hush k (omega arith) (omega arith) q.4, no_bot xs t i b))
      (meets_tick c (w j) ((now_iff c w j).0 cj))

  bar-bar : (w : Word S) → bar (bar w) ≡ w
  bar-bar w = fun_ext (λ p. go (w p))
    where
      go : (x : Cell S) → flip (flip x) ≡ x
      go (real s) = refl
      go top = refl
      go bot = refl
      go end = refl

  -- THE STATEMENT: on the three words of a record, at every position, a clocked property and its rewriting have the same answer
  pub sat_rew : (κ : Clock A) (P : Prop A) (xs : List S) (t : Tail) (i : ℕ) → Sat reads κ P (word xs t) i ↔ Sat reads free (rew_p κ P) (word xs t) i
  unfolding Sat rew_p counts
  sat_rew κ (strong r) xs t i = strong_rew κ r (word xs t) i
  sat_rew κ (weak r) xs t i = (
    λ h p u z. (strong_rew κ r (cut (word xs t) (suc p)) i).0 (h p u z),
    λ h p u z. (strong_rew κ r (cut (word xs t) (suc p)) i).1 (h p u z),
  )
  sat_rew κ (neg P) xs t i = (
    λ h s. h (subst (λ w. Sat reads κ P w i) (sym (bar-word xs t)) ((sat_rew κ P xs (other t) i).1 (subst (λ w. Sat reads free (rew_p κ P) w i) (bar-word xs t) s))),
    λ h s. h (subst (λ w. Sat reads free (rew_p κ P) w i) (sym (bar-word xs t)) ((sat_rew κ P xs (other t) i).0 (subst (λ w. Sat reads κ P w i) (bar-word xs t) s))),
  )
  sat_rew κ (either P Q) xs t i = (
    ⊎_elim (λ s. inl ((sat_rew κ P xs t i).0 s)) (λ s. inr ((sat_rew κ Q xs t i).0 s)),
    ⊎_elim (λ s. inl ((sat_rew κ P xs t i).1 s)) (λ s. inr ((sat_rew κ Q xs t i).1 s)),
  )
  sat_rew κ (both P Q) xs t i =
      (λ s. ((sat_rew κ P xs t i).0 s.0, (sat_rew κ Q xs t i).0 s.1), λ s. ((sat_rew κ P xs t i).1 s.0, (sat_rew κ Q xs t i).1 s.1))
  sat_rew κ (implies r P) xs t i = (
    λ s p u m. (sat_rew κ P xs t p).0 (s p u ((match_rew κ r (bar (word xs t)) i (suc p)).1 m)),
    λ s p u m. (sat_rew κ P xs t p).1 (s p u ((match_rew κ r (bar (word xs t)) i (suc p)).0 m)),
  )
  sat_rew free (next P) xs t i = (
    ⊎_elim (λ s. inl s) (λ s. inr ((sat_rew free P xs t (suc i)).0 s)),
    ⊎_elim (λ s. inl s) (λ s. inr ((sat_rew free P xs t (suc i)).1 s)),
  )
  sat_rew (on c) (next P) xs t i =
      (nextc_rew c P (rew_p (on c) P) xs t i (sat_rew (on c) P xs t), nextc_back c P (rew_p (on c) P) xs t i (sat_rew (on c) P xs t))
  sat_rew free (until P Q) xs t i = (
    ⊎_elim
        (λ s.
        let (j, u, x, y, q, before) = s in
        inl (j, u, x, y, (sat_rew free Q xs t j).0 q, λ k a b d. (sat_rew free P xs t k).0 (before k a b d)))
        (λ s. inr (λ k a b d. (sat_rew free P xs t k).0 (s k a b d))),
    ⊎_elim
        (λ s.
        let (j, u, x, y, q, before) = s in
        inl (j, u, x, y, (sat_rew free Q xs t j).1 q, λ k a b d. (sat_rew free P xs t k).1 (before k a b d)))
        (λ s. inr (λ k a b d. (sat_rew free P xs t k).1 (s k a b d))),
  )
  sat_rew (on c) (until P Q) xs t i =
      let w = word xs t in
      let P' = rew_p (on c) P in
      let there : (k : ℕ) → (T (satisfies reads (flip (w k)) c) → Sat reads (on c) P w k) → (Sat reads free (now c) (bar w) k × (¬ Sat reads free P' (bar (bar w)) k)) → ⊥ =
      λ k h s. s.1 (subst (λ v. Sat reads free P' v k) (sym (bar-bar w)) ((sat_rew (on c) P xs t k).0 (h ((now_iff c (bar w) k).0 s.0)))) in
      let back : (k : ℕ) → ((Sat reads free (now c) (bar w) k × (¬ Sat reads free P' (bar (bar w)) k)) → ⊥) → T (satisfies reads (flip (w k)) c) → Sat reads (on c) P w k =
      λ k h z.
      stable (on c) P xs t k
      (λ n. h ((now_iff c (bar w) k).1 z, λ s. n ((sat_rew (on c) P xs t k).1 (subst (λ v. Sat reads free P' v k) (bar-bar w) s)))) in (
        elim [
          | inl s ↦
              let (j, u, x, y, q, before) = s in
              inl (j, u, x, tt, ((now_iff c w j).1 y, (sat_rew (on c) Q xs t j).0 q), λ k a b _. there k (before k a b))
          | inr s ↦ inr (λ k a b _. there k (s k a b))
        ],
        elim [
          | inl s ↦
              let (j, u, x, y, q, before) = s in
              inl (j, u, x, (now_iff c w j).0 q.0, (sat_rew (on c) Q xs t j).1 q.1, λ k a b d. back k (before k a b tt) d)
          | inr s ↦ inr (λ k a b d. back k (s k a b tt) d)
        ],
      )
  sat_rew κ (under c P) xs t i = sat_rew (on c) P xs t i

  now_topped : (b : Bexp A) → Topped reads free (one b)
  unfolding Topped Match satisfies
  now_topped b = (1, omega arith, (refl, tt))

  topped_rew : (κ : Clock A) (r : Seq A) → Topped reads κ r → Topped reads free (rew_s κ r)
  unfolding Topped
  topped_rew κ r (k, u, m) = (k, u, (match_rew κ r (λ p. top) zero k).0 m)

  -- the rewriting of an accepted property is accepted
  pub accepted_rew : (κ : Clock A) (P : Prop A) → Accepted reads κ P → Accepted reads free (rew_p κ P)
  unfolding Accepted rew_p
  accepted_rew κ (strong r) a = topped_rew κ r a
  accepted_rew κ (weak r) a = topped_rew κ r a
  accepted_rew κ (neg P) a = accepted_rew κ P a
  accepted_rew κ (either P Q) a = (accepted_rew κ P a.0, accepted_rew κ Q a.1)
  accepted_rew κ (both P Q) a = (accepted_rew κ P a.0, accepted_rew κ Q a.1)
  accepted_rew κ (implies r P) a = (topped_rew κ r a.0, accepted_rew κ P a.1)
  accepted_rew free (next P) a = accepted_rew free P a
  accepted_rew (on c) (next P) a = (now_topped (nott c), (now_topped c, (now_topped (nott c), (now_topped c, accepted_rew (on c) P a))))
  accepted_rew free (until P Q) a = (accepted_rew free P a.0, accepted_rew free Q a.1)
  accepted_rew (on c) (until P Q) a = ((now_topped c, accepted_rew (on c) P a.0), (now_topped c, accepted_rew (on c) Q a.1))
  accepted_rew κ (under c P) a = accepted_rew (on c) P a

  pub level_rew : (P : Prop A) (xs : List S) (m : ℕ) → Level reads P xs m ↔ Level reads (rew_p free P) xs m
  level_rew P xs m = same_level reads reads xs xs (λ t. sat_rew free P xs t zero)
