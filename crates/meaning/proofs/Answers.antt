-- The three answers of a record as tests that antt computes, and that they are the published ones. Position n, the end of the samples,
-- stands for every position of the tail. Assumes nothing.
use mathlib.Core.Bool.{Bool, not, ◌&&◌, ◌||◌}
use mathlib.Core.Path.{◌≡◌, sym, subst, ◌∙◌}
use mathlib.Core.Logic.{◌⊎◌, inl, inr, ⊎_elim, ◌↔◌}
use mathlib.Core.List.{List}
use Prim.Native.Nat.{ℕ, suc, ◌-◌, ◌≤◌, ◌<◌, min}
use native.Mathlib.Omega.{arith}
use lib.Dec.{T, T_not, leb, eqb}
use lib.ListN.{length}
use Rattle.telling.specs.Tells.{Tells, some, every}
use Rattle.telling.proofs.Telling.{side, is_map, is_test, is_true, is_and, is_or, is_not, is_imp, decide, is_eq, is_le, is_some, is_every}
use Rattle.meaning.specs.Syntax.{Bexp, Seq, Prop, strong, weak, neg, either, both, implies, next, until, under, Clock, free, on}
use Rattle.meaning.specs.Words.{inside, flip, word, Tail, none, tops, bots, after, other}
use Rattle.meaning.specs.Meaning.{Match, counts, ticks, Second, Sat}
use Rattle.meaning.proofs.Words.{span, ended, botted, span_le, is_ended, word_out, word-inside, word_fold, full, full-top, span-inside, inside-span, is_no_bot, bar-word}
use Rattle.meaning.proofs.Shift.{sat_shift}
use Rattle.meaning.proofs.Eval.{match_b, is_match, top_b, is_top_lem}
use Rattle.meaning.proofs.Sequences.{match_any, match_shut, strong_b, is_strong, weak_b, is_weak}

module _ {A S : Type 0} (reads : A → S → Bool) where
  unfoldable pub second_b : Bexp A → List S → Tail → ℕ → ℕ → Bool
  second_b c xs t i k =
      let w = word xs t in
      let r = some (λ j. let s = every (λ m. not (ticks reads c (w m)) || eqb m j) i (k - i) in ticks reads c (w j) && s) i (k - i) in
      ticks reads c (w k) && r

  pub is_second : (c : Bexp A) (xs : List S) (t : Tail) (i k : ℕ) → Tells (second_b c xs t i k) (Second reads c (word xs t) i k)
  unfolding second_b Second
  is_second c xs t i k =
      let w = word xs t in
      is_map
      (is_and (is_test (ticks reads c (w k)))
      (is_some i (k - i)
      (λ j u v. is_and (is_test (ticks reads c (w j))) (is_every i (k - i) (λ m a b. is_imp (is_test (ticks reads c (w m))) (is_eq m j))))))
      (λ q. let (x, (j, u, v, (y, z))) = q in (j, u, omega arith, y, x, λ m a b h. z m a (omega arith) h))
      (λ q. let (j, u, v, y, x, z) = q in (x, (j, u, omega arith, (y, λ m a b h. z m a (omega arith) h))))

  unfoldable pub ans_b : Clock A → Prop A → List S → Tail → ℕ → Bool
  ans_b κ (strong r) xs t i = strong_b reads κ r xs t i
  ans_b κ (weak r) xs t i = weak_b reads κ r xs t i
  ans_b κ (neg P) xs t i = not (ans_b κ P xs (other t) i)
  ans_b κ (either P Q) xs t i = let q = ans_b κ Q xs t i in ans_b κ P xs t i || q
  ans_b κ (both P Q) xs t i = let q = ans_b κ Q xs t i in ans_b κ P xs t i && q
  ans_b κ (implies r P) xs t i =
      let n = length xs in
      let q = not (botted t) || (not (top_b reads κ r (full xs) n i) || ans_b κ P xs t n) in
      every (λ p. let a = ans_b κ P xs t p in not (match_b reads κ r (full xs) i (suc p)) || a) i (n - i) && q
  ans_b free (next P) xs t i = let q = ans_b free P xs t (min (suc i) (length xs)) in (ended t && leb (length xs) i) || q
  ans_b (on c) (next P) xs t i =
      let n = length xs in
      let q = not (some (λ k. second_b c xs t i k) i (n - i)) && not (botted t) in
      some (λ k. let a = ans_b (on c) P xs t k in second_b c xs t i k && a) i (n - i) || q
  ans_b κ (until P Q) xs t i =
      let w = word xs t in
      let ask : ℕ → Bool = λ k. let a = ans_b κ P xs t k in not (counts reads κ (flip (w k))) || a in
      let q = every ask i (span t (length xs) - i) in
      some (λ j. let b = ans_b κ Q xs t j && every ask i (j - i) in counts reads κ (w j) && b) i (span t (length xs) - i) || q
  ans_b κ (under c P) xs t i = ans_b (on c) P xs t i

  -- positions of the tail count as one
  collapse : (κ : Clock A) (P : Prop A) (xs : List S) (t : Tail) (p q : ℕ) → length xs ≤ p → length xs ≤ q
      → Sat reads κ P (word xs t) p → Sat reads κ P (word xs t) q
  collapse κ P xs t p q u v =
      sat_shift reads κ P (word xs t) (word xs t) p q (λ a b x y. word_out xs t a (omega arith) ∙ sym (word_out xs t b (omega arith)))

  pub fold : (κ : Clock A) (P : Prop A) (xs : List S) (t : Tail) (p : ℕ) → Sat reads κ P (word xs t) p ↔ Sat reads κ P (word xs t) (min p (length xs))
  fold κ P xs t p =
      ⊎_elim
      (λ x. let e : p ≡ min p (length xs) = omega arith in (subst (Sat reads κ P (word xs t)) e, subst (Sat reads κ P (word xs t)) (sym e)))
      (λ x. (collapse κ P xs t p (min p (length xs)) x (omega arith), collapse κ P xs t (min p (length xs)) p (omega arith) x)) (side p (length xs))

  -- a match of |->'s left side that ends in the tail
  is_last : (κ : Clock A) (r : Seq A) (P : Prop A) (xs : List S) (t : Tail) (i : ℕ) → i ≤ length xs
      → Tells (ans_b κ P xs t (length xs)) (Sat reads κ P (word xs t) (length xs))
      → Tells (not (botted t) || (not (top_b reads κ r (full xs) (length xs) i) || ans_b κ P xs t (length xs)))
      ((p : ℕ) → length xs ≤ p → i ≤ p → Match reads κ r (word xs (other t)) i (suc p) → Sat reads κ P (word xs t) p)
  is_last κ r P xs none i l ih = is_true (λ p u v m. absurd (let z = match_shut reads κ r xs none tt i (suc p) (omega arith) m in omega arith))
  is_last κ r P xs tops i l ih = is_true (λ p u v m. absurd (let z = match_shut reads κ r xs bots tt i (suc p) (omega arith) m in omega arith))
  is_last κ r P xs bots i l ih =
      let n = length xs in
      is_map (is_imp (is_top_lem reads κ r (full xs) n (full-top xs) i l) ih)
      (λ f p u v m. collapse κ P xs bots n p (omega arith) u (f (suc p, omega arith, m)))
      (λ h q.
      collapse κ P xs bots (q.0 - 1) n (omega arith) (omega arith)
      (h (q.0 - 1) (omega arith) (omega arith) (subst (λ j. Match reads κ r (full xs) i j) (omega arith) q.2)))

  is_implies : (κ : Clock A) (r : Seq A) (P : Prop A) (xs : List S) (t : Tail) (i : ℕ) → i ≤ length xs
      → ((p : ℕ) → p ≤ length xs → Tells (ans_b κ P xs t p) (Sat reads κ P (word xs t) p)) → Tells (ans_b κ (implies r P) xs t i) (Sat reads κ (implies r P) (word xs t) i)
  unfolding ans_b Sat
  is_implies κ r P xs t i l ih =
      let n = length xs in
      is_map
      (is_and (is_every i (n - i) (λ p u v. is_imp (is_match reads κ r (full xs) i (suc p)) (ih p (omega arith)))) (is_last κ r P xs t i l (ih n (omega arith))))
      (λ q p u m.
      let m' = subst (λ w. Match reads κ r w i (suc p)) (bar-word xs t) m in
      ⊎_elim (λ z. q.0 p u (omega arith) (match_any reads κ r xs (other t) tops i (suc p) z m')) (λ z. q.1 p z u m') (side p n))
      (λ h.
      let back : (p : ℕ) → i ≤ p → Match reads κ r (word xs (other t)) i (suc p) → Sat reads κ P (word xs t) p =
      λ p u m. h p u (subst (λ w. Match reads κ r w i (suc p)) (sym (bar-word xs t)) m) in
      (λ p u v m. back p u (match_any reads κ r xs tops (other t) i (suc p) (omega arith) m), λ p u v m. back p v m))

  is_next : (P : Prop A) (xs : List S) (t : Tail) (i : ℕ) → i ≤ length xs
      → ((p : ℕ) → p ≤ length xs → Tells (ans_b free P xs t p) (Sat reads free P (word xs t) p)) → Tells (ans_b free (next P) xs t i) (Sat reads free (next P) (word xs t) i)
  unfolding ans_b Sat
  is_next P xs t i l ih =
      let n = length xs in
      is_map (is_or (is_and (is_ended S t) (is_le n i)) (ih (min (suc i) n) (omega arith)))
      (⊎_elim (λ x. inl (rw (word_out xs t i x.1) x.0)) (λ x. inr ((fold free P xs t (suc i)).1 x)))
      (⊎_elim
      (λ x.
      ⊎_elim (λ y. absurd (T_not (inside (word xs t i)) x (word-inside xs t i y))) (λ y. inl (rw (word_out xs t i y) at x, y)) (side i n))
      (λ x. inr ((fold free P xs t (suc i)).0 x)))

  pub out_ticks : (c : Bexp A) (t : Tail) → T (ticks reads c (after t)) → ⊥
  unfolding ticks
  out_ticks c none x = x
  out_ticks c tops x = x
  out_ticks c bots x = x

  pub second_in : (c : Bexp A) (xs : List S) (t : Tail) (i k : ℕ) → Second reads c (word xs t) i k → k < length xs
  unfolding Second
  second_in c xs t i k s = ⊎_elim (λ x. x) (λ x. absurd (out_ticks c t (rw (word_out xs t k x) at s.4))) (side k (length xs))

  is_nextc : (c : Bexp A) (P : Prop A) (xs : List S) (t : Tail) (i : ℕ) → i ≤ length xs
      → ((p : ℕ) → p ≤ length xs → Tells (ans_b (on c) P xs t p) (Sat reads (on c) P (word xs t) p))
      → Tells (ans_b (on c) (next P) xs t i) (Sat reads (on c) (next P) (word xs t) i)
  unfolding ans_b Sat Second
  is_nextc c P xs t i l ih =
      let n = length xs in
      is_map
      (is_or (is_some i (n - i) (λ k u v. is_and (is_second c xs t i k) (ih k (omega arith))))
      (is_and (is_not (is_some i (n - i) (λ k u v. is_second c xs t i k))) (is_no_bot xs t i l)))
      (⊎_elim (λ q. inl (q.0, q.3.0, q.3.1))
      (λ q. inr (λ k s. let v = second_in c xs t i k s in q.0 (k, omega arith, omega arith, s), q.1)))
      (⊎_elim (λ q. let (k, s, y) = q in let v = second_in c xs t i k s in inl (k, omega arith, omega arith, (s, y)))
      (λ q. inr (λ z. q.0 z.0 z.3, q.1)))

  is_until : (κ : Clock A) (P Q : Prop A) (xs : List S) (t : Tail) (i : ℕ) → i ≤ length xs
      → ((p : ℕ) → p ≤ length xs → Tells (ans_b κ P xs t p) (Sat reads κ P (word xs t) p))
      → ((p : ℕ) → p ≤ length xs → Tells (ans_b κ Q xs t p) (Sat reads κ Q (word xs t) p))
      → Tells (ans_b κ (until P Q) xs t i) (Sat reads κ (until P Q) (word xs t) i)
  unfolding ans_b Sat
  is_until κ P Q xs t i l ihP ihQ =
      let n = length xs in
      let w = word xs t in
      let e = span_le t n in
      let m = span t n - i in
      is_map
      (is_or
      (is_some i m
      (λ j u v.
      is_and (is_test (counts reads κ (w j)))
      (is_and (ihQ j (omega arith)) (is_every i (j - i) (λ k a b. is_imp (is_test (counts reads κ (flip (w k)))) (ihP k (omega arith)))))))
      (is_every i m (λ k a b. is_imp (is_test (counts reads κ (flip (w k)))) (ihP k (omega arith)))))
      (elim [
        | inl q ↦ let (j, u, v, (y, (z, a))) = q in inl (j, u, span-inside xs t j (omega arith), y, z, λ k c d f. a k c (omega arith) f)
        | inr q ↦
            inr
            (λ k u y z.
            let d = inside-span xs t k y in
            (fold κ P xs t k).1 (q (min k n) (omega arith) (omega arith) (subst (λ c. T (counts reads κ (flip c))) (word_fold xs t k) z)))
      ])
      (elim [
        | inl q ↦
            let (j, u, y, z, s, before) = q in
            let d = inside-span xs t j y in
            inl (
              min j n,
              omega arith,
              omega arith,
              (
                subst (λ c. T (counts reads κ c)) (word_fold xs t j) z,
                ((fold κ Q xs t j).0 s, λ k a b f. before k a (omega arith) f),
              ),
            )
        | inr q ↦ inr (λ k a b f. q k a (span-inside xs t k (omega arith)) f)
      ])

  -- THE STATEMENT: the computed answer is the published one, at each position 0 to n and for each tail
  pub is_ans : (κ : Clock A) (P : Prop A) (xs : List S) (t : Tail) (i : ℕ) → i ≤ length xs → Tells (ans_b κ P xs t i) (Sat reads κ P (word xs t) i)
  unfolding ans_b Sat
  is_ans κ (strong r) xs t i l = is_strong reads κ r xs t i l
  is_ans κ (weak r) xs t i l = is_weak reads κ r xs t i l
  is_ans κ (neg P) xs t i l =
      is_map (is_not (is_ans κ P xs (other t) i l)) (λ h s. h (subst (λ w. Sat reads κ P w i) (bar-word xs t) s))
      (λ h s. h (subst (λ w. Sat reads κ P w i) (sym (bar-word xs t)) s))
  is_ans κ (either P Q) xs t i l = is_or (is_ans κ P xs t i l) (is_ans κ Q xs t i l)
  is_ans κ (both P Q) xs t i l = is_and (is_ans κ P xs t i l) (is_ans κ Q xs t i l)
  is_ans κ (implies r P) xs t i l = is_implies κ r P xs t i l (is_ans κ P xs t)
  is_ans free (next P) xs t i l = is_next P xs t i l (is_ans free P xs t)
  is_ans (on c) (next P) xs t i l = is_nextc c P xs t i l (is_ans (on c) P xs t)
  is_ans κ (until P Q) xs t i l = is_until κ P Q xs t i l (is_ans κ P xs t) (is_ans κ Q xs t)
  is_ans κ (under c P) xs t i l = is_ans (on c) P xs t i l

  -- satisfaction on a record's words is decided, at every position
  pub decided : (κ : Clock A) (P : Prop A) (xs : List S) (t : Tail) (i : ℕ) → Sat reads κ P (word xs t) i ⊎ (¬ Sat reads κ P (word xs t) i)
  decided κ P xs t i = decide (is_map (is_ans κ P xs t (min i (length xs)) (omega arith)) (fold κ P xs t i).1 (fold κ P xs t i).0)
