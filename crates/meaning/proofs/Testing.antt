-- Whether a record tests an assertion, as a test that antt computes; and what "tested" comes to, by the parts that are reached. Assumes nothing.
use mathlib.Core.Bool.{Bool, true, not, ◌&&◌, ◌||◌}
use mathlib.Core.Logic.{inl, inr, ⊎_elim, ◌↔◌}
use mathlib.Core.List.{List, ◌∷◌}
use Prim.Native.Nat.{ℕ, zero, suc, ◌-◌, ◌≤◌, ◌<◌}
use native.Mathlib.Omega.{arith}
use lib.Dec.{T, ltb}
use lib.ListN.{length}
use Rattle.telling.specs.Tells.{Tells, some, every}
use Rattle.telling.proofs.Telling.{side, is_map, is_test, is_true, is_and, is_or, is_not, is_imp, is_and_then, is_lt, is_some, is_every}
use Rattle.meaning.specs.Syntax.{Prop, strong, weak, neg, either, both, implies, next, until, under, Clock, free, on}
use Rattle.meaning.specs.Words.{Word, inside, word, none}
use Rattle.meaning.specs.Meaning.{counts, Second}
use Rattle.meaning.specs.Tested.{UpTo, Tested, Tests}
use Rattle.meaning.specs.Reached.{AsksPart, neg_x, either_x, either_y, both_x, both_y, implies_y, next_x, next_tick, until_x, until_y, under_x, Reached, here, down, Ground, by_strong, by_weak, ReachesGround, AskedImplication, Direct, Guarded}
use Rattle.meaning.proofs.Words.{word_out, word-inside}
use Rattle.meaning.proofs.Eval.{match_b, is_match}
use Rattle.meaning.proofs.Sequences.{match_shut}
use Rattle.meaning.proofs.Answers.{ans_b, is_ans, second_b, is_second, second_in}

module _ {A S : Type 0} (reads : A → S → Bool) where
  -- ---- as a test, at each position 0 to n of a record with no tail

  -- a position inside a record with no tail is one of its samples
  pub inside_none : (xs : List S) (i : ℕ) → T (inside (word xs none i)) → i < length xs
  inside_none xs i z = ⊎_elim (λ l. l) (λ l. absurd (rw (word_out xs none i l) at z)) (side i (length xs))

  is_inside : (xs : List S) (i : ℕ) → Tells (ltb i (length xs)) (T (inside (word xs none i)))
  is_inside xs i = is_map (is_lt i (length xs)) (word-inside xs none i) (inside_none xs i)

  unfoldable pub tested_b : Clock A → Prop A → List S → ℕ → Bool
  tested_b κ (strong r) xs i = true
  tested_b κ (weak r) xs i = true
  tested_b κ (neg P) xs i = tested_b κ P xs i
  tested_b κ (either P Q) xs i = let q = tested_b κ Q xs i in tested_b κ P xs i || q
  tested_b κ (both P Q) xs i = let q = tested_b κ Q xs i in tested_b κ P xs i || q
  tested_b κ (implies r P) xs i = some (λ p. let a = tested_b κ P xs p in match_b reads κ r (word xs none) i (suc p) && a) i (length xs - i)
  tested_b free (next P) xs i = let a = tested_b free P xs (suc i) in ltb i (length xs) && a
  tested_b (on c) (next P) xs i = some (λ k. let a = tested_b (on c) P xs k in second_b reads c xs none i k && a) i (length xs - i)
  tested_b κ (until P Q) xs i =
      let ask : ℕ → Bool = λ k. let a = ans_b reads κ P xs none k && not (ans_b reads κ Q xs none k) in not (counts reads κ (word xs none k)) || a in
      some (λ j. let b = every ask i (j - i) && (tested_b κ P xs j || tested_b κ Q xs j) in counts reads κ (word xs none j) && b) i (length xs - i)
  tested_b κ (under c P) xs i = tested_b (on c) P xs i

  pub is_tested : (κ : Clock A) (P : Prop A) (xs : List S) (i : ℕ) → i ≤ length xs → Tells (tested_b κ P xs i) (Tested reads κ P (word xs none) i)
  unfolding tested_b Tested UpTo Second
  is_tested κ (strong r) xs i l = is_true tt
  is_tested κ (weak r) xs i l = is_true tt
  is_tested κ (neg P) xs i l = is_tested κ P xs i l
  is_tested κ (either P Q) xs i l = is_or (is_tested κ P xs i l) (is_tested κ Q xs i l)
  is_tested κ (both P Q) xs i l = is_or (is_tested κ P xs i l) (is_tested κ Q xs i l)
  is_tested κ (implies r P) xs i l =
      is_map (is_some i (length xs - i) (λ p u v. is_and (is_match reads κ r (word xs none) i (suc p)) (is_tested κ P xs p (omega arith))))
      (λ q. (q.0, q.1, q.3.0, q.3.1))
      (λ q. let (p, u, m, t) = q in let e = match_shut reads κ r xs none tt i (suc p) (omega arith) m in (p, u, omega arith, (m, t)))
  is_tested free (next P) xs i l = is_and_then (is_inside xs i) (λ z. is_tested free P xs (suc i) (inside_none xs i z))
  is_tested (on c) (next P) xs i l =
      is_map (is_some i (length xs - i) (λ k u v. is_and (is_second reads c xs none i k) (is_tested (on c) P xs k (omega arith))))
      (λ q. (q.0, q.3.0, q.3.1))
      (λ q. let (k, s, t) = q in let v = second_in reads c xs none i k s in (k, omega (arith, s.1, s.2), omega arith, (s, t)))
  is_tested κ (until P Q) xs i l =
      is_map
      (is_some i (length xs - i)
      (λ j u v.
      is_and (is_test (counts reads κ (word xs none j)))
      (is_and
      (is_every i (j - i) (λ k a b. is_imp (is_test (counts reads κ (word xs none k))) (is_and (is_ans reads κ P xs none k (omega arith)) (is_not (is_ans reads κ Q xs none k (omega arith))))))
      (is_or (is_tested κ P xs j (omega arith)) (is_tested κ Q xs j (omega arith))))))
      (λ q. let (j, u, v, (c, (e, t))) = q in (j, (u, word-inside xs none j (omega arith), c, λ k a b. e k a (omega arith)), t))
      (λ q. let (j, (u, z, c, e), t) = q in let v = inside_none xs j z in (j, u, omega arith, (c, (λ k a b. e k a (omega arith), t))))
  is_tested κ (under c P) xs i l = is_tested (on c) P xs i l

  -- ---- tested is to reach a strong or a weak

  -- what a part reaches, the whole reaches
  through : {w : Word S} {κ μ : Clock A} {P Q : Prop A} {i j : ℕ} → AsksPart reads w κ P i μ Q j → ReachesGround reads w μ Q j → ReachesGround reads w κ P i
  through a g = record { clock = g.clock; part = g.part; at = g.at; ground = g.ground; reached = down a g.reached }

  ground_here : {w : Word S} {κ : Clock A} {P : Prop A} {i : ℕ} → Ground P → ReachesGround reads w κ P i
  ground_here {κ = κ} {P = P} {i = i} g = record { clock = κ; part = P; at = i; ground = g; reached = here }

  tested_reaches : (w : Word S) (κ : Clock A) (P : Prop A) (i : ℕ) → Tested reads κ P w i → ReachesGround reads w κ P i
  unfolding Tested
  tested_reaches w κ (strong r) i t = ground_here by_strong
  tested_reaches w κ (weak r) i t = ground_here by_weak
  tested_reaches w κ (neg P) i t = through neg_x (tested_reaches w κ P i t)
  tested_reaches w κ (either P Q) i (inl t) = through either_x (tested_reaches w κ P i t)
  tested_reaches w κ (either P Q) i (inr t) = through either_y (tested_reaches w κ Q i t)
  tested_reaches w κ (both P Q) i (inl t) = through both_x (tested_reaches w κ P i t)
  tested_reaches w κ (both P Q) i (inr t) = through both_y (tested_reaches w κ Q i t)
  tested_reaches w κ (implies r P) i (p, u, m, t) = through (implies_y u m) (tested_reaches w κ P p t)
  tested_reaches w free (next P) i (z, t) = through (next_x z) (tested_reaches w free P (suc i) t)
  tested_reaches w (on c) (next P) i (k, s, t) = through (next_tick s) (tested_reaches w (on c) P k t)
  tested_reaches w κ (until P Q) i (j, u, inl t) = through (until_x u) (tested_reaches w κ P j t)
  tested_reaches w κ (until P Q) i (j, u, inr t) = through (until_y u) (tested_reaches w κ Q j t)
  tested_reaches w κ (under c P) i t = through under_x (tested_reaches w (on c) P i t)

  -- a part that is asked and tested makes the whole tested
  asked_tests : {w : Word S} {κ μ : Clock A} {P Q : Prop A} {i j : ℕ} → AsksPart reads w κ P i μ Q j → Tested reads μ Q w j → Tested reads κ P w i
  unfolding Tested
  asked_tests neg_x t = t
  asked_tests either_x t = inl t
  asked_tests either_y t = inr t
  asked_tests both_x t = inl t
  asked_tests both_y t = inr t
  asked_tests (implies_y u m) t = (_, u, m, t)
  asked_tests (next_x z) t = (z, t)
  asked_tests (next_tick s) t = (_, s, t)
  asked_tests (until_x u) t = (_, u, inl t)
  asked_tests (until_y u) t = (_, u, inr t)
  asked_tests under_x t = t

  ground_tested : (w : Word S) (κ : Clock A) (i : ℕ) {P : Prop A} → Ground P → Tested reads κ P w i
  unfolding Tested
  ground_tested w κ i by_strong = tt
  ground_tested w κ i by_weak = tt

  reached_tests : {w : Word S} {κ μ : Clock A} {P Q : Prop A} {i j : ℕ} → Reached reads w κ P i μ Q j → Tested reads μ Q w j → Tested reads κ P w i
  reached_tests here t = t
  reached_tests (down a r) t = asked_tests a (reached_tests r t)

  pub tested_is_reached : (w : Word S) (κ : Clock A) (P : Prop A) (i : ℕ) → Tested reads κ P w i ↔ ReachesGround reads w κ P i
  tested_is_reached w κ P i = (tested_reaches w κ P i, λ g. reached_tests g.reached (ground_tested w g.clock g.at g.ground))

  -- ---- with no `|->`, no nexttime and no until every record tests

  pub direct_tested : (w : Word S) (κ : Clock A) (P : Prop A) (i : ℕ) → Direct P → Tested reads κ P w i
  unfolding Tested Direct
  direct_tested w κ (strong r) i d = tt
  direct_tested w κ (weak r) i d = tt
  direct_tested w κ (neg P) i d = direct_tested w κ P i d
  direct_tested w κ (either P Q) i d = inl (direct_tested w κ P i d.0)
  direct_tested w κ (both P Q) i d = inl (direct_tested w κ P i d.0)
  direct_tested w κ (implies r P) i d = absurd d
  direct_tested w κ (next P) i d = absurd d
  direct_tested w κ (until P Q) i d = absurd d
  direct_tested w κ (under c P) i d = direct_tested w (on c) P i d

  -- ---- where a `|->` stands on each way down, a tested record has matched one that was reached

  further : {w : Word S} {κ μ : Clock A} {P Q : Prop A} {i j : ℕ} → AsksPart reads w κ P i μ Q j → AskedImplication reads w μ Q j → AskedImplication reads w κ P i
  further a g = record {
    clock = g.clock;
    left = g.left;
    right = g.right;
    at = g.at;
    reached = down a g.reached;
    last = g.last;
    longer = g.longer;
    matches = g.matches;
    tested = g.tested;
  }

  pub guarded_asked : (w : Word S) (κ : Clock A) (P : Prop A) (i : ℕ) → Guarded P → Tested reads κ P w i → AskedImplication reads w κ P i
  unfolding Tested Guarded
  guarded_asked w κ (strong r) i g t = absurd g
  guarded_asked w κ (weak r) i g t = absurd g
  guarded_asked w κ (neg P) i g t = further neg_x (guarded_asked w κ P i g t)
  guarded_asked w κ (either P Q) i g (inl t) = further either_x (guarded_asked w κ P i g.0 t)
  guarded_asked w κ (either P Q) i g (inr t) = further either_y (guarded_asked w κ Q i g.1 t)
  guarded_asked w κ (both P Q) i g (inl t) = further both_x (guarded_asked w κ P i g.0 t)
  guarded_asked w κ (both P Q) i g (inr t) = further both_y (guarded_asked w κ Q i g.1 t)
  guarded_asked w κ (implies r P) i g (p, u, m, t) = record {
    clock = κ;
    left = r;
    right = P;
    at = i;
    reached = here;
    last = p;
    longer = u;
    matches = m;
    tested = t;
  }
  guarded_asked w free (next P) i g (z, t) = further (next_x z) (guarded_asked w free P (suc i) g t)
  guarded_asked w (on c) (next P) i g (k, s, t) = further (next_tick s) (guarded_asked w (on c) P k g t)
  guarded_asked w κ (until P Q) i g (j, u, inl t) = further (until_x u) (guarded_asked w κ P j g.0 t)
  guarded_asked w κ (until P Q) i g (j, u, inr t) = further (until_y u) (guarded_asked w κ Q j g.1 t)
  guarded_asked w κ (under c P) i g t = further under_x (guarded_asked w (on c) P i g t)

  -- ---- by the letter of the rule: an until whose right side is strong or weak is tested by every record with a sample

  pub until_ground_tested : (P Q : Prop A) → Ground Q → (x : S) (xs : List S) → Tests reads (x ∷ xs) (until P Q)
  unfolding Tested UpTo counts word
  until_ground_tested P Q g x xs = (zero, (omega arith, tt, tt, λ k u v. absurd (omega arith)), inr (ground_tested (word (x ∷ xs) none) free zero g))
