-- Each rule of the sets is document 02's: where the sets of the operands tell from which positions they are tested, and other tests tell ticks, matches and
-- what holds, so does the set that the rule makes. For any letters, and for any engine that has such tests. Assumes nothing.
use mathlib.Core.Path.{◌≡◌, refl, sym, ap, subst, ◌∙◌}
use mathlib.Core.Bool.{Bool, false, not, ◌||◌, ◌&&◌, and-false}
use mathlib.Core.List.{List}
use mathlib.Core.Logic.{inl, inr, ⊎_elim}
use Prim.Native.Nat.{ℕ, suc, ◌≤◌, ◌<◌}
use native.Mathlib.Nat.{eq-or-lt_of_le}
use native.Mathlib.Omega.{arith}
use lib.Dec.{T, leb}
use lib.ListN.{length}
use borrow.Author.Tests.{le-leb, lt-leb}
use Rattle.telling.specs.Tells.{Tells, some}
use Rattle.telling.proofs.Telling.{is_map, is_as, is_test, is_true, is_false, is_or, is_and, is_and_then, is_not, is_some_at, fails, decide, side}
use Rattle.meaning.specs.Syntax.{Bexp, Seq, one, Prop, strong, weak, neg, either, both, implies, next, until, under, Clock, free, on}
use Rattle.meaning.specs.Words.{Word, inside, word, Tail, none}
use Rattle.meaning.specs.Meaning.{satisfies, Match, counts, ticks, Second, Sat}
use Rattle.meaning.specs.Tested.{UpTo, Tested}
use Rattle.meaning.proofs.Words.{word-inside, word_out}
use Rattle.meaning.proofs.Sequences.{match_shut}
use Rattle.meaning.proofs.Answers.{out_ticks}
use Rattle.meaning.proofs.Testing.{inside_none}
use Rattle.cells.specs.Shares.{longest, word_in}
use Rattle.cells.specs.Bits.{starts_into}
use Rattle.ticking.specs.Ticks.{idle, tick_run, first_tick, second_tick}
use Rattle.rowmeaning.specs.Rows.{SequenceRow}
use Rattle.rowmeaning.specs.Sets.{TicksOf, Says, TestedBy}
use Rattle.rowmeaning.proofs.Stepping.{ticks_satisfy}
use Rattle.rowmeaning.proofs.PropertyRules.{is_run}
use Rattle.rowmeaning.proofs.SequenceRules.{longer_tells}

module _ {A S : Type 0} (reads : A → S → Bool) (xs : List S) where
  abbrev w : Word S
  w = word xs none

  abbrev By : Clock A → Prop A → (ℕ → Bool) → Type 0
  By κ P X = TestedBy reads xs κ P X

  -- the same by another test
  pub tested_as : {κ : Clock A} {P : Prop A} {X Y : ℕ → Bool} → ((i : ℕ) → Y i ≡ X i) → TestedBy reads xs κ P X → TestedBy reads xs κ P Y
  tested_as e h = record { tells = λ i l. is_as (e i) (h.tells i l); past = λ i l. e i ∙ h.past i l }

  -- ---- strong, weak, not, and, or, and a clock

  always : (κ : Clock A) (P : Prop A) → ((i : ℕ) → Tested reads κ P w i) → By κ P (λ i. leb i (length xs))
  always κ P t = record { tells = λ i l. rw (le-leb i (length xs) l) (is_true (t i)); past = λ i l. lt-leb i (length xs) l }

  pub strong_tested : (κ : Clock A) (r : Seq A) → TestedBy reads xs κ (strong r) (λ i. leb i (length xs))
  unfolding Tested
  strong_tested κ r = always κ (strong r) (λ i. tt)

  pub weak_tested : (κ : Clock A) (r : Seq A) → TestedBy reads xs κ (weak r) (λ i. leb i (length xs))
  unfolding Tested
  weak_tested κ r = always κ (weak r) (λ i. tt)

  module _ {κ : Clock A} {P : Prop A} {X : ℕ → Bool} (hP : TestedBy reads xs κ P X) where
    pub not_tested : TestedBy reads xs κ (neg P) X
    unfolding Tested
    not_tested = record { tells = hP.tells; past = hP.past }

    module _ {Q : Prop A} {Y : ℕ → Bool} (hQ : TestedBy reads xs κ Q Y) where
      pub or_tested : TestedBy reads xs κ (either P Q) (λ i. X i || Y i)
      unfolding Tested
      or_tested = record { tells = λ i l. is_or (hP.tells i l) (hQ.tells i l); past = λ i l. rw (hP.past i l, hQ.past i l) }

      pub and_tested : TestedBy reads xs κ (both P Q) (λ i. X i || Y i)
      unfolding Tested
      and_tested = record { tells = λ i l. is_or (hP.tells i l) (hQ.tells i l); past = λ i l. rw (hP.past i l, hQ.past i l) }

  pub under_tested : {κ : Clock A} {c : Bexp A} {P : Prop A} {X : ℕ → Bool} → TestedBy reads xs (on c) P X → TestedBy reads xs κ (under c P) X
  unfolding Tested
  under_tested h = record { tells = h.tells; past = h.past }

  -- ---- with no clock: R |-> P where R is one letter and L tells where it matches, and nexttime

  pub letter_tested : {b : Bexp A} {P : Prop A} {L X : ℕ → Bool} → ((i : ℕ) → Tells (L i) (T (satisfies reads (w i) b))) → TestedBy reads xs free P X
      → TestedBy reads xs free (implies (one b) P) (λ i. L i && X i)
  unfolding Tested Match
  letter_tested {b} {P} {L} {X} m h = record { tells = at; past = λ i l. ap (λ z. L i && z) (h.past i l) ∙ and-false (L i) }
    where
      at : (i : ℕ) → i ≤ length xs → Tells (L i && X i) (Tested reads free (implies (one b) P) w i)
      at i l =
          is_map (is_and (m i) (h.tells i l)) (λ q. (i, omega arith, (refl, q.0), q.1))
          (λ q. let (p, u, (e, t), z) = q in (t, subst (λ k. Tested reads free P w k) (omega arith) z))

  pub next_tested_lem : {P : Prop A} {X : ℕ → Bool} → TestedBy reads xs free P X → TestedBy reads xs free (next P) (λ i. X (suc i))
  unfolding Tested
  next_tested_lem {P} {X} h = record { tells = λ i l. ⊎_elim (there i) (out i) (side i (length xs)); past = λ i l. h.past (suc i) (omega arith) }
    where
      there : (i : ℕ) → i < length xs → Tells (X (suc i)) (T (inside (w i)) × Tested reads free P w (suc i))
      there i u = is_map (h.tells (suc i) u) (λ t. (word-inside xs none i u, t)) (λ q. q.1)

      out : (i : ℕ) → length xs ≤ i → Tells (X (suc i)) (T (inside (w i)) × Tested reads free P w (suc i))
      out i u = rw (h.past (suc i) (omega arith)) (record { to = λ z. absurd z; from = λ q. let v = inside_none reads xs i q.0 in absurd (omega arith) })

  module _ {κ : Clock A} {P : Prop A} {X : ℕ → Bool} (hP : TestedBy reads xs κ P X) where
    -- ---- until: t tells the ticks, F and G where P and Q hold

    module _ {Q : Prop A} {Y : ℕ → Bool} (hQ : TestedBy reads xs κ Q Y) {t F G : ℕ → Bool} (tick : (j : ℕ) → Tells (t j) (T (inside (w j)) × T (counts reads κ (w j))))
        (hF : (k : ℕ) → k ≤ length xs → Tells (F k) (Sat reads κ P w k)) (hG : (k : ℕ) → k ≤ length xs → Tells (G k) (Sat reads κ Q w k)) where
      before : (k : ℕ) → k < length xs → Tells ((F k && not (G k)) || idle t (length xs) k) (T (counts reads κ (w k)) → Sat reads κ P w k × (¬ Sat reads κ Q w k))
      before k l =
          rw (le-leb k (length xs) (omega arith))
          (is_map (is_or (is_and (hF k (omega arith)) (is_not (hG k (omega arith)))) (is_not (tick k)))
          (⊎_elim (λ q c. q) (λ n c. absurd (n (word-inside xs none k l, c))))
          (λ f. ⊎_elim (λ t. inl (f t.1)) (λ n. inr n) (decide (tick k))))

      up : (i : ℕ) → Tells (tick_run t (length xs) false (λ k. F k && not (G k)) (λ k. X k || Y k) i) (Tested reads κ (until P Q) w i)
      unfolding Tested UpTo tick_run
      up i =
          is_map (is_run (length xs) (λ j l. is_and (is_or (hP.tells j (omega arith)) (hQ.tells j (omega arith))) (tick j)) before i)
          (λ q. let (j, u, v, (t, (z, c)), e) = q in (j, (u, z, c, e), t))
          (λ q. let (j, (u, z, c, e), t) = q in (j, u, inside_none reads xs j z, (t, (z, c)), e))

      pub until_tested_lem : TestedBy reads xs κ (until P Q) (tick_run t (length xs) false (λ k. F k && not (G k)) (λ k. X k || Y k))
      unfolding Tested UpTo
      until_tested_lem = record { tells = λ i l. up i; past = λ i l. fails (up i) (λ q. let (j, (u, z, _, _), _) = q in let v = inside_none reads xs j z in omega arith) }

  module _ (short : length xs ≤ longest) {κ : Clock A} {P : Prop A} {X : ℕ → Bool} (hP : TestedBy reads xs κ P X) where
    -- ---- R |-> P: M tells the matches that are not empty, by their last letter

    pub implies_tested_lem : {r : Seq A} {M : ℕ → ℕ → Bool} → ((i l : ℕ) → i ≤ length xs → Tells (M i l) (Match reads κ r w i (suc l) × (i ≤ l)))
        → TestedBy reads xs κ (implies r P) (λ i. leb i (length xs) && some (λ l. M i l && X l) 0 64)
    unfolding Tested
    implies_tested_lem {r} m = record {
      tells = λ i h.
          rw (le-leb i (length xs) h)
          (is_map
          (is_some_at 0 64 (λ l q. let e = ends q.0 in (omega arith, omega arith)) (λ l u v. is_and_then (m i l h) (λ q. let e = ends q in hP.tells l (omega arith))))
          (λ q. let (l, ((a, u), t)) = q in (l, u, a, t))
          (λ q. let (l, u, a, t) = q in (l, ((a, u), t))));
      past = λ i l. rw (lt-leb i (length xs) l);
    }
      where
        -- a match that is not empty has its last letter inside the record
        ends : {i l : ℕ} → Match reads κ r w i (suc l) × (i ≤ l) → l < length xs
        ends {i} {l} q = let u = q.1 in match_shut reads κ r xs none tt i (suc l) (omega arith) q.0

  -- ---- nexttime under a clock: t tells the ticks of c

  module _ (c : Bexp A) {t : ℕ → Bool} (tick : (j : ℕ) → Tells (t j) (T (ticks reads c (w j)))) where
    tick_in : (j : ℕ) → T (ticks reads c (w j)) → j < length xs
    tick_in j t = ⊎_elim (λ l. l) (λ l. absurd (out_ticks reads c none (rw (word_out xs none j l) at t))) (side j (length xs))

    -- the first tick from i on is there, and G tells B there
    first : {G : ℕ → Bool} {B : ℕ → Type 0} → ((j : ℕ) → j < length xs → Tells (G j) (B j)) → (i : ℕ)
        → Tells (first_tick t (length xs) false G i) ((j : ℕ) × (i ≤ j) × (T (ticks reads c (w j)) × B j) × ((k : ℕ) → i ≤ k → k < j → ¬ T (ticks reads c (w k))))
    unfolding tick_run
    first g i =
        is_map (is_run (length xs) (λ j l. is_and (g j l) (tick j)) (λ k l. rw (le-leb k (length xs) (omega arith)) (is_not (tick k))) i)
        (λ q. let (j, u, v, (b, y), e) = q in (j, u, (y, b), e))
        (λ q. let (j, u, (y, b), e) = q in (j, u, tick_in j y, (b, y), e))

    -- no tick before j and none after it up to where m lies: a tick there is j
    between : (m j : ℕ) → (m < j → ¬ T (ticks reads c (w m))) → (suc j ≤ m → ¬ T (ticks reads c (w m))) → T (ticks reads c (w m)) → m ≡ j
    between m j f g z = ⊎_elim (λ l. absurd (f l z)) (λ l. ⊎_elim (λ e. sym e) (λ h. absurd (g h z)) (eq-or-lt_of_le l)) (side m j)

    pub tick_tested_lem : {P : Prop A} {X : ℕ → Bool} → TestedBy reads xs (on c) P X
        → TestedBy reads xs (on c) (next P) (second_tick t (length xs) false X)
    unfolding Tested Second
    tick_tested_lem {P} {X} h = record {
      tells = λ i l. at i;
      past = λ i l. fails (at i) (λ q. let (k, (j, u, v, y, x, e), t) = q in let b = tick_in j y in omega arith);
    }
      where
        at : (i : ℕ) → Tells (second_tick t (length xs) false X i) (Tested reads (on c) (next P) w i)
        at i =
            is_map (first (λ j l. first (λ k l. h.tells k (omega arith)) (suc j)) i)
            (λ q. let (j, u, (y, (k, v, (x, t), f)), e) = q in (k, (j, u, v, y, x, λ m a b z. between m j (e m a) (λ g. f m g b) z), t))
            (λ q. let (k, (j, u, v, y, x, e), t) = q in (j, u, (y, (k, v, (x, t), λ m a b z. let d = e m (omega arith) b z in omega arith)), λ m a b z. let d = e m a (omega arith) z in omega arith))

  -- ---- the same from the ticks, the tests and the rows of an engine

  module _ (κ : Clock A) {t : ℕ → Bool} (ht : TicksOf reads xs κ t) where
    -- a position that counts
    counted : (j : ℕ) → Tells (t j) (T (inside (w j)) × T (counts reads κ (w j)))
    counted j =
        ⊎_elim (λ l. is_map (is_as (ht.bits j l) (is_test (counts reads κ (w j)))) (λ c. (word-inside xs none j l, c)) (λ q. q.1))
        (λ l. rw (ht.past j l) (is_false (λ q. let v = inside_none reads xs j q.0 in omega arith))) (side j (length xs))

    pub until_tested_by : {P Q : Prop A} {f g : Tail → ℕ → Bool} {X Y : ℕ → Bool} → Says reads xs κ P f → Says reads xs κ Q g
        → TestedBy reads xs κ P X → TestedBy reads xs κ Q Y
        → TestedBy reads xs κ (until P Q) (tick_run t (length xs) false (λ k. f none k && not (g none k)) (λ k. X k || Y k))
    until_tested_by hp hq hP hQ = until_tested_lem hP hQ counted (hp.answers none) (hq.answers none)

  pub second_tested_by : (c : Bexp A) {t : ℕ → Bool} → TicksOf reads xs (on c) t → {P : Prop A} {X : ℕ → Bool} → TestedBy reads xs (on c) P X
      → TestedBy reads xs (on c) (next P) (second_tick t (length xs) false X)
  unfolding counts
  second_tested_by c {t} ht h = tick_tested_lem c ticked h
    where
      ticked : (j : ℕ) → Tells (t j) (T (ticks reads c (w j)))
      ticked j =
          ⊎_elim (λ l. is_as (ht.bits j l ∙ sym (ticks_satisfy reads c xs j)) (is_test (ticks reads c (w j))))
          (λ l. rw (ht.past j l) (is_false (λ z. out_ticks reads c none (rw (word_out xs none j l) at z)))) (side j (length xs))

  pub implies_tested_by : length xs ≤ longest → {κ : Clock A} (R : List ℕ) (x : ℕ) {r : Seq A} {P : Prop A} {X : ℕ → Bool} → SequenceRow reads xs κ (word_in R x) r
      → TestedBy reads xs κ P X → TestedBy reads xs κ (implies r P) (starts_into R (length xs) x X)
  implies_tested_by short {κ} R x {r} rx h =
      implies_tested_lem short h
      (λ i l u. is_map (longer_tells reads xs κ R x r rx i u (suc l)) (λ q. let v = q.1 in (q.0, omega arith)) (λ q. let v = q.1 in (q.0, omega arith)))
