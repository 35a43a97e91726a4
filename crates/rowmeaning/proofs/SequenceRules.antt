-- The row of a sequence means its tree under a clock, where the rows of its operands do. n is the number of letters, R the rows below, and `row` the node's
-- words. Assumes nothing.
use mathlib.Core.Path.{◌≡◌, sym, ◌∙◌}
use mathlib.Core.Bool.{Bool, cond, ◌||◌, ◌&&◌}
use mathlib.Core.List.{List}
use mathlib.Core.Logic.{inl, inr, ⊎_elim}
use Prim.Native.Nat.{ℕ, zero, suc, ◌-◌, ◌≤◌, ◌<◌}
use native.Mathlib.Omega.{arith}
use native.Mathlib.Decide.{dec_lt}
use lib.Dec.{eqb, leb}
use lib.ListN.{length}
use borrow.Author.Tests.{le-leb, lt-leb, le-ltb, ne_eqb}
use Rattle.telling.specs.Tells.{Tells}
use Rattle.telling.proofs.Telling.{is_map, is_like, is_false, is_and, is_and_then, is_or, is_eq, is_lt, is_test, is_some_at, is_as}
use Rattle.meaning.specs.Syntax.{Bexp, Seq, one, cat, fuse, alt, empty, plus, clocked, Clock, free, on}
use Rattle.meaning.specs.Words.{word, none}
use Rattle.meaning.specs.Meaning.{satisfies, Match, last, more}
use Rattle.meaning.proofs.Unroll.{plus_first}
use Rattle.meaning.proofs.Words.{word_out}
use Rattle.nodes.specs.declared.SequenceOp.{SequenceOp}
use Rattle.nodes.specs.declared.SequenceOp.TheVariants.{Letter, Then, Fused, Either, Empty, Repeat}
use Rattle.cells.specs.Shares.{share, top_word, longest, word_in, bit_in}
use Rattle.cells.specs.Bits.{reached, longer, repeated, sequence_bit, goes_on, starts_open}
use Rattle.cells.specs.Stored.{set64}
use Rattle.rowmeaning.specs.Rows.{Inside, Onward, SequenceRow}
use Rattle.rowmeaning.specs.Sets.{Valued}
use Rattle.rowmeaning.proofs.WordBits.{SequenceLaid, in_word, off_word}
use Rattle.rowmeaning.proofs.Stepping.{starts-below, ends_inside, onward_one, onward_cat, onward_fuse, onward_alt, onward_empty, onward_plus}

-- the matches of an operand that are not empty
pub longer_tells : {A S : Type 0} (reads : A → S → Bool) (xs : List S) (κ : Clock A) (R : List ℕ) (x : ℕ) (r : Seq A) → SequenceRow reads xs κ (word_in R x) r
    → (i : ℕ) → i ≤ length xs → (j : ℕ) → Tells (longer R x i j) (Inside reads xs κ r i j × (i < j))
longer_tells reads xs κ R x r rx i h j = is_and (rx.ends i h j) (is_lt i j)

-- the same row at other words that are equal
pub row_as : {A S : Type 0} (reads : A → S → Bool) (xs : List S) (κ : Clock A) {row row' : ℕ → ℕ} {r : Seq A} → length xs ≤ longest
    → ((i : ℕ) → i < share → row' i ≡ row i) → SequenceRow reads xs κ row r → SequenceRow reads xs κ row' r
row_as reads xs κ short e h = record {
  ends = λ i l j. rw (e i (omega arith)) (h.ends i l j);
  on = λ i l. rw (e top_word (omega arith)) (h.on i l);
  past = λ i l. rw (e top_word (omega arith)) (h.past i l);
  zero = λ w l m. e w (omega arith) ∙ h.zero w l m;
}

-- a clock node's row is that of its operand under the clock
pub clocked_row : {A S : Type 0} (reads : A → S → Bool) (xs : List S) (κ : Clock A) {row : ℕ → ℕ} {c : Bexp A} {r : Seq A}
    → SequenceRow reads xs (on c) row r → SequenceRow reads xs κ row (clocked c r)
unfolding Match
clocked_row reads xs κ h = record { ends = h.ends; on = h.on; past = h.past; zero = h.zero }

-- a row is right where its bits are: `bit i` has the ends from i, and `onto` the starts from which a match goes on
pub bits_row : {A S : Type 0} (reads : A → S → Bool) (xs : List S) (κ : Clock A) (r : Seq A) (row : ℕ → ℕ) (bit : ℕ → ℕ → Bool) (onto : ℕ → Bool) → length xs ≤ longest
    → ((i : ℕ) → i < share → row i ≡ cond (leb i (length xs)) (set64 (bit i)) (cond (eqb i top_word) (set64 (λ j. leb j (length xs) && onto j)) 0))
    → ((i : ℕ) → i ≤ length xs → (j : ℕ) → Tells (bit i j) (Inside reads xs κ r i j))
    → ((i : ℕ) → i ≤ length xs → Tells (onto i) (Onward reads xs κ r i)) → SequenceRow reads xs κ row r
bits_row reads xs κ r row bit onto short w e t = record {
  ends = λ i h j. rw (w i (omega arith), le-leb i (length xs) h) (in_word (bit i) j (λ m. let l = ends_inside reads xs κ r i j h m in omega arith) (e i h j));
  on = λ i h. rw top (in_word (λ j. leb j (length xs) && onto j) i (λ p. omega arith) (rw (le-leb i (length xs) h) (t i h)));
  past = λ i h. rw top (off_word (λ j. leb j (length xs) && onto j) i (rw (lt-leb i (length xs) h)));
  zero = λ i h l. rw (w i (omega arith), lt-leb i (length xs) h, ne_eqb i top_word (λ z. let bad : ⊥ = omega arith in bad));
}
  where
    top : row top_word ≡ set64 (λ j. leb j (length xs) && onto j)
    top = w top_word (omega arith) ∙ rw (lt-leb top_word (length xs) (omega arith))

module _ {A S : Type 0} (reads : A → S → Bool) (xs : List S) (κ : Clock A) (R : List ℕ) (short : length xs ≤ longest) (row : ℕ → ℕ) where
  -- of a row that is laid by a rule of `cells`
  op_row : (op : SequenceOp) (r : Seq A) → SequenceLaid (length xs) R op row
      → ((i : ℕ) → i ≤ length xs → (j : ℕ) → Tells (sequence_bit R (length xs) op i j) (Inside reads xs κ r i j))
      → ((i : ℕ) → i ≤ length xs → Tells (goes_on R op (sequence_bit R (length xs) op i) i || starts_open R (length xs) op i) (Onward reads xs κ r i))
      → SequenceRow reads xs κ row r
  op_row op r w e t =
      bits_row reads xs κ r row (sequence_bit R (length xs) op) (λ i. goes_on R op (sequence_bit R (length xs) op i) i || starts_open R (length xs) op i) short w.word e t

  module _ (x y : ℕ) (r s : Seq A) (rx : SequenceRow reads xs κ (word_in R x) r) (ry : SequenceRow reads xs κ (word_in R y) s) where
    pub then_row : SequenceLaid (length xs) R (Then x y) row → SequenceRow reads xs κ row (cat r s)
    unfolding Match reached
    then_row w =
        let n = length xs in
        op_row (Then x y) (cat r s) w
        (λ i h j.
        is_map
        (is_some_at 0 (suc n) (λ m q. let l = ends_inside reads xs κ r i m h q.0 in (omega arith, omega arith))
        (λ m u v. is_and (rx.ends i h m) (ry.ends m (omega arith) j)))
        (λ q. (q.0, q.1.0, q.1.1)) (λ q. (q.0, (q.1, q.2))))
        (λ i h.
        is_like
        (is_or
        (is_some_at 0 64 (λ m q. let l = ends_inside reads xs κ r i m h q.0 in (omega arith, omega arith))
        (λ m u v. is_and_then (rx.ends i h m) (λ p. ry.on m (ends_inside reads xs κ r i m h p))))
        (is_and (rx.on i h) (is_or (ry.ends n (omega arith) n) (ry.on n (omega arith)))))
        (onward_cat reads xs κ r s i h))

    pub fused_row : SequenceLaid (length xs) R (Fused x y) row → SequenceRow reads xs κ row (fuse r s)
    unfolding Match reached
    fused_row w =
        let n = length xs in
        op_row (Fused x y) (fuse r s) w
        (λ i h j.
        is_map
        (is_some_at 0 (suc n) (λ l q. let e = ends_inside reads xs κ r i (suc l) h q.0.0 in (omega arith, omega arith))
        (λ l u v. is_and (longer_tells reads xs κ R x r rx i h (suc l)) (longer_tells reads xs κ R y s ry l (omega arith) j)))
        (λ q. let (l, ((a, b), (c, d))) = q in (l, omega arith, d, a, c)) (λ q. let (l, u, v, a, c) = q in (l, ((a, omega arith), (c, v)))))
        (λ i h.
        is_like
        (is_or
        (is_some_at 0 64 (λ l q. let e = ends_inside reads xs κ r i (suc l) h q.0.0 in (omega arith, omega arith))
        (λ l u v.
        is_and_then (longer_tells reads xs κ R x r rx i h (suc l)) (λ p. let e = ends_inside reads xs κ r i (suc l) h p.0 in ry.on l (omega arith))))
        (is_and (rx.on i h) (ry.on n (omega arith))))
        (onward_fuse reads xs κ r s i h))

    pub either_row : SequenceLaid (length xs) R (Either x y) row → SequenceRow reads xs κ row (alt r s)
    unfolding Match
    either_row w =
        op_row (Either x y) (alt r s) w (λ i h j. is_or (rx.ends i h j) (ry.ends i h j))
        (λ i h. is_like (is_or (rx.on i h) (ry.on i h)) (onward_alt reads xs κ r s i h))

  pub empty_row : (x : ℕ) (r : Seq A) → SequenceLaid (length xs) R (Empty x) row → SequenceRow reads xs κ row (empty r)
  unfolding Match
  empty_row x r w = op_row (Empty x) (empty r) w (λ i h j. is_map (is_eq j i) sym sym) (λ i h. is_false (onward_empty reads xs κ r i h))

  module _ (x : ℕ) (r : Seq A) (rx : SequenceRow reads xs κ (word_in R x) r) where
    repeats : (d i : ℕ) → i ≤ length xs → length xs - i ≤ d → (j : ℕ) → Tells (repeated (bit_in R x) (length xs) d i j) (Inside reads xs κ (plus r) i j)
    unfolding repeated reached Match
    repeats zero i h v j =
        is_map (rx.ends i h j) last
        (λ q. ⊎_elim (λ p. p) (λ p. let (m, a, b, c, d) = p in let e = ends_inside reads xs κ r i m h c in absurd (omega arith)) (plus_first (starts-below reads xs κ r) q))
    repeats (suc d) i h v j =
        is_map
        (is_or (rx.ends i h j)
        (is_some_at 0 (suc (length xs)) (λ m q. let l = ends_inside reads xs κ r i m h q.0.0 in (omega arith, omega arith))
        (λ m u l. is_and_then (longer_tells reads xs κ R x r rx i h m) (λ q. repeats d m (omega arith) (omega arith) j))))
        (⊎_elim last (λ q. let (m, ((a, b), c)) = q in more a c))
        (λ q. ⊎_elim inl (λ p. let (m, a, b, c, d) = p in inr (m, ((c, a), d))) (plus_first (starts-below reads xs κ r) q))

    pub repeat_row : SequenceLaid (length xs) R (Repeat x) row → SequenceRow reads xs κ row (plus r)
    repeat_row w =
        op_row (Repeat x) (plus r) w (λ i h j. repeats (length xs - i) i h (omega arith) j)
        (λ i h.
        is_like
        (is_or
        (is_some_at 0 64 (λ m q. let l = ends_inside reads xs κ (plus r) i m h q.0 in (omega arith, omega arith))
        (λ m u v. is_and_then (repeats (length xs - i) i h (omega arith) m) (λ p. rx.on m (ends_inside reads xs κ (plus r) i m h p))))
        (rx.on i h))
        (onward_plus reads xs κ r i h))

-- the letter with no clock
module _ {A S : Type 0} (reads : A → S → Bool) (xs : List S) (R : List ℕ) (short : length xs ≤ longest) (row : ℕ → ℕ) where
  pub letter_row : (x : ℕ) (b : Bexp A) → Valued reads xs b (bit_in R x 0) → SequenceLaid (length xs) R (Letter x) row → SequenceRow reads xs free row (one b)
  unfolding Match satisfies
  letter_row x b rx w =
      let n = length xs in
      op_row reads xs free R short row (Letter x) (one b) w
      (λ i h j.
      elim (dec_lt i n) [
        | yes p ↦
            is_map (is_and (is_lt i n) (is_and (is_eq j (suc i)) (is_as (rx.bits i p) (is_test (satisfies reads (word xs none i) b))))) (λ q. q.1)
            (λ q. (p, q))
        | no p ↦ rw (word_out xs none i (omega arith), le-ltb i n (omega arith)) (is_false (λ q. q.1))
      ])
      (λ i h. is_like (is_eq i n) (onward_one reads xs b i h))
