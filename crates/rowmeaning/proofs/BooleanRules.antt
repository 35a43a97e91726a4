-- Each rule of a boolean gives the samples that satisfy its tree, on the pairs of the samples, where the operands' tests do: `at a i` is "sample i satisfies
-- boolean a". Assumes nothing.
use mathlib.Core.Path.{◌≡◌, ap, ap₂, ◌∙◌, sym}
use mathlib.Core.Bool.{Bool, false, not, ◌&&◌, ◌||◌}
use mathlib.Core.List.{List}
use Prim.Native.Nat.{ℕ, ◌<◌, ◌≤◌}
use native.Mathlib.Omega.{arith}
use lib.Dec.{eqb}
use lib.ListN.{length, get_or}
use borrow.Author.Tests.{lt-ltb, le-ltb}
use Rattle.positions.specs.Member.{has}
use Rattle.meaning.specs.Syntax.{Bexp, const, atom, nott, andd, orr}
use Rattle.meaning.specs.Words.{word, none}
use Rattle.meaning.specs.Meaning.{value, satisfies}
use Rattle.meaning.specs.Pairs.{Atom, high, risen, fallen, Pair, reading, pairs}
use Rattle.meaning.proofs.Pairing.{length_pairs, pair_at}
use Rattle.nodes.specs.declared.BooleanOp.TheVariants.{Constant, Signal, Not, And, Or, Risen, Fallen}
use Rattle.cells.specs.Bits.{sample_before, value_bit}
use Rattle.rowmeaning.specs.Rows.{BooleanRow}
use Rattle.rowmeaning.specs.Sets.{Valued}

-- what a boolean's row has in word 0
pub row_values : {A S : Type 0} (reads : A → S → Bool) (xs : List S) {row : ℕ → ℕ} {b : Bexp A} → BooleanRow reads xs row b → Valued reads xs b (has (row 0))
row_values reads xs r = record { bits = r.bits; past = r.past }

module _ (xs : List ℕ) where
  -- letter i: the sample before, and the sample
  abbrev pair_of : ℕ → Pair
  pair_of i = record { before = sample_before xs i; sample = get_or xs i 0 }

  -- a boolean satisfies letter i by its value there
  valued : (b : Bexp Atom) (i : ℕ) → i < length xs → value reading b (pair_of i) ≡ satisfies reading (word (pairs xs) none i) b
  unfolding satisfies
  valued b i l = ap (λ x. satisfies reading x b) (sym (pair_at xs none i l))

  by_value : (b : Bexp Atom) (B : ℕ → Bool) → ((i : ℕ) → i < length xs → B i ≡ value reading b (pair_of i)) → ((i : ℕ) → length xs ≤ i → B i ≡ false)
      → Valued reading (pairs xs) b B
  by_value b B e off =
      let n = length_pairs xs in
      record { bits = λ i l. let h : i < length xs = omega arith in e i h ∙ valued b i h; past = λ i l. off i (omega arith) }

  module _ (at : ℕ → ℕ → Bool) where
    pub constant_valued : (v : ℕ) → Valued reading (pairs xs) (const (eqb v 1)) (value_bit at xs (Constant v))
    unfolding value
    constant_valued v = by_value (const (eqb v 1)) (value_bit at xs (Constant v)) (λ i l. rw (lt-ltb i (length xs) l)) (λ i l. rw (le-ltb i (length xs) l))

    pub signal_valued : (x : ℕ) → Valued reading (pairs xs) (atom (high x)) (value_bit at xs (Signal x))
    unfolding value
    signal_valued x = by_value (atom (high x)) (value_bit at xs (Signal x)) (λ i l. rw (lt-ltb i (length xs) l)) (λ i l. rw (le-ltb i (length xs) l))

    pub risen_valued : (x : ℕ) → Valued reading (pairs xs) (atom (risen x)) (value_bit at xs (Risen x))
    unfolding value
    risen_valued x = by_value (atom (risen x)) (value_bit at xs (Risen x)) (λ i l. rw (lt-ltb i (length xs) l)) (λ i l. rw (le-ltb i (length xs) l))

    pub fallen_valued : (x : ℕ) → Valued reading (pairs xs) (atom (fallen x)) (value_bit at xs (Fallen x))
    unfolding value
    fallen_valued x = by_value (atom (fallen x)) (value_bit at xs (Fallen x)) (λ i l. rw (lt-ltb i (length xs) l)) (λ i l. rw (le-ltb i (length xs) l))

    -- an operand's test
    module _ {x : ℕ} {b : Bexp Atom} (hx : Valued reading (pairs xs) b (at x)) where
      bit : (i : ℕ) → i < length xs → at x i ≡ value reading b (pair_of i)
      bit i l = hx.bits i (let n = length_pairs xs in omega arith) ∙ sym (valued b i l)

      off : (i : ℕ) → length xs ≤ i → at x i ≡ false
      off i l = hx.past i (let n = length_pairs xs in omega arith)

    module _ {x : ℕ} {b : Bexp Atom} (hx : Valued reading (pairs xs) b (at x)) where
      pub not_valued : Valued reading (pairs xs) (nott b) (value_bit at xs (Not x))
      unfolding value
      not_valued = by_value (nott b) (value_bit at xs (Not x)) (λ i l. rw (lt-ltb i (length xs) l) (ap not (bit hx i l))) (λ i l. rw (le-ltb i (length xs) l))

      module _ {y : ℕ} {d : Bexp Atom} (hy : Valued reading (pairs xs) d (at y)) where
        pub and_valued : Valued reading (pairs xs) (andd b d) (value_bit at xs (And x y))
        unfolding value
        and_valued = by_value (andd b d) (value_bit at xs (And x y)) (λ i l. ap₂ ◌&&◌ (bit hx i l) (bit hy i l)) (λ i l. rw (off hx i l))

        pub or_valued : Valued reading (pairs xs) (orr b d) (value_bit at xs (Or x y))
        unfolding value
        or_valued = by_value (orr b d) (value_bit at xs (Or x y)) (λ i l. ap₂ ◌||◌ (bit hx i l) (bit hy i l)) (λ i l. rw (off hx i l, off hy i l))
