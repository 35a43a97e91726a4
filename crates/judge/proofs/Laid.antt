-- The words of a boolean's and of a property's row, and what the row means where the tests that its words are made of do. Assumes nothing.
use mathlib.Core.Path.{◌≡◌, refl, ◌∙◌}
use mathlib.Core.Bool.{Bool, true, false, cond}
use mathlib.Core.List.{List}
use Prim.Native.Nat.{ℕ, ◌<◌, ◌≤◌}
use native.Mathlib.Omega.{arith}
use lib.Dec.{eqb}
use lib.ListN.{length}
use borrow.Author.Tests.{ne_eqb}
use Rattle.meaning.specs.Syntax.{Bexp, Prop, Clock}
use Rattle.meaning.specs.Words.{Tail, none, tops, bots}
use Rattle.meaning.specs.Pairs.{Atom, reading, pairs}
use Rattle.meaning.proofs.Pairing.{length_pairs}
use Rattle.nodes.specs.declared.BooleanOp.{BooleanOp}
use Rattle.nodes.specs.declared.PropertyOp.{PropertyOp}
use Rattle.cells.specs.Shares.{share, longest, word_of}
use Rattle.cells.specs.Bits.{boolean_bit, property_bit}
use Rattle.cells.specs.Stored.{set64}
use Rattle.rows.specs.Rows.{boolean_word, property_word}
use Rattle.rowmeaning.specs.Rows.{BooleanRow, PropertyRow}
use Rattle.rowmeaning.specs.Sets.{Valued, Says}
use Rattle.rowmeaning.proofs.WordBits.{in_word, off_word, has_word}

-- `row` is the row of a node, made of the rows R below: of a boolean on the samples xs, of a property on n of them. Records, so that all is read off a
-- proof's type
pub record BooleanLaid (xs R : List ℕ) (op : BooleanOp) (row : ℕ → ℕ) : Type 0 where
  pub word : (i : ℕ) → i < share → row i ≡ boolean_word R xs op i

pub record PropertyLaid (n : ℕ) (R : List ℕ) (op : PropertyOp) (row : ℕ → ℕ) : Type 0 where
  pub word : (i : ℕ) → i < share → row i ≡ property_word R n op i

pub boolean_row : {xs R : List ℕ} {op : BooleanOp} {row : ℕ → ℕ} {b : Bexp Atom} → length xs ≤ longest → BooleanLaid xs R op row
    → Valued reading (pairs xs) b (boolean_bit R xs op) → BooleanRow reading (pairs xs) row b
boolean_row {xs} {R} {op} short w h =
    let n = length_pairs xs in
    record {
      bits = λ i l. rw (w.word 0 (omega arith)) (has_word (boolean_bit R xs op) i (omega arith) ∙ h.bits i l);
      past = λ i l. rw (w.word 0 (omega arith)) (off_word (boolean_bit R xs op) i (h.past i l));
      zero = λ i u v. rw (w.word i v, ne_eqb i 0 (λ z. let bad : ⊥ = omega arith in bad)) (same (eqb i 1) (eqb i 2));
    }
  where
    same : (p q : Bool) → ◌≡◌ {A = ℕ} (cond p 0 (cond q 0 0)) 0
    same true q = refl
    same false true = refl
    same false false = refl

pub property_row : {A S : Type 0} (reads : A → S → Bool) (xs : List S) {κ : Clock A} {R : List ℕ} {op : PropertyOp} {row : ℕ → ℕ} {P : Prop A} → length xs ≤ longest
    → PropertyLaid (length xs) R op row → Says reads xs κ P (property_bit R (length xs) op) → PropertyRow reads xs κ row P
property_row reads xs {R = R} {op = op} {row = row} short w h = record {
  answers = λ t i l. rw (at t) (in_word (property_bit R (length xs) op t) i (λ p. omega arith) (h.answers t i l));
  past = λ t i l. rw (at t) (off_word (property_bit R (length xs) op t) i (h.past t i l));
  zero = λ i u v.
      rw (
        w.word i v,
        ne_eqb i 0 (λ z. let bad : ⊥ = omega arith in bad),
        ne_eqb i 1 (λ z. let bad : ⊥ = omega arith in bad),
        ne_eqb i 2 (λ z. let bad : ⊥ = omega arith in bad),
      );
}
  where
    at : (t : Tail) → row (word_of t) ≡ set64 (property_bit R (length xs) op t)
    at none = w.word 0 (omega arith)
    at tops = w.word 1 (omega arith)
    at bots = w.word 2 (omega arith)
