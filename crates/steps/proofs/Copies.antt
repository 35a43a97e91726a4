-- Rows laid side by side, word by word. Assumes nothing.
use mathlib.Core.Path.{◌≡◌, sym, ap, ◌∙◌}
use mathlib.Core.List.{List, ◌++◌}
use Prim.Native.Nat.{ℕ, ◌+◌, ◌<◌}
use native.Mathlib.Omega.{arith}
use borrow.Rule.Slice.PartMut.{put_mid}
use lib.ListN.{length, get_or, take, drop, length-append, get_or-append}
use lib.Seq.{take_at, get_or-take, length-take-le, get_or-append-add}
use Rattle.cells.specs.Shares.{share}
use Rattle.nodes.specs.declared.SequenceOp.{SequenceOp}
use Rattle.cells.specs.Stored.{tab, with_row}
use Rattle.sequences.specs.Made.{sequence_word}
use Rattle.cells.proofs.Laying.{length-tab, get_or-tab}
use Rattle.steps.specs.Steps.{Beside, RowIn, PairRow}

-- the two rows, laid one after the other in a list of 195 words
pub beside_made : (x y p q d : List ℕ) → length x ≡ share → length y ≡ share → p ≡ x → q ≡ y
    → Beside x y (put_mid share share (p ++ drop share d) q)
beside_made x y p q d lx ly ex ey = record { first = first; second = second }
  where
    e : List ℕ
    e = p ++ drop share d

    -- what stands before the second row is the first
    head : take share e ≡ x
    head = take_at p (drop share d) share (rw ex lx) ∙ ex

    first : (i : ℕ) → i < share → get_or (put_mid share share e q) i 0 ≡ get_or x i 0
    first i l = rw head (get_or-append x _ 0 i (omega arith))

    second : (i : ℕ) → i < share → get_or (put_mid share share e q) (share + i) 0 ≡ get_or y i 0
    second i l = rw (head, ← lx) (get_or-append-add x _ i 0 ∙ get_or-append q _ 0 i (rw ey (omega arith)) ∙ ap (λ (t : List ℕ). get_or t i 0) ey)

-- the third row, made of the first two
pub pair_made : (x y w ws out : List ℕ) (op : SequenceOp) (n : ℕ) → Beside x y w → length w ≡ 195
    → ws ≡ with_row w 2 (tab (sequence_word (take 130 w) n op) share) → RowIn ws 130 out → PairRow x y op n out
unfolding with_row
pair_made x y w ws out op n b long e h = record {
  rows = take 130 w;
  beside = record { first = λ i l. get_or-take 130 w i 0 (omega arith) ∙ b.first i l; second = λ i l. get_or-take 130 w (share + i) 0 (omega arith) ∙ b.second i l };
  word = λ i l. h.word i l ∙ ap (λ d. get_or d (130 + i) 0) e ∙ third i l;
}
  where
    row : List ℕ
    row = tab (sequence_word (take 130 w) n op) share

    low : length (take 130 w) ≡ 130
    low = length-take-le 130 w (omega arith)

    third : (i : ℕ) → i < share → get_or (take 130 w ++ row ++ drop 195 w) (130 + i) 0 ≡ sequence_word (take 130 w) n op i
    third i l =
        get_or-append (take 130 w ++ row) (drop 195 w) 0 (130 + i) (rw length-append (let m = length-tab (sequence_word (take 130 w) n op) share in let q = low in omega arith))
        ∙ ap (λ k. get_or (take 130 w ++ row) (k + i) 0) (sym low)
        ∙ get_or-append-add (take 130 w) row i 0
        ∙ get_or-tab (sequence_word (take 130 w) n op) share i l
