-- The row of a sequence node, by the rows of its operands, is that of its tree: one case an operator. Assumes nothing.
use mathlib.Core.Path.{◌≡◌, refl, sym, ap, subst, ◌∙◌}
use mathlib.Core.List.{List}
use Prim.Native.Nat.{ℕ, ◌+◌, ◌*◌, ◌<◌, ◌≤◌}
use native.Mathlib.Omega.{arith}
use lib.ListN.{length, get_or}
use Rattle.positions.specs.Member.{has}
use Rattle.positions.specs.declared.PositionSet.{PositionSet}
use Rattle.refusal.specs.Heading.{count}
use Rattle.meaning.specs.Syntax.{Bexp, Seq, Clock, on}
use Rattle.meaning.specs.Pairs.{Atom, reading, pairs}
use Rattle.meaning.proofs.Pairing.{length_pairs}
use Rattle.nodes.specs.declared.Raw.{Raw}
use Rattle.nodes.specs.declared.Node.{Node}
use Rattle.nodes.specs.declared.Node.TheVariants.{Boolean, Sequence, Property}
use Rattle.nodes.specs.declared.SequenceOp.{SequenceOp}
use Rattle.nodes.specs.declared.SequenceOp.TheVariants.{Letter, Then, Fused, Either, Empty, Repeat, Clocked, Derived}
use Rattle.nodes.specs.Operators.{Decodes, bytes_of, sequence_bytes}
use Rattle.nodes.specs.Nodes.{raw_at, node_at, WellFormed}
use Rattle.nodes.proofs.Coded.{read_as}
use Rattle.nodes.proofs.Based.{not_derived}
use Rattle.nodes.proofs.Shapes.{Suits, down}
use Rattle.table.specs.Trees.{BooleanAt}
use Rattle.table.proofs.Reading.{ReadS, read_s}
use Rattle.cells.specs.Shares.{share, longest, word_in}
use Rattle.ticking.specs.declared.Ticks.{Ticks}
use Rattle.steps.specs.Steps.{own_clock, sequence_clock, PairRow, SequenceStep}
use Rattle.rowmeaning.specs.Rows.{SequenceRow}
use Rattle.rowmeaning.specs.Sets.{Valued}
use Rattle.rowmeaning.proofs.WordBits.{SequenceLaid}
use Rattle.rowmeaning.proofs.SequenceRules.{row_as, clocked_row, then_row, fused_row, either_row, empty_row, repeat_row}
use Rattle.rowmeaning.proofs.LetterRules.{ticks_valued, letter_under}
use Rattle.walk.specs.Walk.{Known, Ticking, SequenceMeans}
use Rattle.walk.proofs.Operands.{bytes_of_lem}

-- a clock node's condition, where c has the samples that satisfy it
pub own-ticks : (xs : List ℕ) (b : Bexp Atom) (c : PositionSet) → Valued reading (pairs xs) b (has c.bits) → Ticking xs (on b) (own_clock c)
own-ticks xs b c h = record { clocked = refl; ticks = ticks_valued reading (pairs xs) b (has c.bits) h }

-- the set of a boolean below
pub condition : (s xs sets : List ℕ) → Known s xs sets → (k : ℕ) → k < count s → (c : PositionSet) {x sort : ℕ} → Suits s k sort x → c.bits ≡ get_or sets x 0 → (b : Bexp Atom) → BooleanAt (node_at s) x b
    → Valued reading (pairs xs) b (has c.bits)
condition s xs sets known k inside c {x} f ec b d = let l = f.0 in subst (λ n. Valued reading (pairs xs) b (has n)) (sym ec) ((known.conditions.below x (omega arith)).means b d)

pub brief : (s xs sets : List ℕ) → Known s xs sets → length (pairs xs) ≤ longest
brief s xs sets known = let n = length_pairs xs in let l = known.shaped.short in omega arith

-- word i of row 0
at_first_lem : (R : List ℕ) (i : ℕ) → word_in R 0 i ≡ get_or R i 0
at_first_lem R i = let e : share * 0 + i ≡ i = omega arith in ap (λ j. get_or R j 0) e

module _ (xs : List ℕ) (short : length (pairs xs) ≤ longest) (κ : Clock Atom) {r : Seq Atom} where
  -- a row by itself
  pub own_row : (x : List ℕ) → SequenceRow reading (pairs xs) κ (λ i. get_or x i 0) r → SequenceRow reading (pairs xs) κ (word_in x 0) r
  own_row x h = row_as reading (pairs xs) κ short (λ i l. at_first_lem x i) h

  -- the two rows that a row is made of
  module _ {x y out : List ℕ} {op : SequenceOp} {n : ℕ} (p : PairRow x y op n out) where
    first_row : SequenceRow reading (pairs xs) κ (λ i. get_or x i 0) r → SequenceRow reading (pairs xs) κ (word_in p.rows 0) r
    first_row h = row_as reading (pairs xs) κ short (λ i l. at_first_lem p.rows i ∙ p.beside.first i l) h

    second_row : SequenceRow reading (pairs xs) κ (λ i. get_or y i 0) r → SequenceRow reading (pairs xs) κ (word_in p.rows 1) r
    second_row h = row_as reading (pairs xs) κ short (λ i l. p.beside.second i l) h

module _ (s xs sets : List ℕ) (known : Known s xs sets) (k : ℕ) (inside : k < count s) where
  abbrev n : ℕ
  n = length (pairs xs)

  short : n ≤ longest
  short = brief s xs sets known

  fit : WellFormed s k
  fit = known.shaped.fit k inside

  module _ (c : PositionSet) (clock : Ticks) (x y out : List ℕ) where
    abbrev Row : Clock Atom → Seq Atom → Type 0
    Row κ r = SequenceRow reading (pairs xs) κ (λ i. get_or out i 0) r

    as_tree : {κ : Clock Atom} {r q : Seq Atom} → r ≡ q → Row κ q → Row κ r
    as_tree {κ} e h = subst (λ r. Row κ r) (sym e) h

    laid : {op : SequenceOp} (p : PairRow x y op n out) → SequenceLaid n p.rows op (λ i. get_or out i 0)
    laid p = record { word = p.word }

    by_kind : (op : SequenceOp) → node_at s k ≡ Sequence op → c.bits ≡ get_or sets (bytes_of (Sequence op)).x 0
        → SequenceMeans s xs (sequence_clock op c clock) (bytes_of (Sequence op)).x x → SequenceMeans s xs (sequence_clock op c clock) (bytes_of (Sequence op)).y y
        → SequenceStep x y c.bits clock.at.bits n op out → (r : Seq Atom) → ReadS (node_at s) (Sequence op) r → (κ : Clock Atom) → Ticking xs κ clock → Row κ r
    unfolding bytes_of sequence_bytes
    by_kind (Letter a) f ec hx hy st r z κ ht =
        let (b, e, d) = z in
        as_tree e (letter_under reading (pairs xs) κ short ht.ticks (condition s xs sets known k inside c (down s k fit f) ec b d) st)
    by_kind (Then a b) f ec hx hy st r z κ ht =
        let (q, q2, e, d, d2) = z in
        as_tree e
        (then_row reading (pairs xs) κ st.rows short (λ i. get_or out i 0) 0 1 q q2 (first_row xs short κ st (hx.means q d κ ht)) (second_row xs short κ st (hy.means q2 d2 κ ht)) (laid st))
    by_kind (Fused a b) f ec hx hy st r z κ ht =
        let (q, q2, e, d, d2) = z in
        as_tree e
        (fused_row reading (pairs xs) κ st.rows short (λ i. get_or out i 0) 0 1 q q2 (first_row xs short κ st (hx.means q d κ ht)) (second_row xs short κ st (hy.means q2 d2 κ ht)) (laid st))
    by_kind (Either a b) f ec hx hy st r z κ ht =
        let (q, q2, e, d, d2) = z in
        as_tree e
        (either_row reading (pairs xs) κ st.rows short (λ i. get_or out i 0) 0 1 q q2 (first_row xs short κ st (hx.means q d κ ht)) (second_row xs short κ st (hy.means q2 d2 κ ht)) (laid st))
    by_kind (Empty a) f ec hx hy st r z κ ht =
        let (q, e, d) = z in
        as_tree e (empty_row reading (pairs xs) κ st.rows short (λ i. get_or out i 0) 0 q (laid st))
    by_kind (Repeat a) f ec hx hy st r z κ ht =
        let (q, e, d) = z in
        as_tree e (repeat_row reading (pairs xs) κ st.rows short (λ i. get_or out i 0) 0 q (first_row xs short κ st (hx.means q d κ ht)) (laid st))
    by_kind (Clocked a b) f ec hx hy st r z κ ht =
        let (t, q, e, d, d2) = z in
        as_tree e
        (clocked_row reading (pairs xs) κ
        (row_as reading (pairs xs) (on t) short (λ i l. st.word i l ∙ at_first_lem y i) (hy.means q d2 (on t) (own-ticks xs t c (condition s xs sets known k inside c (down s k fit f).0 ec t d)))))
    by_kind (Derived o) f ec hx hy st r z κ ht = absurd (not_derived s k fit known.shaped.old f)

  module _ (v : Raw) (ev : v ≡ raw_at s k) (node : Node) (dec : Decodes v node) (clock : Ticks) where
    means_by : {kind : Node} → node ≡ kind → (out : List ℕ)
        → ((r : Seq Atom) → ReadS (node_at s) kind r → (κ : Clock Atom) → Ticking xs κ clock → SequenceRow reading (pairs xs) κ (λ i. get_or out i 0) r) → SequenceMeans s xs clock k out
    means_by e out f = record { means = λ r d κ ht. f r (subst (λ v. ReadS (node_at s) v r) (read_as s k v node ev dec e) (read_s d)) κ ht }

    -- a node that is no sequence stands for none
    pub of_other : ((op : SequenceOp) → ¬ (node ≡ Sequence op)) → (out : List ℕ) → SequenceMeans s xs clock k out
    of_other f out = by_sort node refl
      where
        by_sort : (kind : Node) → node ≡ kind → SequenceMeans s xs clock k out
        by_sort (Boolean o) e = means_by e out (λ r z κ ht. absurd z)
        by_sort (Sequence o) e = absurd (f o e)
        by_sort (Property o) e = means_by e out (λ r z κ ht. absurd z)

    pub of_sequence : (op : SequenceOp) → node ≡ Sequence op → (a b : ℕ) → a ≡ v.x → b ≡ v.y → (c : PositionSet) → c.bits ≡ get_or sets a 0
        → (below : Ticks) → below ≡ sequence_clock op c clock → (x y out : List ℕ) → SequenceMeans s xs below a x → SequenceMeans s xs below b y
        → SequenceStep x y c.bits clock.at.bits (length xs) op out → SequenceMeans s xs clock k out
    of_sequence op e a b ea eb c ec below ew x y out hx hy st =
        let bytes = bytes_of_lem s xs sets known k inside v ev node dec e in
        let ax : a ≡ (bytes_of (Sequence op)).x = ea ∙ ap (λ (v : Raw). v.x) bytes in
        let by : b ≡ (bytes_of (Sequence op)).y = eb ∙ ap (λ (v : Raw). v.y) bytes in
        means_by e out
        (λ r z κ ht.
        by_kind c clock x y out op (read_as s k v node ev dec e) (ec ∙ ap (λ a. get_or sets a 0) ax)
        (subst (λ t. SequenceMeans s xs t (bytes_of (Sequence op)).x x) ew (subst (λ a. SequenceMeans s xs below a x) ax hx))
        (subst (λ t. SequenceMeans s xs t (bytes_of (Sequence op)).y y) ew (subst (λ b. SequenceMeans s xs below b y) by hy))
        (subst (λ m. SequenceStep x y c.bits clock.at.bits m op out) (sym (length_pairs xs)) st) r z κ ht)
