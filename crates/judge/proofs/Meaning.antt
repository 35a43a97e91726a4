-- The rows of an accepted table without clocks mean the trees that its nodes stand for: by induction on how a node stands for its tree, with no code.
-- Assumes nothing.
use mathlib.Core.Path.{◌≡◌, refl, ap, subst, ◌∙◌}
use mathlib.Core.Bool.{Bool, false, true≢false}
use mathlib.Core.List.{List}
use Prim.Native.Nat.{ℕ, ◌+◌, ◌*◌, ◌≤◌, ◌<◌}
use native.Mathlib.Omega.{arith}
use lib.Dec.{eqb}
use lib.ListN.{length, get_or}
use Rattle.positions.specs.Member.{has}
use Rattle.refusal.specs.Heading.{version, count}
use Rattle.refusal.specs.Computed.{accepted}
use Rattle.meaning.specs.Syntax.{Bexp, Seq, Prop, free}
use Rattle.meaning.specs.Pairs.{Atom, reading, pairs}
use Rattle.meaning.proofs.Pairing.{length_pairs}
use Rattle.nodes.specs.declared.Raw.{Raw}
use Rattle.nodes.specs.declared.Node.{Node}
use Rattle.nodes.specs.declared.Node.TheVariants.{Boolean, Sequence, Property}
use Rattle.nodes.specs.declared.BooleanOp.{BooleanOp}
use Rattle.nodes.specs.declared.BooleanOp.TheVariants.{Constant, Signal, Not, And, Or, Risen, Fallen}
use Rattle.nodes.specs.declared.SequenceOp.{SequenceOp}
use Rattle.nodes.specs.declared.SequenceOp.TheVariants.{Letter, Then, Fused, Either, Empty, Repeat, Clocked, Derived}
use Rattle.nodes.specs.declared.PropertyOp.{PropertyOp}
use Rattle.nodes.specs.declared.PropertyOp.TheVariants.{Strong, Weak, Negated, AnyOf, BothOf, Implies, Next, Until, Ticked, Defined}
use Rattle.nodes.specs.declared.DerivedSequence.{DerivedSequence}
use Rattle.nodes.specs.declared.DerivedProperty.{DerivedProperty}
use Rattle.nodes.specs.Operators.{base, operators, lookup, row_of, bytes_of, boolean_bytes, sequence_bytes, property_bytes}
use Rattle.nodes.specs.Nodes.{node_at, WellFormed}
use Rattle.table.specs.Trees.{BooleanAt, b_const, b_sig, b_risen, b_fallen, b_not, b_and, b_or, SequenceAt, s_one, s_cat, s_fuse, s_alt, s_empty, s_plus, s_clock, s_repeated, s_delayed, s_goto, s_nonconsecutive, PropertyAt, p_strong, p_weak, p_neg, p_either, p_both, p_imp, p_next, p_until, p_clock, p_implies_next, p_followed, p_followed_next, p_always, p_eventually, p_strong_until, p_strong_next}
use Rattle.table.specs.Check.{Checks}
use Rattle.nodes.proofs.Coded.{coded_as}
use Rattle.nodes.proofs.Based.{not_derived, not_defined}
use Rattle.nodes.proofs.Shapes.{Formed, Suits, down, numbered}
use Rattle.table.proofs.Checking.{sound}
use Rattle.clocks.specs.Clocks.{is_clock}
use Rattle.cells.specs.Shares.{share, longest, word_in, word_of, HasRow}
use Rattle.cells.specs.Bits.{operand_bit, property_bit}
use Rattle.rows.specs.Rows.{node_word, rows_of, filled, Ready}
use Rattle.rows.proofs.Filling.{row_at, length-filled, filled_row, filled-rest}
use Rattle.rowmeaning.specs.Rows.{BooleanRow, SequenceRow, PropertyRow}
use Rattle.rowmeaning.specs.Sets.{Valued, Says}
use Rattle.rowmeaning.proofs.WordBits.{SequenceLaid}
use Rattle.rowmeaning.proofs.BooleanRules.{row_values, constant_valued, signal_valued, risen_valued, fallen_valued, not_valued, and_valued, or_valued}
use Rattle.rowmeaning.proofs.SequenceRules.{letter_row, then_row, fused_row, either_row, empty_row, repeat_row}
use Rattle.rowmeaning.proofs.PropertyRules.{row_says, strong_says, weak_says, negated_says, any_says, both_says, implies_says, next_says, until_free_says}
use Rattle.judge.specs.Rows.{Filled}
use Rattle.judge.proofs.Laid.{BooleanLaid, PropertyLaid, boolean_row, property_row}

module _ (t xs : List ℕ) (c : Checks t accepted) (plain : (k : ℕ) → k < count t → is_clock t k ≡ false) (short : length xs ≤ longest) where
  fit : (k : ℕ) → k < count t → WellFormed t k
  fit = (sound t accepted c refl).formed.fit

  brief : length (pairs xs) ≤ longest
  brief = let n = length_pairs xs in omega arith

  -- ---- the operands' rows lie below

  low : {k x sort : ℕ} → Suits t k sort x → HasRow (share * k) x
  low f = omega arith

  ready : (k : ℕ) → k < count t → (v : Node) → node_at t k ≡ v → Formed (Suits t k) v → Ready (share * k) v
  unfolding row_of lookup operators bytes_of boolean_bytes
  ready k h (Boolean (Constant v)) e f = tt
  ready k h (Boolean (Signal x)) e f = numbered t k (fit k h) e refl
  ready k h (Boolean (Not x)) e f = low f
  ready k h (Boolean (And x y)) e f = (low f.0, low f.1)
  ready k h (Boolean (Or x y)) e f = (low f.0, low f.1)
  ready k h (Boolean (Risen x)) e f = numbered t k (fit k h) e refl
  ready k h (Boolean (Fallen x)) e f = numbered t k (fit k h) e refl
  ready k h (Sequence (Letter x)) e f = low f
  ready k h (Sequence (Then x y)) e f = (low f.0, low f.1)
  ready k h (Sequence (Fused x y)) e f = (low f.0, low f.1)
  ready k h (Sequence (Either x y)) e f = (low f.0, low f.1)
  ready k h (Sequence (Empty x)) e f = tt
  ready k h (Sequence (Repeat x)) e f = low f
  ready k h (Sequence (Clocked d x)) e f = tt
  ready k h (Sequence (Derived o)) e f = tt
  ready k h (Property (Strong x)) e f = low f
  ready k h (Property (Weak x)) e f = low f
  ready k h (Property (Negated x)) e f = low f
  ready k h (Property (AnyOf x y)) e f = (low f.0, low f.1)
  ready k h (Property (BothOf x y)) e f = (low f.0, low f.1)
  ready k h (Property (Implies x y)) e f = (low f.0, low f.1)
  ready k h (Property (Next x)) e f = low f
  ready k h (Property (Until x y)) e f = (low f.0, low f.1)
  ready k h (Property (Ticked d x)) e f = tt
  ready k h (Property (Defined o)) e f = tt

  pub rows_ready : (k : ℕ) → k < count t → Ready (share * k) (node_at t k)
  rows_ready k h = ready k h (node_at t k) refl (down t k (fit k h) refl)

  -- ---- there are no clock nodes, and no derived ones

  blocked : (k : ℕ) → k < count t → {v : Node} → node_at t k ≡ v → eqb (row_of (bytes_of v).op).block 0 ≡ false
  unfolding is_clock
  blocked k h e = subst (λ (r : Raw). eqb (row_of r.op).block 0 ≡ false) (coded_as t k (fit k h) e) (plain k h)

  no_clocked : (k : ℕ) → k < count t → (d x : ℕ) → ¬ (node_at t k ≡ Sequence (Clocked d x))
  unfolding row_of lookup operators bytes_of sequence_bytes
  no_clocked k h d x e = true≢false (blocked k h e)

  no_ticked : (k : ℕ) → k < count t → (d x : ℕ) → ¬ (node_at t k ≡ Property (Ticked d x))
  unfolding row_of lookup operators bytes_of property_bytes
  no_ticked k h d x e = true≢false (blocked k h e)

  old : version t ≤ base
  old = (sound t accepted c refl).known.1

  no_derived : {k : ℕ} {o : DerivedSequence} → k < count t → ¬ (node_at t k ≡ Sequence (Derived o))
  no_derived {k} h e = not_derived t k (fit k h) old e

  no_defined : {k : ℕ} {o : DerivedProperty} → k < count t → ¬ (node_at t k ≡ Property (Defined o))
  no_defined {k} h e = not_defined t k (fit k h) old e

  -- ---- the induction

  -- D has row k, made of the rows below it
  record Placed (D : List ℕ) (k : ℕ) : Type 0 where
    inside : k < count t
    made : (i : ℕ) → i < share → word_in D k i ≡ node_word (rows_of t xs k) xs (node_at t k) i

  module _ {D : List ℕ} {k : ℕ} (w : Placed D k) where
    -- of a node whose kind is known: its row,
    made_as : {v : Node} → node_at t k ≡ v → (i : ℕ) → i < share → word_in D k i ≡ node_word (rows_of t xs k) xs v i
    made_as e = subst (λ v. (i : ℕ) → i < share → word_in D k i ≡ node_word (rows_of t xs k) xs v i) e w.made

    boolean_laid : {op : BooleanOp} → node_at t k ≡ Boolean op → BooleanLaid xs (rows_of t xs k) op (word_in D k)
    boolean_laid e = record { word = made_as e }

    sequence-laid : {op : SequenceOp} → node_at t k ≡ Sequence op → SequenceLaid (length (pairs xs)) (rows_of t xs k) op (word_in D k)
    sequence-laid e = rw (length_pairs xs) (record { word = made_as e })

    property-laid : {op : PropertyOp} → node_at t k ≡ Property op → PropertyLaid (length (pairs xs)) (rows_of t xs k) op (word_in D k)
    property-laid e = rw (length_pairs xs) (record { word = made_as e })

    -- its operands,
    operands : {v : Node} → node_at t k ≡ v → Formed (Suits t k) v
    operands e = down t k (fit k w.inside) e

    -- and their rows
    below : {x sort : ℕ} → Suits t k sort x → Placed (rows_of t xs k) x
    below {x} f = let h = w.inside in record { inside = omega arith; made = λ i l. row_at t xs k x i f.0 l }

  -- what rows say, and a row by what its rule says
  values : {row : ℕ → ℕ} {b : Bexp Atom} → BooleanRow reading (pairs xs) row b → Valued reading (pairs xs) b (has (row 0))
  values = row_values reading (pairs xs)

  says : {row : ℕ → ℕ} {P : Prop Atom} → PropertyRow reading (pairs xs) free row P → Says reading (pairs xs) free P (λ u. has (row (word_of u)))
  says = row_says reading (pairs xs) free

  by_rule : {R : List ℕ} {op : PropertyOp} {row : ℕ → ℕ} {P : Prop Atom} → PropertyLaid (length (pairs xs)) R op row
      → Says reading (pairs xs) free P (property_bit R (length (pairs xs)) op) → PropertyRow reading (pairs xs) free row P
  by_rule = property_row reading (pairs xs) brief

  -- the booleans below node k
  abbrev at : ℕ → ℕ → ℕ → Bool
  at k = operand_bit (rows_of t xs k) share

  operand : (k x : ℕ) {b : Bexp Atom} → BooleanRow reading (pairs xs) (word_in (rows_of t xs k) x) b → Valued reading (pairs xs) b (at k x)
  operand k x {b} r =
      let e : share * x + 0 ≡ share * x = omega arith in
      subst (λ m. Valued reading (pairs xs) b (has (get_or (rows_of t xs k) m 0))) e (values r)

  boolean_means : {k : ℕ} {b : Bexp Atom} {D : List ℕ} → BooleanAt (node_at t) k b → Placed D k → BooleanRow reading (pairs xs) (word_in D k) b
  boolean_means {k = k} (b_const {v = v} e) w = boolean_row short (boolean_laid w e) (constant_valued xs (at k) v)
  boolean_means {k = k} (b_sig {x = x} e) w = boolean_row short (boolean_laid w e) (signal_valued xs (at k) x)
  boolean_means {k = k} (b_risen {x = x} e) w = boolean_row short (boolean_laid w e) (risen_valued xs (at k) x)
  boolean_means {k = k} (b_fallen {x = x} e) w = boolean_row short (boolean_laid w e) (fallen_valued xs (at k) x)
  boolean_means {k = k} (b_not {x = x} e p) w =
      let f = operands w e in boolean_row short (boolean_laid w e) (not_valued xs (at k) {x = x} (operand k x (boolean_means p (below w f))))
  boolean_means {k = k} (b_and {x = x} {y = y} e p q) w =
      let (f, g) = operands w e in
      boolean_row short (boolean_laid w e) (and_valued xs (at k) {x = x} (operand k x (boolean_means p (below w f))) {y = y} (operand k y (boolean_means q (below w g))))
  boolean_means {k = k} (b_or {x = x} {y = y} e p q) w =
      let (f, g) = operands w e in
      boolean_row short (boolean_laid w e) (or_valued xs (at k) {x = x} (operand k x (boolean_means p (below w f))) {y = y} (operand k y (boolean_means q (below w g))))

  sequence_means : {k : ℕ} {r : Seq Atom} {D : List ℕ} → SequenceAt (node_at t) k r → Placed D k → SequenceRow reading (pairs xs) free (word_in D k) r
  sequence_means (s_one e p) w = let f = operands w e in letter_row reading (pairs xs) _ brief _ _ _ (values (boolean_means p (below w f))) (sequence-laid w e)
  sequence_means (s_cat e p q) w =
      let (f, g) = operands w e in then_row reading (pairs xs) free _ brief _ _ _ _ _ (sequence_means p (below w f)) (sequence_means q (below w g)) (sequence-laid w e)
  sequence_means (s_fuse e p q) w =
      let (f, g) = operands w e in fused_row reading (pairs xs) free _ brief _ _ _ _ _ (sequence_means p (below w f)) (sequence_means q (below w g)) (sequence-laid w e)
  sequence_means (s_alt e p q) w =
      let (f, g) = operands w e in either_row reading (pairs xs) free _ brief _ _ _ _ _ (sequence_means p (below w f)) (sequence_means q (below w g)) (sequence-laid w e)
  sequence_means (s_empty e p) w = empty_row reading (pairs xs) free _ brief _ _ _ (sequence-laid w e)
  sequence_means (s_plus e p) w = let f = operands w e in repeat_row reading (pairs xs) free _ brief _ _ _ (sequence_means p (below w f)) (sequence-laid w e)
  sequence_means (s_clock {k = k} {c = d} {x = x} e p q) w = absurd (no_clocked k w.inside d x e)
  sequence_means (s_repeated e p) w = absurd (no_derived w.inside e)
  sequence_means (s_delayed e p q) w = absurd (no_derived w.inside e)
  sequence_means (s_goto e p) w = absurd (no_derived w.inside e)
  sequence_means (s_nonconsecutive e p) w = absurd (no_derived w.inside e)

  property_means : {k : ℕ} {P : Prop Atom} {D : List ℕ} → PropertyAt (node_at t) k P → Placed D k → PropertyRow reading (pairs xs) free (word_in D k) P
  property_means (p_strong e p) w = let f = operands w e in by_rule (property-laid w e) (strong_says reading (pairs xs) free brief _ _ (sequence_means p (below w f)))
  property_means (p_weak e p) w = let f = operands w e in by_rule (property-laid w e) (weak_says reading (pairs xs) free brief _ _ (sequence_means p (below w f)))
  property_means (p_neg e p) w = let f = operands w e in by_rule (property-laid w e) (negated_says reading (pairs xs) free (says (property_means p (below w f))))
  property_means (p_either e p q) w =
      let (f, g) = operands w e in
      by_rule (property-laid w e) (any_says reading (pairs xs) free (says (property_means p (below w f))) (says (property_means q (below w g))))
  property_means (p_both e p q) w =
      let (f, g) = operands w e in
      by_rule (property-laid w e) (both_says reading (pairs xs) free (says (property_means p (below w f))) (says (property_means q (below w g))))
  property_means (p_imp e p q) w =
      let (f, g) = operands w e in
      by_rule (property-laid w e) (implies_says reading (pairs xs) free brief _ _ (sequence_means p (below w f)) (says (property_means q (below w g))))
  property_means (p_next e p) w = let f = operands w e in by_rule (property-laid w e) (next_says reading (pairs xs) (says (property_means p (below w f))))
  property_means (p_until e p q) w =
      let (f, g) = operands w e in
      by_rule (property-laid w e) (until_free_says reading (pairs xs) (says (property_means p (below w f))) (says (property_means q (below w g))))
  property_means (p_clock {k = k} {c = d} {x = x} e p q) w = absurd (no_ticked k w.inside d x e)
  property_means (p_implies_next e p q) w = absurd (no_defined w.inside e)
  property_means (p_followed e p q) w = absurd (no_defined w.inside e)
  property_means (p_followed_next e p q) w = absurd (no_defined w.inside e)
  property_means (p_always e p) w = absurd (no_defined w.inside e)
  property_means (p_eventually e p) w = absurd (no_defined w.inside e)
  property_means (p_strong_until e p q) w = absurd (no_defined w.inside e)
  property_means (p_strong_next e p) w = absurd (no_defined w.inside e)

  -- what `fill` leaves is what the page says
  pub rows_mean : (d out : List ℕ) → share * count t ≤ length d → out ≡ filled t xs d (count t) → Filled t xs d out
  rows_mean d out h e = record {
    long = ap length e ∙ length-filled t xs d (count t) h;
    booleans = λ k l b s. boolean_means s (there k l);
    sequences = λ k l r s. sequence_means s (there k l);
    properties = λ k l P s. property_means s (there k l);
    stay = λ j l. rw e (filled-rest t xs d (count t) j l);
  }
    where
      there : (k : ℕ) → k < count t → Placed out k
      there k l = record {
        inside = l;
        made = λ i u. rw e (filled_row t xs d (count t) k i l u) ∙ row_at t xs (count t) k i l u;
      }
