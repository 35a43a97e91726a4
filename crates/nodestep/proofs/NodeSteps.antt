-- The step of a node, by its kind. Assumes nothing.
use native.Mathlib.Omega.{arith}
use native.Mathlib.Nat.{max-le}
use mathlib.Core.Path.{◌≡◌, sym, subst}
use mathlib.Core.List.{List}
use Prim.Native.Nat.{ℕ, suc, ◌+◌, ◌<◌, ◌≤◌, max}
use lib.Dec.{T}
use Rattle.nodes.specs.declared.Node.{Node}
use Rattle.nodes.specs.declared.Node.TheVariants.{Boolean, Sequence, Property}
use Rattle.nodes.specs.declared.SequenceOp.TheVariants.{Letter, Then, Fused, Either, Empty, Repeat, Clocked, Derived}
use Rattle.nodes.specs.declared.PropertyOp.TheVariants.{Strong, Weak, Negated, AnyOf, BothOf, Implies, Next, Until, Ticked, Defined}
use Rattle.nodes.specs.declared.DerivedSequence.TheVariants.{Repeated, Delayed, Goto, Nonconsecutive}
use Rattle.nodes.specs.declared.DerivedProperty.TheVariants.{ImpliesNext, Followed, FollowedNext, Always, Eventually, StrongUntil, StrongNext}
use Rattle.nodes.specs.Operators.{sequence, operators, lookup, row_of, bytes_of, sequence_bytes, property_bytes}
use Rattle.nodes.specs.Nodes.{node_at, WellFormed}
use Rattle.nodes.proofs.Coded.{is_base}
use Rattle.nodes.proofs.Shapes.{sort_of, Suits, down}
use Rattle.expansion.specs.Forms.{Form, byte, node}
use Rattle.expansion.specs.Nodes.{node_form, form_of}
use Rattle.expansion.specs.Booleans.{number_of}
use Rattle.expansion.proofs.Stepping.{form_as}
use Rattle.pieces.specs.declared.Subject.TheVariants.{Whole, Group}
use Rattle.pieces.specs.declared.SequencePiece.TheVariants.{AnyLetters, Times, NextLetter}
use Rattle.pieces.specs.declared.PropertyPiece.TheVariants.{ImpliesNot, ImpliesNextNot, WeakOf, Never, UntilOf, EventuallyOf, NextNot}
use Rattle.pieces.specs.declared.Piece.TheVariants.{Byte, NodeOf, SequenceOf, PropertyOf}
use Rattle.pieces.specs.declared.Step.{Step}
use Rattle.pieces.specs.Pieces.{subject_form, sequence_form, property_form, piece_form, subject_rank, sequence_rank, property_rank, rank, Heavy, SubjectFits, SequenceFits, PropertyFits, Fits, Stepped}
use Rattle.pieces.specs.Steps.{step, times_step, range_step, delay_step}
use Rattle.nodestep.specs.Operands.{operand_x, operand_y, base_step}
use Rattle.pieces.proofs.Stepping.{raised, times_steps, range_steps, delay_steps}

module _ (s : List ℕ) (n : ℕ) (k : ℕ) (h : k < n) (w : WellFormed s k) where
  abbrev F : ℕ → Form
  F = form_of s

  abbrev ν : ℕ → ℕ
  ν = number_of s

  -- a step of the node
  abbrev Steps : Step → Type 0
  Steps r = Stepped F s n (form_of s k) (rank (NodeOf k)) r

  -- its operands fit
  heavy : {sort x : ℕ} → Suits s k sort x → sequence ≤ sort → Heavy s n x
  heavy g l = let a = g.0 in let b = g.1 in (omega arith, omega arith)

  both_below : {sort sort' x y : ℕ} → Suits s k sort x → Suits s k sort' y → suc (max x y) ≤ k
  both_below {x = x} {y = y} f g = let l = max-le {a = suc x} {b = suc y} f.0 g.0 in omega arith

  -- ---- derived sequences

  pub repeated : {x i j : ℕ} → node_at s k ≡ Sequence (Derived (Repeated x i j)) → i + j ≤ 30 → Steps (range_step (Whole x) i j)
  unfolding node_form rank subject_form subject_rank SubjectFits
  repeated {x} {i} {j} e l =
      let g = down s k w e in
      let b = g.0 in
      subst (λ (f : Form). Stepped F s n f (rank (NodeOf k)) (range_step (Whole x) i j)) (sym (form_as s k w e))
      (raised F s n (range_steps F s n (Whole x) (heavy g (omega arith)) i j) (omega arith))

  pub delayed : {x y i j : ℕ} → node_at s k ≡ Sequence (Derived (Delayed x y i j)) → i + j ≤ 30 → Steps (delay_step x y (ν k) i j)
  unfolding node_form rank
  delayed {x} {y} {i} {j} e l =
      let (f, g) = down s k w e in
      let b = both_below f g in
      subst (λ (f : Form). Stepped F s n f (rank (NodeOf k)) (delay_step x y (ν k) i j)) (sym (form_as s k w e))
      (raised F s n (delay_steps F s n x y (heavy f (omega arith)) (heavy g (omega arith)) (ν k) i j) (omega arith))

  pub goto : {x i : ℕ} → node_at s k ≡ Sequence (Derived (Goto x i)) → i ≤ 15 → Steps (times_step (Group (ν k) (ν x)) i)
  unfolding node_form rank subject_form subject_rank SubjectFits
  goto {x} {i} e l =
      let b = (down s k w e).0 in
      subst (λ (f : Form). Stepped F s n f (rank (NodeOf k)) (times_step (Group (ν k) (ν x)) i)) (sym (form_as s k w e))
      (raised F s n (times_steps F s n (Group (ν k) (ν x)) tt i) (omega arith))

  pub nonconsecutive : {x i : ℕ} → node_at s k ≡ Sequence (Derived (Nonconsecutive x i)) → i ≤ 15
      → Steps (step 17 (SequenceOf (Times (Group (ν k) (ν x)) i)) (SequenceOf (AnyLetters (ν k))))
  unfolding node_form piece_form sequence_form subject_form rank sequence_rank subject_rank Fits SequenceFits SubjectFits
  nonconsecutive e l =
      let b = (down s k w e).0 in
      record { form = form_as s k w e; falls_x = omega arith; falls_y = omega arith; fits_x = tt; fits_y = tt }

  -- ---- derived properties

  pub implies_next_lem : {x y : ℕ} → node_at s k ≡ Property (Defined (ImpliesNext x y)) → Steps (step 37 (SequenceOf (NextLetter x (ν k))) (NodeOf y))
  unfolding node_form piece_form sequence_form rank sequence_rank Fits SequenceFits
  implies_next_lem e =
      let (f, g) = down s k w e in
      let a = f.0 in
      let b = g.0 in
      record { form = form_as s k w e; falls_x = omega arith; falls_y = omega arith; fits_x = heavy f (omega arith); fits_y = heavy g (omega arith) }

  pub followed : {x y : ℕ} → node_at s k ≡ Property (Defined (Followed x y)) → Steps (step 34 (PropertyOf (ImpliesNot x y)) (Byte 0))
  unfolding node_form piece_form property_form rank property_rank Fits PropertyFits
  followed e =
      let (f, g) = down s k w e in
      let b = both_below f g in
      record { form = form_as s k w e; falls_x = omega arith; falls_y = omega arith; fits_x = (heavy f (omega arith), heavy g (omega arith)); fits_y = tt }

  pub followed_next_lem : {x y : ℕ} → node_at s k ≡ Property (Defined (FollowedNext x y)) → Steps (step 34 (PropertyOf (ImpliesNextNot x y (ν k))) (Byte 0))
  unfolding node_form piece_form property_form rank property_rank Fits PropertyFits
  followed_next_lem e =
      let (f, g) = down s k w e in
      let b = both_below f g in
      record { form = form_as s k w e; falls_x = omega arith; falls_y = omega arith; fits_x = (heavy f (omega arith), heavy g (omega arith)); fits_y = tt }

  pub always : {x : ℕ} → node_at s k ≡ Property (Defined (Always x)) → Steps (step 39 (NodeOf x) (PropertyOf (WeakOf (ν k))))
  unfolding node_form piece_form property_form rank property_rank Fits PropertyFits
  always e =
      let f = down s k w e in
      let b = f.0 in
      record { form = form_as s k w e; falls_x = omega arith; falls_y = omega arith; fits_x = heavy f (omega arith); fits_y = tt }

  pub eventually : {x : ℕ} → node_at s k ≡ Property (Defined (Eventually x)) → Steps (step 34 (PropertyOf (Never x (ν k))) (Byte 0))
  unfolding node_form piece_form property_form rank property_rank Fits PropertyFits
  eventually e =
      let f = down s k w e in
      let b = f.0 in
      record { form = form_as s k w e; falls_x = omega arith; falls_y = omega arith; fits_x = heavy f (omega arith); fits_y = tt }

  pub strong_until_lem : {x y : ℕ} → node_at s k ≡ Property (Defined (StrongUntil x y))
      → Steps (step 36 (PropertyOf (UntilOf x y)) (PropertyOf (EventuallyOf y (ν k))))
  unfolding node_form piece_form property_form rank property_rank Fits PropertyFits
  strong_until_lem e =
      let (f, g) = down s k w e in
      let a = both_below f g in
      let b = g.0 in
      record {
        form = form_as s k w e;
        falls_x = omega arith;
        falls_y = omega arith;
        fits_x = (heavy f (omega arith), heavy g (omega arith));
        fits_y = heavy g (omega arith);
      }

  pub strong_next_lem : {x : ℕ} → node_at s k ≡ Property (Defined (StrongNext x)) → Steps (step 34 (PropertyOf (NextNot x)) (Byte 0))
  unfolding node_form piece_form property_form rank property_rank Fits PropertyFits
  strong_next_lem e =
      let f = down s k w e in
      let b = f.0 in
      record { form = form_as s k w e; falls_x = omega arith; falls_y = omega arith; fits_x = heavy f (omega arith); fits_y = tt }

  -- ---- base operators, by the sorts of their operands

  letters : {op d : ℕ} → form_of s k ≡ node op (byte d) (byte 0) → Steps (step op (Byte d) (Byte 0))
  unfolding piece_form rank Fits
  letters e = record { form = e; falls_x = omega arith; falls_y = omega arith; fits_x = tt; fits_y = tt }

  single : {op a x : ℕ} → Suits s k a x → sequence ≤ a → form_of s k ≡ node op (F x) (byte 0) → Steps (step op (NodeOf x) (Byte 0))
  unfolding piece_form rank Fits
  single f l e = let b = f.0 in record { form = e; falls_x = omega arith; falls_y = omega arith; fits_x = heavy f l; fits_y = tt }

  double : {op a b x y : ℕ} → Suits s k a x × Suits s k b y → sequence ≤ a → sequence ≤ b → form_of s k ≡ node op (F x) (F y) → Steps (step op (NodeOf x) (NodeOf y))
  unfolding piece_form rank Fits
  double (f, g) l m e =
      let b = f.0 in let c = g.0 in record { form = e; falls_x = omega arith; falls_y = omega arith; fits_x = heavy f l; fits_y = heavy g m }

  timed : {op d b y : ℕ} → Suits s k b y → sequence ≤ b → form_of s k ≡ node op (byte d) (F y) → Steps (step op (Byte d) (NodeOf y))
  unfolding piece_form rank Fits
  timed g m e = let b = g.0 in record { form = e; falls_x = omega arith; falls_y = omega arith; fits_x = tt; fits_y = heavy g m }

  pub base_steps : (v : Node) → node_at s k ≡ v → T (is_base v) → sequence ≤ sort_of v → Steps (base_step (bytes_of v) (ν (bytes_of v).x))
  unfolding row_of lookup operators bytes_of sequence_bytes property_bytes node_form operand_x operand_y
  base_steps (Boolean o) e t l = absurd (let z : ⊥ = omega arith in z)
  base_steps (Sequence (Letter b)) e t l = letters (form_as s k w e)
  base_steps (Sequence (Then x y)) e t l = double (down s k w e) (omega arith) (omega arith) (form_as s k w e)
  base_steps (Sequence (Fused x y)) e t l = double (down s k w e) (omega arith) (omega arith) (form_as s k w e)
  base_steps (Sequence (Either x y)) e t l = double (down s k w e) (omega arith) (omega arith) (form_as s k w e)
  base_steps (Sequence (Empty x)) e t l = single (down s k w e) (omega arith) (form_as s k w e)
  base_steps (Sequence (Repeat x)) e t l = single (down s k w e) (omega arith) (form_as s k w e)
  base_steps (Sequence (Clocked b x)) e t l = timed (down s k w e).1 (omega arith) (form_as s k w e)
  base_steps (Sequence (Derived o)) e t l = absurd t
  base_steps (Property (Strong x)) e t l = single (down s k w e) (omega arith) (form_as s k w e)
  base_steps (Property (Weak x)) e t l = single (down s k w e) (omega arith) (form_as s k w e)
  base_steps (Property (Negated x)) e t l = single (down s k w e) (omega arith) (form_as s k w e)
  base_steps (Property (AnyOf x y)) e t l = double (down s k w e) (omega arith) (omega arith) (form_as s k w e)
  base_steps (Property (BothOf x y)) e t l = double (down s k w e) (omega arith) (omega arith) (form_as s k w e)
  base_steps (Property (Implies x y)) e t l = double (down s k w e) (omega arith) (omega arith) (form_as s k w e)
  base_steps (Property (Next x)) e t l = single (down s k w e) (omega arith) (form_as s k w e)
  base_steps (Property (Until x y)) e t l = double (down s k w e) (omega arith) (omega arith) (form_as s k w e)
  base_steps (Property (Ticked b x)) e t l = timed (down s k w e).1 (omega arith) (form_as s k w e)
  base_steps (Property (Defined o)) e t l = absurd t
