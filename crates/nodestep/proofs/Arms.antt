-- The step of a node, from what the code has read of it: one law an arm. Assumes nothing.
use native.Mathlib.Omega.{arith}
use borrow.Author.Tests.{lt-ltb, ne_eqb, eqb-true, not-false}
use mathlib.Core.Path.{◌≡◌, refl, ◌∙◌, sym, ap, subst}
use mathlib.Core.Bool.{Bool, true, false, not, cond, ◌||◌}
use mathlib.Core.List.{List, map}
use Prim.Native.Nat.{ℕ, ◌/◌, ◌%◌, ◌<◌, ◌≤◌}
use lib.Dec.{T, eqb, leb}
use lib.ListN.{get_or}
use Rattle.nodes.specs.declared.Raw.{Raw}
use Rattle.nodes.specs.declared.Node.{Node}
use Rattle.nodes.specs.Operators.{none, boolean, count_byte, operators, lookup, row_of, node_of, bytes_of}
use Rattle.nodes.specs.Nodes.{raw_at, sort_at, node_at, WellFormed}
use Rattle.nodes.specs.Computed.{named_by}
use Rattle.nodes.proofs.Lookup.{same_line, coded_line}
use Rattle.nodes.proofs.Coded.{is_base, coded_at}
use Rattle.nodes.proofs.Shapes.{sort_is, down}
use Rattle.nodes.proofs.Based.{is_early}
use Rattle.expansion.specs.Nodes.{form_of}
use Rattle.expansion.specs.Booleans.{number_of}
use Rattle.pieces.specs.declared.Subject.TheVariants.{Whole, Group}
use Rattle.pieces.specs.declared.SequencePiece.TheVariants.{AnyLetters, Times, NextLetter}
use Rattle.pieces.specs.declared.PropertyPiece.TheVariants.{ImpliesNot, ImpliesNextNot, WeakOf, Never, UntilOf, EventuallyOf, NextNot}
use Rattle.pieces.specs.declared.Piece.TheVariants.{Byte, NodeOf, SequenceOf, PropertyOf}
use Rattle.pieces.specs.declared.Step.{Step}
use Rattle.pieces.specs.Pieces.{rank, Heavy, Stepped}
use Rattle.nodestep.specs.Ready.{Ready}
use Rattle.pieces.specs.Steps.{step, times_step, range_step, delay_step}
use Rattle.nodestep.specs.Operands.{operand_x, operand_y, base_step}
use Rattle.nodestep.proofs.NodeSteps as by_kind
use Rattle.nodestep.proofs.Reading.{is_23, is_24, is_25, is_26, is_41, is_42, is_43, is_44, is_45, is_46, is_47}

-- ---- which operators are derived

derived_code : ℕ → Bool
derived_code op =
    eqb op 23
    || (eqb op 24
    || (eqb op 25 || (eqb op 26 || (eqb op 41 || (eqb op 42 || (eqb op 43 || (eqb op 44 || (eqb op 45 || (eqb op 46 || eqb op 47)))))))))

-- those that version 2 does not know: antt computes the two for all lines at once
derived_lines : map (λ e. derived_code e.code) operators ≡ map (λ e. not (leb e.row.first 2)) operators
unfolding operators derived_code
derived_lines = refl

derived-codes : (op : ℕ) → ¬ ((row_of op).own ≡ none) → derived_code op ≡ not (leb (row_of op).first 2)
derived-codes op k =
    sym (coded_line (λ c r. derived_code c) false op k) ∙ same_line (λ e. derived_code e.code) (λ e. not (leb e.row.first 2)) false false derived_lines op k
    ∙ coded_line (λ c r. not (leb r.first 2)) false op k

-- none of them
abbrev pub Others : ℕ → Type 0
Others op = ((((((((((Unit {0} × (op ≡ 23 → ⊥)) × (op ≡ 24 → ⊥)) × (op ≡ 25 → ⊥)) × (op ≡ 26 → ⊥)) × (op ≡ 41 → ⊥)) × (op ≡ 42 → ⊥)) × (op ≡ 43 → ⊥)) × (op ≡ 44 → ⊥)) × (op ≡ 45 → ⊥)) × (op ≡ 46 → ⊥)) × (op ≡ 47 → ⊥)

none_of : (op : ℕ) → Others op → derived_code op ≡ false
unfolding derived_code
none_of op (((((((((((_, a), b), c), d), e), f), g), i), j), k), l) =
    rw (ne_eqb op 23 a, ne_eqb op 24 b, ne_eqb op 25 c, ne_eqb op 26 d, ne_eqb op 41 e, ne_eqb op 42 f, ne_eqb op 43 g, ne_eqb op 44 i, ne_eqb op 45 j, ne_eqb op 46 k, ne_eqb op 47 l)

module _ (s : List ℕ) (n : ℕ) (numbers : List ℕ) (ready : Ready s n numbers) (k : ℕ) (h : Heavy s n k) where
  abbrev Steps : Step → Type 0
  Steps t = Stepped (form_of s) s n (form_of s k) (rank (NodeOf k)) t

  w : WellFormed s k
  w = ready.formed.fit k h.0

  -- the number of the boolean that the block makes
  made : get_or numbers k 0 ≡ number_of s k
  made = ready.numbered.right k h.0

  -- what was read: the node's bytes, its operands and its fourth byte
  module _ (v : Raw) (ev : v ≡ raw_at s k) (x : ℕ) (ex : x ≡ v.x) where
    kind : {u : Node} → node_of v ≡ u → node_at s k ≡ u
    kind e = ap node_of (sym ev) ∙ e

    -- the number of a boolean operand
    operand : (i : ℕ) → i ≡ named_by v.x → v.x < k → get_or numbers i 0 ≡ number_of s x
    unfolding named_by
    operand i ei l =
        let f = ready.formed.few in
        let a = h.0 in
        rw (ei, lt-ltb v.x 120 (omega arith)) (ready.numbered.right v.x (omega arith) ∙ ap (number_of s) (sym ex))

    pub always : v.op ≡ 44 → (t : Step) → t ≡ step 39 (NodeOf x) (PropertyOf (WeakOf (get_or numbers k 0))) → Steps t
    always e t f = rw (f, made, ex) (by_kind.always s n k h.0 w (kind (is_44 v e)))

    pub eventually : v.op ≡ 45 → (t : Step) → t ≡ step 34 (PropertyOf (Never x (get_or numbers k 0))) (Byte 0) → Steps t
    eventually e t f = rw (f, made, ex) (by_kind.eventually s n k h.0 w (kind (is_45 v e)))

    pub strong_next_lem : v.op ≡ 47 → (t : Step) → t ≡ step 34 (PropertyOf (NextNot x)) (Byte 0) → Steps t
    strong_next_lem e t f = rw (f, ex) (by_kind.strong_next_lem s n k h.0 w (kind (is_47 v e)))

    module _ (y : ℕ) (ey : y ≡ v.y) where
      pub implies_next_lem : v.op ≡ 41 → (t : Step) → t ≡ step 37 (SequenceOf (NextLetter x (get_or numbers k 0))) (NodeOf y) → Steps t
      implies_next_lem e t f = rw (f, made, ex, ey) (by_kind.implies_next_lem s n k h.0 w (kind (is_41 v e)))

      pub followed : v.op ≡ 42 → (t : Step) → t ≡ step 34 (PropertyOf (ImpliesNot x y)) (Byte 0) → Steps t
      followed e t f = rw (f, ex, ey) (by_kind.followed s n k h.0 w (kind (is_42 v e)))

      pub followed_next_lem : v.op ≡ 43 → (t : Step) → t ≡ step 34 (PropertyOf (ImpliesNextNot x y (get_or numbers k 0))) (Byte 0) → Steps t
      followed_next_lem e t f = rw (f, made, ex, ey) (by_kind.followed_next_lem s n k h.0 w (kind (is_43 v e)))

      pub strong_until_lem : v.op ≡ 46 → (t : Step) → t ≡ step 36 (PropertyOf (UntilOf x y)) (PropertyOf (EventuallyOf y (get_or numbers k 0))) → Steps t
      strong_until_lem e t f = rw (f, made, ex, ey) (by_kind.strong_until_lem s n k h.0 w (kind (is_46 v e)))

    module _ (q : ℕ) (eq : q ≡ v.fourth) where
      pub repeated : v.op ≡ 23 → v.fourth < 256 → (t : Step) → t ≡ range_step (Whole x) (q % 16) (q / 16) → Steps t
      repeated e l t f = rw (f, ex, eq) (by_kind.repeated s n k h.0 w (kind (is_23 v e)) (omega arith))

      pub delayed : v.op ≡ 24 → v.fourth < 256 → (y : ℕ) → y ≡ v.y → (t : Step) → t ≡ delay_step x y (get_or numbers k 0) (q % 16) (q / 16) → Steps t
      delayed e l y ey t f = rw (f, made, ex, ey, eq) (by_kind.delayed s n k h.0 w (kind (is_24 v e)) (omega arith))

      -- the count of [->m] and [=m] is small
      counted : (op : ℕ) → v.op ≡ op → (row_of op).fourth ≡ count_byte → v.fourth ≤ 15
      counted op e z =
          subst (λ (r : Raw). r.fourth ≤ 15) (sym ev)
          (w.fourth.count (ap (λ (r : Raw). (row_of r.op).fourth) (sym ev) ∙ ap (λ (o : ℕ). (row_of o).fourth) e ∙ z))

      module _ (i : ℕ) (ei : i ≡ named_by v.x) where
        pub goto : v.op ≡ 25 → (t : Step) → t ≡ times_step (Group (get_or numbers k 0) (get_or numbers i 0)) q → Steps t
        unfolding row_of lookup operators
        goto e t f =
            let o = kind (is_25 v e) in
            rw (f, made, operand i ei (down s k w o).0, ex, eq) (by_kind.goto s n k h.0 w o (counted 25 e refl))

        pub nonconsecutive : v.op ≡ 26 → (t : Step)
            → t ≡ step 17 (SequenceOf (Times (Group (get_or numbers k 0) (get_or numbers i 0)) q)) (SequenceOf (AnyLetters (get_or numbers k 0))) → Steps t
        unfolding row_of lookup operators
        nonconsecutive e t f =
            let o = kind (is_26 v e) in
            rw (f, made, operand i ei (down s k w o).0, ex, eq) (by_kind.nonconsecutive s n k h.0 w o (counted 26 e refl))

  -- ---- any other is a base node

  module _ (v : Raw) (ev : v ≡ raw_at s k) (other : Others v.op) where
    op_known : ¬ ((row_of v.op).own ≡ none)
    unfolding sort_at
    op_known = subst (λ (r : Raw). ¬ ((row_of r.op).own ≡ none)) (sym ev) w.known

    early : leb (row_of v.op).first 2 ≡ true
    early = not-false (leb (row_of v.op).first 2) (sym (derived-codes v.op op_known) ∙ none_of v.op other)

    base_kind : T (is_base (node_at s k))
    base_kind = subst T (sym (is_early s k w ∙ ap (λ (r : Raw). leb (row_of r.op).first 2) (sym ev) ∙ early)) tt

    -- by the new number of its first operand, which matters only where that is a boolean
    by_number : (d : ℕ) → ((row_of v.op).x ≡ boolean → d ≡ number_of s v.x) → base_step v d ≡ base_step v (number_of s v.x)
    unfolding operand_x
    by_number d e = go (eqb (row_of v.op).x boolean) refl
      where
        go : (b : Bool) → eqb (row_of v.op).x boolean ≡ b
            → step v.op (cond b (Byte d) (NodeOf v.x)) (operand_y (row_of v.op).y v.y)
            ≡ step v.op (cond b (Byte (number_of s v.x)) (NodeOf v.x)) (operand_y (row_of v.op).y v.y)
        go true q = ap (λ (d : ℕ). step v.op (Byte d) (operand_y (row_of v.op).y v.y)) (e (eqb-true (row_of v.op).x boolean q))
        go false q = refl

    below : (row_of v.op).x ≡ boolean → v.x < k
    below e = subst (λ (r : Raw). (row_of r.op).x ≡ boolean → r.x < k) (sym ev) (λ z. w.x.below (λ a. omega arith)) e

    pub base : (i : ℕ) → i ≡ named_by v.x → (t : Step) → t ≡ base_step v (get_or numbers i 0) → Steps t
    base i ei t f =
        let o = by_kind.base_steps s n k h.0 w (node_at s k) refl base_kind (let z = sort_is s k w in let y = h.1 in omega arith) in
        let r : bytes_of (node_at s k) ≡ v = coded_at s k w ∙ sym ev in
        rw (f, by_number (get_or numbers i 0) (λ e. operand v ev v.x refl i ei (below e))) (subst (λ (u : Raw). Steps (base_step u (number_of s u.x))) r o)
