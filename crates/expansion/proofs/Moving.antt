-- The booleans that come first in a version 2 table are well formed there. Assumes nothing.
use native.Mathlib.Omega.{arith}
use mathlib.Core.Path.{◌≡◌, refl, ◌∙◌, sym, subst}
use mathlib.Core.List.{List, [], ◌∷◌}
use Prim.Native.Nat.{ℕ, ◌<◌, ◌≤◌}
use Rattle.refusal.specs.Heading.{version}
use Rattle.nodes.specs.declared.Raw.{Raw}
use Rattle.nodes.specs.declared.Node.{Node}
use Rattle.nodes.specs.declared.Node.TheVariants.{Boolean, Sequence, Property}
use Rattle.nodes.specs.declared.BooleanOp.{BooleanOp}
use Rattle.nodes.specs.Operators.{none, boolean, base, operators, lookup, row_of, bytes_of, boolean_bytes}
use Rattle.nodes.specs.Nodes.{sort_at, node_at, Operand, WellFormed}
use Rattle.nodes.proofs.Coded.{coded_as}
use Rattle.nodes.proofs.Shapes.{sort_of, sort_is}
use Rattle.nodes.proofs.Fits.{right_fit, zero_fourth, Lower, lower, number}
use Rattle.encoding.specs.Moved.{moved, moved_node}
use Rattle.encoding.proofs.Renumbering.{operand_moved}
use Rattle.expansion.specs.Booleans.{given, number_of, booleans_below}
use Rattle.expansion.proofs.Giving.{Gives, gives_none, gives_own, gives_constant, gives_not, gives}
use Rattle.expansion.proofs.Numbering.{number-below, found}
use Rattle.expansion.proofs.Lying.{Lies}
use Rattle.expansion.proofs.Truths.{boolean_row, raw_at_lem, truth_at}

module _ (s : List ℕ) where
  -- ---- the operands of what a node gives

  -- the bytes r have right operands as node k
  abbrev pub Operands : ℕ → Raw → Type 0
  Operands k r = Operand s k (row_of r.op).x (row_of r.op).limit r.x × Operand s k (row_of r.op).y 1 r.y

  abbrev AllOperands : ℕ → List BooleanOp → Type 0
  AllOperands k [] = Unit {0}
  AllOperands k (o ∷ os) = Operands k (boolean_bytes o) × AllOperands k os

  given_operands : (k : ℕ) → WellFormed s k → {v : Node} {os : List BooleanOp} → Gives v os → node_at s k ≡ v → AllOperands k os
  unfolding row_of lookup operators bytes_of boolean_bytes
  given_operands k w gives_none e = tt
  given_operands k w gives_own e = (subst (Operands k) (coded_as s k w e) (w.x, w.y), tt)
  given_operands k w (gives_constant c l) e = ((number s k l, number s k (omega arith)), tt)
  given_operands k w (gives_not z) e =
      let o = (subst (Operands k) (coded_as s k w e) (w.x, w.y)).0 in
      ((lower s k 0 (λ y. omega arith) (o.below (λ y. omega arith), o.sorted (λ y. omega arith) ∙ z), number s k (omega arith)), tt)

  pub operands_given : (k : ℕ) → WellFormed s k → {o : BooleanOp} → given (node_at s k) ≡ o ∷ [] → Operands k (boolean_bytes o)
  operands_given k w g = (subst (AllOperands k) g (given_operands k w (gives (node_at s k)) refl)).0

  -- a boolean node gives itself
  boolean_given : (k : ℕ) → WellFormed s k → sort_at s k ≡ boolean → (o : BooleanOp) × (given (node_at s k) ≡ o ∷ [])
  unfolding given
  boolean_given k w e = go (node_at s k) (sym (sort_is s k w) ∙ e)
    where
      go : (v : Node) → sort_of v ≡ boolean → (o : BooleanOp) × (given v ≡ o ∷ [])
      go (Boolean o) z = (o, refl)
      go (Sequence o) z = absurd (let w : ⊥ = omega arith in w)
      go (Property o) z = absurd (let w : ⊥ = omega arith in w)

  -- ---- with new numbers

  module _ (n : ℕ) (fit : (k : ℕ) → k < n → WellFormed s k) (t : List ℕ) (two : version t ≡ base) (h : Lies t 0 (booleans_below s n)) where
    lower_new : (k : ℕ) → k < n → (sort limit v : ℕ) → sort ≤ boolean → Operand s k sort limit v → ¬ (sort ≡ none) → Lower t (number_of s k) sort (number_of s v)
    lower_new k l sort limit v b o z =
        let u = o.below z in
        let f = o.sorted z in
        let (p, g) = boolean_given v (fit v (omega arith)) (omega arith) in
        let q = (truth_at s n t h (let i : v < n = omega arith in i) g).1 in
        (number-below s v p g k u, omega arith)

    operand_new : (k : ℕ) → k < n → (sort limit v : ℕ) → sort ≤ boolean → Operand s k sort limit v → Operand t (number_of s k) sort limit (moved (number_of s) sort v)
    operand_new k l sort limit v b o = operand_moved (number_of s) s t k (number_of s k) sort limit v o (lower_new k l sort limit v b o)

    given_fit : (k : ℕ) → k < n → (o : BooleanOp) → given (node_at s k) ≡ o ∷ [] → WellFormed t (number_of s k)
    unfolding moved_node
    given_fit k l o g =
        let ((own, (sort-x, sort-y)), (first, last)) = boolean_row o in
        let (x, y) = operands_given k (fit k l) g in
        right_fit t (number_of s k) (raw_at_lem s n t h l g)
        (record {
          known = λ z. omega arith;
          in_version = (omega arith, omega arith);
          x = operand_new k l _ _ _ sort-x x;
          y = operand_new k l _ _ _ sort-y y;
          fourth = zero_fourth _;
        })

    pub boolean_fit : (q : ℕ) → q < number_of s n → WellFormed t q
    boolean_fit q u = let (k, o, l, e, g) = found s n q u in subst (WellFormed t) e (given_fit k l o g)
