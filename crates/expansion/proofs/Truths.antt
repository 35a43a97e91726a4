-- The booleans that come first in a table stand for those of s, and for those that the blocks make. Assumes nothing.
use native.Mathlib.Omega.{arith}
use native.Mathlib.Nat.{zero-add}
use mathlib.Core.Path.{◌≡◌, refl, ◌∙◌, sym, ap, subst}
use mathlib.Core.Bool.{Bool, ◌&&◌}
use mathlib.Core.List.{List, [], ◌∷◌}
use Prim.Native.Nat.{ℕ, ◌<◌, ◌≤◌}
use lib.Dec.{T, eqb, leb}
use Rattle.telling.proofs.Telling.{is_and, is_eq, is_le}
use Rattle.meaning.specs.Syntax.{Bexp, const, nott}
use Rattle.meaning.specs.Pairs.{Atom}
use Rattle.nodes.specs.Operators.{Row}
use Rattle.nodes.specs.declared.Raw.{Raw}
use Rattle.nodes.specs.declared.Node.{Node}
use Rattle.nodes.specs.declared.Node.TheVariants.{Boolean, Sequence, Property}
use Rattle.nodes.specs.declared.BooleanOp.{BooleanOp}
use Rattle.nodes.specs.declared.BooleanOp.TheVariants.{Constant, Signal, Not, And, Or, Risen, Fallen}
use Rattle.nodes.specs.Operators.{boolean, base, operators, lookup, row_of, node_of, boolean_bytes}
use Rattle.nodes.specs.Nodes.{raw_at, sort_at, node_at, KnownIn, WellFormed}
use Rattle.nodes.proofs.Shapes.{down}
use Rattle.encoding.specs.Moved.{moved, moved_node}
use Rattle.table.specs.Trees.{BooleanAt, b_const, b_sig, b_risen, b_fallen, b_not, b_and, b_or}
use Rattle.table.proofs.Reading.{ReadB, read_b}
use Rattle.expansion.specs.Forms.{byte, named}
use Rattle.expansion.specs.Booleans.{given, number_of, booleans_below}
use Rattle.expansion.proofs.Numbering.{length-booleans, number-below, boolean_at, found}
use Rattle.expansion.proofs.Lying.{Lies}
use Rattle.expansion.proofs.Standing.{First, StandsB, typed_boolean}

-- the row of a boolean: its own sort, no operand but booleans, and known in a version 2 table
abbrev light : Row → Bool
light r = (eqb r.own boolean && (leb r.x boolean && leb r.y boolean)) && (leb r.first base && leb base r.last)

light_boolean : (o : BooleanOp) → T (light (row_of (boolean_bytes o).op))
unfolding row_of lookup operators boolean_bytes
light_boolean (Constant x) = tt
light_boolean (Signal x) = tt
light_boolean (Not x) = tt
light_boolean (And x y) = tt
light_boolean (Or x y) = tt
light_boolean (Risen x) = tt
light_boolean (Fallen x) = tt

abbrev pub Light : Row → Type 0
Light r = ((r.own ≡ boolean) × ((r.x ≤ boolean) × (r.y ≤ boolean))) × KnownIn r base

pub boolean_row : (o : BooleanOp) → Light (row_of (boolean_bytes o).op)
boolean_row o =
    let r = row_of (boolean_bytes o).op in
    let operands = is_and (is_le r.x boolean) (is_le r.y boolean) in
    (is_and (is_and (is_eq r.own boolean) operands) (is_and (is_le r.first base) (is_le base r.last))).to (light_boolean o)

module _ (s : List ℕ) (n : ℕ) (t : List ℕ) (h : Lies t 0 (booleans_below s n)) where
  -- ---- the boolean that node k gives

  module _ {k : ℕ} (l : k < n) {o : BooleanOp} (e : given (node_at s k) ≡ o ∷ []) where
    pub raw_at_lem : raw_at t (number_of s k) ≡ moved_node (number_of s) (boolean_bytes o)
    raw_at_lem =
        let a = length-booleans s n in
        let b = number-below s k o e n l in
        ap (raw_at t) (sym (zero-add (number_of s k))) ∙ h (number_of s k) (omega arith) ∙ boolean_at s k o e n l

    pub truth_at : First t (number_of s n) (number_of s k)
    unfolding sort_at moved_node
    truth_at = (number-below s k o e n l, ap (λ (r : Raw). (row_of r.op).own) raw_at_lem ∙ (boolean_row o).0.0)

  -- so each of the first nodes is a boolean
  pub first_boolean : (q : ℕ) → q < number_of s n → sort_at t q ≡ boolean
  first_boolean q u = let (k, o, l, e, g) = found s n q u in subst (λ (q : ℕ). sort_at t q ≡ boolean) e (truth_at l g).1

  -- by its kind
  node_at_lem : {k : ℕ} {v : Node} {o : BooleanOp} → k < n → node_at s k ≡ v → given v ≡ o ∷ [] → node_at t (number_of s k) ≡ node_of (moved_node (number_of s) (boolean_bytes o))
  node_at_lem l e g = ap node_of (raw_at_lem l (ap given e ∙ g))

  module _ (fit : (k : ℕ) → k < n → WellFormed s k) where
    same : {k : ℕ} {b : Bexp Atom} → k < n → BooleanAt (node_at s) k b → BooleanAt (node_at t) (number_of s k) b
    unfolding given node_of lookup operators moved_node moved row_of boolean_bytes
    same l (b_const e) = b_const (node_at_lem l e refl)
    same l (b_sig e) = b_sig (node_at_lem l e refl)
    same l (b_risen e) = b_risen (node_at_lem l e refl)
    same l (b_fallen e) = b_fallen (node_at_lem l e refl)
    same {k} l (b_not e d) = let g = down s k (fit k l) e in b_not (node_at_lem l e refl) (same (omega arith) d)
    same {k} l (b_and e d f) = let (g, j) = down s k (fit k l) e in b_and (node_at_lem l e refl) (same (omega arith) d) (same (omega arith) f)
    same {k} l (b_or e d f) = let (g, j) = down s k (fit k l) e in b_or (node_at_lem l e refl) (same (omega arith) d) (same (omega arith) f)

    -- ---- as forms

    abbrev Stand : ℕ → Bexp Atom → Type 0
    Stand v b = StandsB (First t (number_of s n)) t (byte v) b

    -- a boolean node, by its new number
    pub stands_same : {k : ℕ} {b : Bexp Atom} → k < n → BooleanAt (node_at s) k b → Stand (number_of s k) b
    unfolding given named
    stands_same {k} {b} l d = record { typed = typed_boolean (go (node_at s k) refl (read_b d)); there = λ at _. same l d }
      where
        go : (v : Node) → node_at s k ≡ v → ReadB (node_at s) v b → First t (number_of s n) (number_of s k)
        go (Boolean o) e z = truth_at l (ap given e)
        go (Sequence o) e z = absurd z
        go (Property o) e z = absurd z

    -- the constant that a node of a known kind makes, and the negation of its operand x
    module _ {k : ℕ} {v : Node} (l : k < n) (e : node_at s k ≡ v) where
      pub stands_constant : (c : ℕ) → given v ≡ Constant c ∷ [] → Stand (number_of s k) (const (eqb c 1))
      unfolding named node_of lookup operators moved_node moved row_of boolean_bytes
      stands_constant c g = record { typed = typed_boolean (truth_at l (ap given e ∙ g)); there = λ at _. b_const (node_at_lem l e g) }

      pub stands_not : {x : ℕ} {b : Bexp Atom} → given v ≡ Not x ∷ [] → x < k → BooleanAt (node_at s) x b → Stand (number_of s k) (nott b)
      unfolding named node_of lookup operators moved_node moved row_of boolean_bytes
      stands_not g u d = record { typed = typed_boolean (truth_at l (ap given e ∙ g)); there = λ at _. b_not (node_at_lem l e g) (same (omega arith) d) }
