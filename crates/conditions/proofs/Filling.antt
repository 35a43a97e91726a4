-- The sets of a table's booleans, node by node. Assumes nothing.
use mathlib.Core.Path.{◌≡◌, refl, sym, subst, ◌∙◌}
use mathlib.Core.Bool.{Bool}
use mathlib.Core.List.{List}
use mathlib.Core.Logic.{◌⊎◌, inl, inr}
use Prim.Native.Nat.{ℕ, ◌+◌, ◌*◌, ◌<◌}
use native.Mathlib.Omega.{arith}
use lib.ListN.{length, get_or, set, length-set}
use lib.Seq.{get_or-set_same, get_or-set_other}
use borrow.Author.Count.{below_more}
use Rattle.positions.specs.Member.{has, Is}
use Rattle.refusal.specs.Heading.{count}
use Rattle.meaning.specs.Syntax.{Bexp}
use Rattle.meaning.specs.Pairs.{Atom, reading, pairs}
use Rattle.nodes.specs.declared.Raw.{Raw}
use Rattle.nodes.specs.declared.Node.{Node}
use Rattle.nodes.specs.declared.Node.TheVariants.{Boolean, Sequence, Property}
use Rattle.nodes.specs.declared.BooleanOp.{BooleanOp}
use Rattle.nodes.specs.declared.BooleanOp.TheVariants.{Constant, Signal, Not, And, Or, Risen, Fallen}
use Rattle.nodes.specs.declared.SequenceOp.{SequenceOp}
use Rattle.nodes.specs.declared.PropertyOp.{PropertyOp}
use Rattle.nodes.specs.Operators.{operators, lookup, row_of, Decodes, bytes_of, boolean_bytes}
use Rattle.nodes.specs.Nodes.{raw_at, node_at}
use Rattle.nodes.proofs.Coded.{read_as}
use Rattle.nodes.proofs.Shapes.{Formed, Suits, down, numbered}
use Rattle.table.specs.Trees.{BooleanAt}
use Rattle.table.proofs.Reading.{ReadB, read_b}
use Rattle.cells.specs.Bits.{operand_bit, value_bit}
use Rattle.cells.specs.Ready.{ready_boolean}
use Rattle.rowmeaning.specs.Sets.{Valued}
use Rattle.rowmeaning.proofs.BooleanRules.{constant_valued, signal_valued, risen_valued, fallen_valued, not_valued, and_valued, or_valued}
use Rattle.conditions.specs.Conditions.{Shaped, Conditioned, Below}

module _ (s xs : List ℕ) (shaped : Shaped s xs) (k : ℕ) (inside : k < count s) (sets : List ℕ) (below : Below s xs k sets) where
  -- its operands' sets are there
  low : (op : BooleanOp) → node_at s k ≡ Boolean op → Formed (Suits s k) (Boolean op) → ready_boolean (length sets) 1 op
  unfolding row_of lookup operators bytes_of boolean_bytes
  low (Constant v) e f = tt
  low (Signal x) e f = numbered s k (shaped.fit k inside) e refl
  low (Not x) e f = let r = below.room in let m = shaped.few in let l = f.0 in omega arith
  low (And x y) e f = let r = below.room in let m = shaped.few in let l = f.0.0 in let l2 = f.1.0 in (omega arith, omega arith)
  low (Or x y) e f = let r = below.room in let m = shaped.few in let l = f.0.0 in let l2 = f.1.0 in (omega arith, omega arith)
  low (Risen x) e f = numbered s k (shaped.fit k inside) e refl
  low (Fallen x) e f = numbered s k (shaped.fit k inside) e refl

  -- what boolean a has
  abbrev at : ℕ → ℕ → Bool
  at = operand_bit sets 1

  operand : {a sort : ℕ} {b : Bexp Atom} → Suits s k sort a → BooleanAt (node_at s) a b → Valued reading (pairs xs) b (at a)
  operand {a} {sort} {b} f d =
      let e : 1 * a ≡ a = omega arith in
      subst (λ m. Valued reading (pairs xs) b (has (get_or sets m 0))) (sym e) ((below.below a f.0).means b d)

  as_tree : {f : ℕ → Bool} {b d : Bexp Atom} → b ≡ d → Valued reading (pairs xs) d f → Valued reading (pairs xs) b f
  as_tree {f} e h = subst (λ b. Valued reading (pairs xs) b f) (sym e) h

  valued : (op : BooleanOp) → Formed (Suits s k) (Boolean op) → (b : Bexp Atom) → ReadB (node_at s) (Boolean op) b → Valued reading (pairs xs) b (value_bit at xs op)
  valued (Constant v) f b z = as_tree z (constant_valued xs at v)
  valued (Signal x) f b z = as_tree z (signal_valued xs at x)
  valued (Risen x) f b z = as_tree z (risen_valued xs at x)
  valued (Fallen x) f b z = as_tree z (fallen_valued xs at x)
  valued (Not x) f b z = let (c, e, d) = z in as_tree e (not_valued xs at (operand f d))
  valued (And x y) f b z = let (c, d, e, p, q) = z in as_tree e (and_valued xs at (operand f.0 p) (operand f.1 q))
  valued (Or x y) f b z = let (c, d, e, p, q) = z in as_tree e (or_valued xs at (operand f.0 p) (operand f.1 q))

  module _ (v : Raw) (ev : v ≡ raw_at s k) (node : Node) (dec : Decodes v node) where
    named : {kind : Node} → node ≡ kind → node_at s k ≡ kind
    named = read_as s k v node ev dec

    pub low_boolean : (op : BooleanOp) → node ≡ Boolean op → ready_boolean (length sets) 1 op
    low_boolean op e = low op (named e) (down s k (shaped.fit k inside) (named e))

    pub boolean_made : (op : BooleanOp) → node ≡ Boolean op → (x : ℕ) → Is x (value_bit at xs op) → Conditioned s xs k x
    boolean_made op e x h = record {
      means = λ b d.
          let r = valued op (down s k (shaped.fit k inside) (named e)) b (subst (λ v. ReadB (node_at s) v b) (named e) (read_b d)) in
          record { bits = λ i l. h i ∙ r.bits i l; past = λ i l. h i ∙ r.past i l };
    }

    absent : {kind : Node} → node ≡ kind → ((b : Bexp Atom) → ¬ ReadB (node_at s) kind b) → (x : ℕ) → Conditioned s xs k x
    absent e f x = record { means = λ b d. absurd (f b (subst (λ v. ReadB (node_at s) v b) (named e) (read_b d))) }

    pub no_boolean : ((o : SequenceOp) × node ≡ Sequence o) ⊎ ((o : PropertyOp) × node ≡ Property o) → (x : ℕ) → Conditioned s xs k x
    no_boolean (inl (o, e)) = absent e (λ b z. z)
    no_boolean (inr (o, e)) = absent e (λ b z. z)

-- one set more
pub below_turn : (s xs sets : List ℕ) (k x : ℕ) → k < 120 → Below s xs k sets → Conditioned s xs k x → Below s xs (k + 1) (set sets k x)
below_turn s xs sets k x l b h = record {
  room = length-set sets k x ∙ b.room;
  below = below_more _ _ (λ j q. rw (get_or-set_other sets k j x 0 (λ z. omega arith)) (b.below j q)) (rw (get_or-set_same sets k x 0 (omega (arith, b.room))) h);
}
