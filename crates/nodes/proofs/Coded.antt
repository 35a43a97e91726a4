-- A node and its bytes: the node that is decoded from bytes that a node can have, as those of a well-formed node are, has those bytes. So a decoded
-- node says all that they say. Assumes nothing.
use native.Mathlib.Omega.{arith}
use borrow.Author.Tests.{eqb-true}
use mathlib.Core.Path.{◌≡◌, refl, ◌∙◌, sym, ap}
use mathlib.Core.Bool.{Bool, true, false, cond}
use mathlib.Core.List.{List, map}
use Prim.Native.Nat.{ℕ, ◌/◌, ◌%◌}
use lib.Dec.{T, eqb}
use Rattle.nodes.specs.Operators.{Row}
use Rattle.nodes.specs.declared.Raw.{Raw}
use Rattle.nodes.specs.declared.Node.{Node}
use Rattle.nodes.specs.declared.Node.TheVariants.{Boolean, Sequence, Property}
use Rattle.nodes.specs.declared.BooleanOp.TheVariants.{Constant, Signal, Not, And, Or, Risen, Fallen}
use Rattle.nodes.specs.declared.SequenceOp.TheVariants.{Letter, Then, Fused, Either, Empty, Repeat, Clocked, Derived}
use Rattle.nodes.specs.declared.PropertyOp.TheVariants.{Strong, Weak, Negated, AnyOf, BothOf, Implies, Next, Until, Ticked, Defined}
use Rattle.nodes.specs.Operators.{none, operators, zero_byte, range_byte, lookup, row_of, node_of, bytes_with, ranged, bytes_of, boolean_bytes, derived_sequence_bytes, derived_property_bytes, sequence_bytes, property_bytes, Written, Decodes}
use Rattle.nodes.specs.Nodes.{raw_at, sort_at, node_at, WellFormed}
use Rattle.nodes.proofs.Lookup.{of_lookup, same_line, coded_line}

-- the fourth byte that a node of the kind keeps
kept : ℕ → ℕ → ℕ
kept kind q = cond (eqb kind zero_byte) 0 (cond (eqb kind range_byte) (ranged (q % 16) (q / 16)) q)

-- the bytes of a node: its operator, x, y where its row r uses it, and the fourth byte where it has counts
abbrev meant : ℕ → ℕ → ℕ → ℕ → Row → Raw
meant x y q op r = bytes_with op x (cond (eqb r.y none) 0 y) (kept r.fourth q)

-- so are those of a line's node: antt computes the two for all lines at once
all_meant : (x y q : ℕ) → map (λ e. bytes_of (e.make x y q)) operators ≡ map (λ e. meant x y q e.code e.row) operators
unfolding operators kept bytes_of boolean_bytes derived_sequence_bytes derived_property_bytes sequence_bytes property_bytes
all_meant x y q = refl

-- a byte that is 0 where its sort, or its kind, is 0
used : (kind v w : ℕ) → (kind ≡ 0 → v ≡ 0) → w ≡ v → cond (eqb kind 0) 0 w ≡ v
used kind v w u o = at (eqb kind 0) refl
  where
    at : (b : Bool) → eqb kind 0 ≡ b → cond b 0 w ≡ v
    at true p = sym (u (eqb-true kind 0 p))
    at false p = o

keeps : (kind q : ℕ) → (kind ≡ zero_byte → q ≡ 0) → kept kind q ≡ q
unfolding kept
keeps kind q z = used kind q _ z (both (eqb kind range_byte))
  where
    both : (b : Bool) → cond b (ranged (q % 16) (q / 16)) q ≡ q
    both true = omega arith
    both false = refl

pub coded : (n : Raw) → Written n → bytes_of (node_of n) ≡ n
unfolding node_of
coded n w =
    let d = Boolean (Constant 0) in
    let r = row_of n.op in
    of_lookup bytes_of (λ e. e.make n.x n.y n.fourth) d operators n.op
    ∙ same_line (λ e. bytes_of (e.make n.x n.y n.fourth)) (λ e. meant n.x n.y n.fourth e.code e.row) (bytes_of d) (bytes_of d)
    (all_meant n.x n.y n.fourth) n.op w.known
    ∙ coded_line (meant n.x n.y n.fourth) (bytes_of d) n.op w.known
    ∙ (λ i.
    bytes_with n.op n.x (used r.y n.y n.y w.unused refl i) (keeps r.fourth n.fourth w.fourth.zero i))

-- what the table of operators makes of the bytes is decoded from them
pub decodes : (n : Raw) (r : Node) → r ≡ node_of n → Decodes n r
decodes n r e = record { made = e; same = λ w. ap bytes_of e ∙ coded n w }

-- a node of a base operator
abbrev pub is_base : Node → Bool
is_base (Boolean o) = true
is_base (Sequence (Letter x)) = true
is_base (Sequence (Then x y)) = true
is_base (Sequence (Fused x y)) = true
is_base (Sequence (Either x y)) = true
is_base (Sequence (Empty x)) = true
is_base (Sequence (Repeat x)) = true
is_base (Sequence (Clocked x y)) = true
is_base (Sequence (Derived o)) = false
is_base (Property (Strong x)) = true
is_base (Property (Weak x)) = true
is_base (Property (Negated x)) = true
is_base (Property (AnyOf x y)) = true
is_base (Property (BothOf x y)) = true
is_base (Property (Implies x y)) = true
is_base (Property (Next x)) = true
is_base (Property (Until x y)) = true
is_base (Property (Ticked x y)) = true
is_base (Property (Defined o)) = false

-- and its bytes are decoded to the node
pub decoded : (v : Node) → T (is_base v) → node_of (bytes_of v) ≡ v
unfolding node_of lookup operators bytes_of boolean_bytes sequence_bytes property_bytes
decoded (Boolean (Constant x)) b = refl
decoded (Boolean (Signal x)) b = refl
decoded (Boolean (Not x)) b = refl
decoded (Boolean (And x y)) b = refl
decoded (Boolean (Or x y)) b = refl
decoded (Boolean (Risen x)) b = refl
decoded (Boolean (Fallen x)) b = refl
decoded (Sequence (Letter x)) b = refl
decoded (Sequence (Then x y)) b = refl
decoded (Sequence (Fused x y)) b = refl
decoded (Sequence (Either x y)) b = refl
decoded (Sequence (Empty x)) b = refl
decoded (Sequence (Repeat x)) b = refl
decoded (Sequence (Clocked x y)) b = refl
decoded (Sequence (Derived o)) b = absurd b
decoded (Property (Strong x)) b = refl
decoded (Property (Weak x)) b = refl
decoded (Property (Negated x)) b = refl
decoded (Property (AnyOf x y)) b = refl
decoded (Property (BothOf x y)) b = refl
decoded (Property (Implies x y)) b = refl
decoded (Property (Next x)) b = refl
decoded (Property (Until x y)) b = refl
decoded (Property (Ticked x y)) b = refl
decoded (Property (Defined o)) b = absurd b

-- ---- of a well-formed node of a table

-- the decoded node says what its bytes say
pub coded_at : (s : List ℕ) (k : ℕ) → WellFormed s k → bytes_of (node_at s k) ≡ raw_at s k
unfolding sort_at
coded_at s k w =
    coded (raw_at s k) (record { known = w.known; unused = λ z. let h = w.y.number z in omega arith; fourth = w.fourth })

-- the bytes of a node whose kind is known
pub coded_as : (s : List ℕ) (k : ℕ) → WellFormed s k → {v : Node} → node_at s k ≡ v → raw_at s k ≡ bytes_of v
coded_as s k w e = sym (coded_at s k w) ∙ ap bytes_of e

-- a node that was read and then decoded
pub read_as : (s : List ℕ) (k : ℕ) (v : Raw) (node : Node) → v ≡ raw_at s k → Decodes v node → {kind : Node} → node ≡ kind → node_at s k ≡ kind
read_as s k v node ev dec e = ap node_of (sym ev) ∙ sym dec.made ∙ e
