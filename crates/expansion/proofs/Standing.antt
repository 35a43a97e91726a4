-- What a form stands for, wherever it lies in a table: one law for each base operator. A form also has a sort, and so have its operands, as the
-- table of operators asks. Assumes nothing.
use native.Mathlib.Omega.{arith}
use native.Mathlib.Nat.{not-suc-le-zero, le_of_suc-le-suc}
use mathlib.Core.Path.{◌≡◌, ap}
use mathlib.Core.Bool.{Bool, ◌&&◌}
use mathlib.Core.List.{List}
use Prim.Native.Nat.{ℕ, ◌+◌, ◌≤◌}
use lib.Dec.{T, leb, ltb}
use Rattle.meaning.specs.Syntax.{Bexp, Seq, one, cat, fuse, alt, empty, plus, clocked, Prop, strong, weak, neg, either, both, implies, next, until, under}
use Rattle.meaning.specs.Pairs.{Atom}
use Rattle.nodes.specs.Operators.{Row}
use Rattle.nodes.specs.Operators.{none, boolean, sequence, property, base, operators, lookup, row_of, node_of, bytes}
use Rattle.nodes.specs.Nodes.{node_at}
use Rattle.nodes.proofs.Fits.{Lower}
use Rattle.table.specs.Trees.{BooleanAt, SequenceAt, s_one, s_cat, s_fuse, s_alt, s_empty, s_plus, s_clock, PropertyAt, p_strong, p_weak, p_neg, p_either, p_both, p_imp, p_next, p_until, p_clock}
use Rattle.expansion.specs.Forms.{Form, byte, node, size, named, written}
use Rattle.expansion.proofs.Lying.{Lies, lies_x, lies_y, lies_top}

-- ---- sorts

-- an operator of a sequence or a property with an operand x, known in a version 2 table
abbrev pub heavy : Row → Bool
heavy r = (leb sequence r.own && ltb none r.x) && (leb r.first base && leb base r.last)

-- v is a boolean among the first n nodes of t
abbrev pub First : List ℕ → ℕ → ℕ → Type 0
First t n v = Lower t n boolean v

-- f is an operand of the sort: the byte 0 where there is none, a boolean that B has, or a node over operands of the sorts that it asks
pub data Typed (B : ℕ → Type 0) : ℕ → Form → Type 0 where
  typed_none : Typed B none (byte 0)
  typed_boolean : {v : ℕ} → B v → Typed B boolean (byte v)
  typed_node : {op : ℕ} {x y : Form} → T (heavy (row_of op)) → Typed B (row_of op).x x → Typed B (row_of op).y y → Typed B (row_of op).own (node op x y)

module _ {B : ℕ → Type 0} where
  -- a sequence or a property has a node, and the last is its own
  pub typed_some : {sort : ℕ} {f : Form} → Typed B sort f → sequence ≤ sort → 1 ≤ size f
  unfolding size
  typed_some typed_none h = absurd (not-suc-le-zero h)
  typed_some (typed_boolean z) h = absurd (not-suc-le-zero (le_of_suc-le-suc h))
  typed_some (typed_node l p q) h = omega arith

  pub typed_last : {sort : ℕ} {f : Form} → Typed B sort f → sequence ≤ sort → (at : ℕ) → named at f + 1 ≡ at + size f
  unfolding size named
  typed_last typed_none h at = absurd (not-suc-le-zero h)
  typed_last (typed_boolean z) h at = absurd (not-suc-le-zero (le_of_suc-le-suc h))
  typed_last (typed_node l p q) h at = omega arith

-- ---- trees

module _ (B : ℕ → Type 0) (t : List ℕ) where
  -- f is of the sort, and wherever it lies in t, X holds of its number
  pub record Stands (sort : ℕ) (X : ℕ → Type 0) (f : Form) : Type 0 where
    pub typed : Typed B sort f
    pub there : (at : ℕ) → Lies t at (written at f) → X (named at f)

  -- a node of t stands for the boolean, the sequence, the property
  abbrev pub StandsB : Form → Bexp Atom → Type 0
  StandsB f b = Stands boolean (λ k. BooleanAt (node_at t) k b) f

  abbrev pub StandsS : Form → Seq Atom → Type 0
  StandsS f r = Stands sequence (λ k. SequenceAt (node_at t) k r) f

  abbrev pub StandsP : Form → Prop Atom → Type 0
  StandsP f P = Stands property (λ k. PropertyAt (node_at t) k P) f

  -- no operand
  unused : Stands none (λ k. Unit {0}) (byte 0)
  unused = record { typed = typed_none; there = λ at h. tt }

  -- a node over two operands, of which X and Y hold
  over : {X Y Z : ℕ → Type 0} {f g : Form} (op : ℕ) → T (heavy (row_of op)) → ((k x y : ℕ) → node_at t k ≡ node_of (bytes op x y) → X x → Y y → Z k)
      → Stands (row_of op).x X f → Stands (row_of op).y Y g → Stands (row_of op).own Z (node op f g)
  over {f = f} {g = g} op h make p q = record {
    typed = typed_node h p.typed q.typed;
    there = λ at l.
        make _ _ _ (ap node_of (lies_top t at op f g l)) (p.there at (lies_x t at op f g l)) (q.there (at + size f) (lies_y t at op f g l));
  }

  -- ---- the base operators

  pub stands_one : {f : Form} {b : Bexp Atom} → StandsB f b → StandsS (node 16 f (byte 0)) (one b)
  unfolding operators lookup row_of node_of
  stands_one p = over 16 tt (λ k x y e a b. s_one e a) p unused

  pub stands_cat : {f g : Form} {r q : Seq Atom} → StandsS f r → StandsS g q → StandsS (node 17 f g) (cat r q)
  unfolding operators lookup row_of node_of
  stands_cat p q = over 17 tt (λ k x y e a b. s_cat e a b) p q

  pub stands_fuse : {f g : Form} {r q : Seq Atom} → StandsS f r → StandsS g q → StandsS (node 18 f g) (fuse r q)
  unfolding operators lookup row_of node_of
  stands_fuse p q = over 18 tt (λ k x y e a b. s_fuse e a b) p q

  pub stands_alt : {f g : Form} {r q : Seq Atom} → StandsS f r → StandsS g q → StandsS (node 19 f g) (alt r q)
  unfolding operators lookup row_of node_of
  stands_alt p q = over 19 tt (λ k x y e a b. s_alt e a b) p q

  pub stands_empty : {f : Form} {r : Seq Atom} → StandsS f r → StandsS (node 20 f (byte 0)) (empty r)
  unfolding operators lookup row_of node_of
  stands_empty p = over 20 tt (λ k x y e a b. s_empty e a) p unused

  pub stands_plus : {f : Form} {r : Seq Atom} → StandsS f r → StandsS (node 21 f (byte 0)) (plus r)
  unfolding operators lookup row_of node_of
  stands_plus p = over 21 tt (λ k x y e a b. s_plus e a) p unused

  pub stands_clocked : {f g : Form} {b : Bexp Atom} {r : Seq Atom} → StandsB f b → StandsS g r → StandsS (node 22 f g) (clocked b r)
  unfolding operators lookup row_of node_of
  stands_clocked p q = over 22 tt (λ k x y e a b. s_clock e a b) p q

  pub stands_strong : {f : Form} {r : Seq Atom} → StandsS f r → StandsP (node 32 f (byte 0)) (strong r)
  unfolding operators lookup row_of node_of
  stands_strong p = over 32 tt (λ k x y e a b. p_strong e a) p unused

  pub stands_weak : {f : Form} {r : Seq Atom} → StandsS f r → StandsP (node 33 f (byte 0)) (weak r)
  unfolding operators lookup row_of node_of
  stands_weak p = over 33 tt (λ k x y e a b. p_weak e a) p unused

  pub stands_neg : {f : Form} {P : Prop Atom} → StandsP f P → StandsP (node 34 f (byte 0)) (neg P)
  unfolding operators lookup row_of node_of
  stands_neg p = over 34 tt (λ k x y e a b. p_neg e a) p unused

  pub stands_either : {f g : Form} {P Q : Prop Atom} → StandsP f P → StandsP g Q → StandsP (node 35 f g) (either P Q)
  unfolding operators lookup row_of node_of
  stands_either p q = over 35 tt (λ k x y e a b. p_either e a b) p q

  pub stands_both : {f g : Form} {P Q : Prop Atom} → StandsP f P → StandsP g Q → StandsP (node 36 f g) (both P Q)
  unfolding operators lookup row_of node_of
  stands_both p q = over 36 tt (λ k x y e a b. p_both e a b) p q

  pub stands_implies : {f g : Form} {r : Seq Atom} {P : Prop Atom} → StandsS f r → StandsP g P → StandsP (node 37 f g) (implies r P)
  unfolding operators lookup row_of node_of
  stands_implies p q = over 37 tt (λ k x y e a b. p_imp e a b) p q

  pub stands_next : {f : Form} {P : Prop Atom} → StandsP f P → StandsP (node 38 f (byte 0)) (next P)
  unfolding operators lookup row_of node_of
  stands_next p = over 38 tt (λ k x y e a b. p_next e a) p unused

  pub stands_until : {f g : Form} {P Q : Prop Atom} → StandsP f P → StandsP g Q → StandsP (node 39 f g) (until P Q)
  unfolding operators lookup row_of node_of
  stands_until p q = over 39 tt (λ k x y e a b. p_until e a b) p q

  pub stands_under : {f g : Form} {b : Bexp Atom} {P : Prop Atom} → StandsB f b → StandsP g P → StandsP (node 40 f g) (under b P)
  unfolding operators lookup row_of node_of
  stands_under p q = over 40 tt (λ k x y e a b. p_clock e a b) p q
