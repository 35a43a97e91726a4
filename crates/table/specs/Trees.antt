-- The tree that each node of a table stands for, a derived one for the tree that defines it, and what a clock given by the number of its condition's
-- node stands for. T gives the nodes.
-- Assumes nothing.
use Rattle.std.specs.Prelude.{◌≡◌, List, ℕ, eqb}
use Rattle.meaning.specs.Syntax.{Bexp, const, atom, nott, andd, orr, Seq, one, cat, fuse, alt, empty, plus, clocked, Prop, strong, weak, neg, either, both, implies, next, until, under, Clock, free, on}
use Rattle.meaning.specs.Parts.{Tree, seq, prop}
use Rattle.derived.specs.Derived.{range, delay, goto, nonconsecutive, implies_next, followed, followed_next, always, eventually, strong_until, strong_next}
use Rattle.meaning.specs.Pairs.{Atom, high, risen, fallen}
use Rattle.nodes.specs.declared.Node.{Node}
use Rattle.nodes.specs.declared.Node.TheVariants.{Boolean, Sequence, Property}
use Rattle.nodes.specs.declared.BooleanOp.TheVariants.{Constant, Signal, Not, And, Or, Risen, Fallen}
use Rattle.nodes.specs.declared.SequenceOp.TheVariants.{Letter, Then, Fused, Either, Empty, Repeat, Clocked, Derived}
use Rattle.nodes.specs.declared.PropertyOp.TheVariants.{Strong, Weak, Negated, AnyOf, BothOf, Implies, Next, Until, Ticked, Defined}
use Rattle.nodes.specs.declared.DerivedSequence.TheVariants.{Repeated, Delayed, Goto, Nonconsecutive}
use Rattle.nodes.specs.declared.DerivedProperty.TheVariants.{ImpliesNext, Followed, FollowedNext, Always, Eventually, StrongUntil, StrongNext}
use Rattle.nodes.specs.Nodes.{node_at, root}
use Rattle.nodes.specs.NodeClock.{Ref, free_r, on_r}

-- ---- trees

pub data BooleanAt (T : ℕ → Node) : ℕ → Bexp Atom → Type 0 where
  b_const : {k v : ℕ} → T k ≡ Boolean (Constant v) → BooleanAt T k (const (eqb v 1))
  b_sig : {k x : ℕ} → T k ≡ Boolean (Signal x) → BooleanAt T k (atom (high x))
  b_risen : {k x : ℕ} → T k ≡ Boolean (Risen x) → BooleanAt T k (atom (risen x))
  b_fallen : {k x : ℕ} → T k ≡ Boolean (Fallen x) → BooleanAt T k (atom (fallen x))
  b_not : {k x : ℕ} {b : Bexp Atom} → T k ≡ Boolean (Not x) → BooleanAt T x b → BooleanAt T k (nott b)
  b_and : {k x y : ℕ} {b d : Bexp Atom} → T k ≡ Boolean (And x y) → BooleanAt T x b → BooleanAt T y d → BooleanAt T k (andd b d)
  b_or : {k x y : ℕ} {b d : Bexp Atom} → T k ≡ Boolean (Or x y) → BooleanAt T x b → BooleanAt T y d → BooleanAt T k (orr b d)

pub data SequenceAt (T : ℕ → Node) : ℕ → Seq Atom → Type 0 where
  s_one : {k x : ℕ} {b : Bexp Atom} → T k ≡ Sequence (Letter x) → BooleanAt T x b → SequenceAt T k (one b)
  s_cat : {k x y : ℕ} {r s : Seq Atom} → T k ≡ Sequence (Then x y) → SequenceAt T x r → SequenceAt T y s → SequenceAt T k (cat r s)
  s_fuse : {k x y : ℕ} {r s : Seq Atom} → T k ≡ Sequence (Fused x y) → SequenceAt T x r → SequenceAt T y s → SequenceAt T k (fuse r s)
  s_alt : {k x y : ℕ} {r s : Seq Atom} → T k ≡ Sequence (Either x y) → SequenceAt T x r → SequenceAt T y s → SequenceAt T k (alt r s)
  s_empty : {k x : ℕ} {r : Seq Atom} → T k ≡ Sequence (Empty x) → SequenceAt T x r → SequenceAt T k (empty r)
  s_plus : {k x : ℕ} {r : Seq Atom} → T k ≡ Sequence (Repeat x) → SequenceAt T x r → SequenceAt T k (plus r)
  s_clock : {k c x : ℕ} {b : Bexp Atom} {r : Seq Atom} → T k ≡ Sequence (Clocked c x) → BooleanAt T c b → SequenceAt T x r → SequenceAt T k (clocked b r)
  s_repeated : {k x m n : ℕ} {r : Seq Atom} → T k ≡ Sequence (Derived (Repeated x m n)) → SequenceAt T x r → SequenceAt T k (range r m n)
  s_delayed : {k x y m n : ℕ} {r s : Seq Atom} → T k ≡ Sequence (Derived (Delayed x y m n)) → SequenceAt T x r → SequenceAt T y s
      → SequenceAt T k (delay r s m n)
  s_goto : {k x m : ℕ} {b : Bexp Atom} → T k ≡ Sequence (Derived (Goto x m)) → BooleanAt T x b → SequenceAt T k (goto b m)
  s_nonconsecutive : {k x m : ℕ} {b : Bexp Atom} → T k ≡ Sequence (Derived (Nonconsecutive x m)) → BooleanAt T x b
      → SequenceAt T k (nonconsecutive b m)

pub data PropertyAt (T : ℕ → Node) : ℕ → Prop Atom → Type 0 where
  p_strong : {k x : ℕ} {r : Seq Atom} → T k ≡ Property (Strong x) → SequenceAt T x r → PropertyAt T k (strong r)
  p_weak : {k x : ℕ} {r : Seq Atom} → T k ≡ Property (Weak x) → SequenceAt T x r → PropertyAt T k (weak r)
  p_neg : {k x : ℕ} {P : Prop Atom} → T k ≡ Property (Negated x) → PropertyAt T x P → PropertyAt T k (neg P)
  p_either : {k x y : ℕ} {P Q : Prop Atom} → T k ≡ Property (AnyOf x y) → PropertyAt T x P → PropertyAt T y Q → PropertyAt T k (either P Q)
  p_both : {k x y : ℕ} {P Q : Prop Atom} → T k ≡ Property (BothOf x y) → PropertyAt T x P → PropertyAt T y Q → PropertyAt T k (both P Q)
  p_imp : {k x y : ℕ} {r : Seq Atom} {P : Prop Atom} → T k ≡ Property (Implies x y) → SequenceAt T x r → PropertyAt T y P → PropertyAt T k (implies r P)
  p_next : {k x : ℕ} {P : Prop Atom} → T k ≡ Property (Next x) → PropertyAt T x P → PropertyAt T k (next P)
  p_until : {k x y : ℕ} {P Q : Prop Atom} → T k ≡ Property (Until x y) → PropertyAt T x P → PropertyAt T y Q → PropertyAt T k (until P Q)
  p_clock : {k c x : ℕ} {b : Bexp Atom} {P : Prop Atom} → T k ≡ Property (Ticked c x) → BooleanAt T c b → PropertyAt T x P → PropertyAt T k (under b P)
  p_implies_next : {k x y : ℕ} {r : Seq Atom} {P : Prop Atom} → T k ≡ Property (Defined (ImpliesNext x y)) → SequenceAt T x r → PropertyAt T y P
      → PropertyAt T k (implies_next r P)
  p_followed : {k x y : ℕ} {r : Seq Atom} {P : Prop Atom} → T k ≡ Property (Defined (Followed x y)) → SequenceAt T x r → PropertyAt T y P
      → PropertyAt T k (followed r P)
  p_followed_next : {k x y : ℕ} {r : Seq Atom} {P : Prop Atom} → T k ≡ Property (Defined (FollowedNext x y)) → SequenceAt T x r → PropertyAt T y P
      → PropertyAt T k (followed_next r P)
  p_always : {k x : ℕ} {P : Prop Atom} → T k ≡ Property (Defined (Always x)) → PropertyAt T x P → PropertyAt T k (always P)
  p_eventually : {k x : ℕ} {P : Prop Atom} → T k ≡ Property (Defined (Eventually x)) → PropertyAt T x P → PropertyAt T k (eventually P)
  p_strong_until : {k x y : ℕ} {P Q : Prop Atom} → T k ≡ Property (Defined (StrongUntil x y)) → PropertyAt T x P → PropertyAt T y Q
      → PropertyAt T k (strong_until P Q)
  p_strong_next : {k x : ℕ} {P : Prop Atom} → T k ≡ Property (Defined (StrongNext x)) → PropertyAt T x P → PropertyAt T k (strong_next P)

-- a sequence or a property
pub data TreeAt (T : ℕ → Node) (k : ℕ) : Tree Atom → Type 0 where
  t_seq : {r : Seq Atom} → SequenceAt T k r → TreeAt T k (seq r)
  t_prop : {P : Prop Atom} → PropertyAt T k P → TreeAt T k (prop P)

-- the root of the table stands for the sequence, for the property
abbrev pub RootS : List ℕ → Seq Atom → Type 0
RootS s r = SequenceAt (node_at s) (root s) r

abbrev pub RootP : List ℕ → Prop Atom → Type 0
RootP s P = PropertyAt (node_at s) (root s) P

-- ---- clocks

-- the clock that the number stands for
pub data ClockAt (T : ℕ → Node) : Ref → Clock Atom → Type 0 where
  c_free : ClockAt T free_r free
  c_on : {c : ℕ} {b : Bexp Atom} → BooleanAt T c b → ClockAt T (on_r c) (on b)
