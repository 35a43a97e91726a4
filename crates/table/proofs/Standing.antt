-- Where every node is well formed, each stands for a tree, of its sort. Assumes nothing.
use native.Mathlib.Omega.{arith}
use native.Mathlib.Nat.{not-suc-le-zero}
use mathlib.Core.Path.{◌≡◌, refl, ◌∙◌, sym}
use mathlib.Core.List.{List}
use Prim.Native.Nat.{ℕ, zero, suc, ◌<◌}
use Rattle.refusal.specs.Heading.{count}
use Rattle.meaning.specs.Syntax.{Bexp, Seq, Prop, Clock, free, on}
use Rattle.meaning.specs.Pairs.{Atom}
use Rattle.table.specs.Trees.{BooleanAt, b_const, b_sig, b_risen, b_fallen, b_not, b_and, b_or, SequenceAt, s_one, s_cat, s_fuse, s_alt, s_empty, s_plus, s_clock, s_repeated, s_delayed, s_goto, s_nonconsecutive, PropertyAt, p_strong, p_weak, p_neg, p_either, p_both, p_imp, p_next, p_until, p_clock, p_implies_next, p_followed, p_followed_next, p_always, p_eventually, p_strong_until, p_strong_next, ClockAt, c_free, c_on}
use Rattle.nodes.specs.declared.Node.{Node}
use Rattle.nodes.specs.declared.Node.TheVariants.{Boolean, Sequence, Property}
use Rattle.nodes.specs.declared.BooleanOp.TheVariants.{Constant, Signal, Not, And, Or, Risen, Fallen}
use Rattle.nodes.specs.declared.SequenceOp.TheVariants.{Letter, Then, Fused, Either, Empty, Repeat, Clocked, Derived}
use Rattle.nodes.specs.declared.PropertyOp.TheVariants.{Strong, Weak, Negated, AnyOf, BothOf, Implies, Next, Until, Ticked, Defined}
use Rattle.nodes.specs.declared.DerivedSequence.TheVariants.{Repeated, Delayed, Goto, Nonconsecutive}
use Rattle.nodes.specs.declared.DerivedProperty.TheVariants.{ImpliesNext, Followed, FollowedNext, Always, Eventually, StrongUntil, StrongNext}
use Rattle.nodes.specs.Operators.{boolean, sequence, property}
use Rattle.nodes.specs.Nodes.{sort_at, node_at, WellFormed}
use Rattle.nodes.specs.NodeClock.{Ref, free_r, on_r}
use Rattle.nodes.proofs.Shapes.{sort_of, Formed, Suits, sort_is, down}
use Rattle.nodes.proofs.Built.{Built}
use Rattle.nodes.proofs.Clocking.{OnBoolean}

module _ (s : List ℕ) (n : ℕ) (fit : (k : ℕ) → k < n → WellFormed s k) where
  abbrev Booleans : ℕ → Type 0
  Booleans k = (b : Bexp Atom) × BooleanAt (node_at s) k b

  abbrev Sequences : ℕ → Type 0
  Sequences k = (r : Seq Atom) × SequenceAt (node_at s) k r

  abbrev Properties : ℕ → Type 0
  Properties k = (P : Prop Atom) × PropertyAt (node_at s) k P

  -- m bounds the node from above
  pub boolean_in : (m k : ℕ) → k < m → k < n → sort_at s k ≡ boolean → Booleans k
  boolean_in zero k l h e = absurd (not-suc-le-zero l)
  boolean_in (suc m) k l h e =
      go (λ x f. boolean_in m x (omega arith) (omega arith) f.1) (node_at s k) refl (down s k (fit k h) refl) (sym (sort_is s k (fit k h)) ∙ e)
    where
      go : (ih : (x : ℕ) → Suits s k boolean x → Booleans x) → (v : Node) → node_at s k ≡ v → Formed (Suits s k) v → sort_of v ≡ boolean → Booleans k
      go ih (Boolean (Constant v)) q f z = (_, b_const q)
      go ih (Boolean (Signal x)) q f z = (_, b_sig q)
      go ih (Boolean (Risen x)) q f z = (_, b_risen q)
      go ih (Boolean (Fallen x)) q f z = (_, b_fallen q)
      go ih (Boolean (Not x)) q f z = (_, b_not q (ih x f).1)
      go ih (Boolean (And x y)) q f z = (_, b_and q (ih x f.0).1 (ih y f.1).1)
      go ih (Boolean (Or x y)) q f z = (_, b_or q (ih x f.0).1 (ih y f.1).1)
      go ih (Sequence o) q f z = absurd (let w : ⊥ = omega arith in w)
      go ih (Property o) q f z = absurd (let w : ⊥ = omega arith in w)

  -- a boolean operand of node k
  bool : (k : ℕ) → k < n → (x : ℕ) → Suits s k boolean x → Booleans x
  bool k h x f = boolean_in n x (omega arith) (omega arith) f.1

  pub sequence_in : (m k : ℕ) → k < m → k < n → sort_at s k ≡ sequence → Sequences k
  sequence_in zero k l h e = absurd (not-suc-le-zero l)
  sequence_in (suc m) k l h e =
      go (λ x f. sequence_in m x (omega arith) (omega arith) f.1) (node_at s k) refl (down s k (fit k h) refl) (sym (sort_is s k (fit k h)) ∙ e)
    where
      go : (ih : (x : ℕ) → Suits s k sequence x → Sequences x) → (v : Node) → node_at s k ≡ v → Formed (Suits s k) v → sort_of v ≡ sequence → Sequences k
      go ih (Sequence (Letter x)) q f z = (_, s_one q (bool k h x f).1)
      go ih (Sequence (Then x y)) q f z = (_, s_cat q (ih x f.0).1 (ih y f.1).1)
      go ih (Sequence (Fused x y)) q f z = (_, s_fuse q (ih x f.0).1 (ih y f.1).1)
      go ih (Sequence (Either x y)) q f z = (_, s_alt q (ih x f.0).1 (ih y f.1).1)
      go ih (Sequence (Empty x)) q f z = (_, s_empty q (ih x f).1)
      go ih (Sequence (Repeat x)) q f z = (_, s_plus q (ih x f).1)
      go ih (Sequence (Clocked c x)) q f z = (_, s_clock q (bool k h c f.0).1 (ih x f.1).1)
      go ih (Sequence (Derived (Repeated x i j))) q f z = (_, s_repeated q (ih x f).1)
      go ih (Sequence (Derived (Delayed x y i j))) q f z = (_, s_delayed q (ih x f.0).1 (ih y f.1).1)
      go ih (Sequence (Derived (Goto x i))) q f z = (_, s_goto q (bool k h x f).1)
      go ih (Sequence (Derived (Nonconsecutive x i))) q f z = (_, s_nonconsecutive q (bool k h x f).1)
      go ih (Boolean o) q f z = absurd (let w : ⊥ = omega arith in w)
      go ih (Property o) q f z = absurd (let w : ⊥ = omega arith in w)

  pub property_in : (m k : ℕ) → k < m → k < n → sort_at s k ≡ property → Properties k
  property_in zero k l h e = absurd (not-suc-le-zero l)
  property_in (suc m) k l h e =
      go (λ x f. property_in m x (omega arith) (omega arith) f.1) (node_at s k) refl (down s k (fit k h) refl) (sym (sort_is s k (fit k h)) ∙ e)
    where
      seq : (x : ℕ) → Suits s k sequence x → Sequences x
      seq x f = sequence_in n x (omega arith) (omega arith) f.1

      go : (ih : (x : ℕ) → Suits s k property x → Properties x) → (v : Node) → node_at s k ≡ v → Formed (Suits s k) v → sort_of v ≡ property → Properties k
      go ih (Property (Strong x)) q f z = (_, p_strong q (seq x f).1)
      go ih (Property (Weak x)) q f z = (_, p_weak q (seq x f).1)
      go ih (Property (Negated x)) q f z = (_, p_neg q (ih x f).1)
      go ih (Property (AnyOf x y)) q f z = (_, p_either q (ih x f.0).1 (ih y f.1).1)
      go ih (Property (BothOf x y)) q f z = (_, p_both q (ih x f.0).1 (ih y f.1).1)
      go ih (Property (Implies x y)) q f z = (_, p_imp q (seq x f.0).1 (ih y f.1).1)
      go ih (Property (Next x)) q f z = (_, p_next q (ih x f).1)
      go ih (Property (Until x y)) q f z = (_, p_until q (ih x f.0).1 (ih y f.1).1)
      go ih (Property (Ticked c x)) q f z = (_, p_clock q (bool k h c f.0).1 (ih x f.1).1)
      go ih (Property (Defined (ImpliesNext x y))) q f z = (_, p_implies_next q (seq x f.0).1 (ih y f.1).1)
      go ih (Property (Defined (Followed x y))) q f z = (_, p_followed q (seq x f.0).1 (ih y f.1).1)
      go ih (Property (Defined (FollowedNext x y))) q f z = (_, p_followed_next q (seq x f.0).1 (ih y f.1).1)
      go ih (Property (Defined (Always x))) q f z = (_, p_always q (ih x f).1)
      go ih (Property (Defined (Eventually x))) q f z = (_, p_eventually q (ih x f).1)
      go ih (Property (Defined (StrongUntil x y))) q f z = (_, p_strong_until q (ih x f.0).1 (ih y f.1).1)
      go ih (Property (Defined (StrongNext x))) q f z = (_, p_strong_next q (ih x f).1)
      go ih (Boolean o) q f z = absurd (let w : ⊥ = omega arith in w)
      go ih (Sequence o) q f z = absurd (let w : ⊥ = omega arith in w)

-- a clock whose condition is a boolean node stands for a clock
pub clock_in : (s : List ℕ) → Built s → (ρ : Ref) → OnBoolean s ρ → (κ : Clock Atom) × ClockAt (node_at s) ρ κ
clock_in s ok free_r o = (free, c_free)
clock_in s ok (on_r c) (l, e) = let (b, d) = boolean_in s (count s) ok.fit (count s) c l l e in (on b, c_on d)
