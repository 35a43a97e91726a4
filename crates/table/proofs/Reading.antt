-- A node stands for one tree: what a node's tree is made of, by the node, and that two trees of one node are the same.
-- Assumes nothing.
use mathlib.Core.Path.{◌≡◌, refl, sym, ap, subst, ◌∙◌}
use Prim.Native.Nat.{ℕ}
use lib.Dec.{eqb}
use Rattle.meaning.specs.Syntax.{Bexp, const, atom, nott, andd, orr, Seq, one, cat, fuse, alt, empty, plus, clocked, Prop, strong, weak, neg, either, both, implies, next, until, under, Clock, on}
use Rattle.derived.specs.Derived.{range, delay, goto, nonconsecutive, implies_next, followed, followed_next, always, eventually, strong_until, strong_next}
use Rattle.meaning.specs.Pairs.{Atom, high, risen, fallen}
use Rattle.nodes.specs.declared.Node.{Node}
use Rattle.nodes.specs.declared.Node.TheVariants.{Boolean, Sequence, Property}
use Rattle.nodes.specs.declared.BooleanOp.TheVariants.{Constant, Signal, Not, And, Or, Risen, Fallen}
use Rattle.nodes.specs.declared.SequenceOp.TheVariants.{Letter, Then, Fused, Either, Empty, Repeat, Clocked, Derived}
use Rattle.nodes.specs.declared.PropertyOp.TheVariants.{Strong, Weak, Negated, AnyOf, BothOf, Implies, Next, Until, Ticked, Defined}
use Rattle.nodes.specs.declared.DerivedSequence.TheVariants.{Repeated, Delayed, Goto, Nonconsecutive}
use Rattle.nodes.specs.declared.DerivedProperty.TheVariants.{ImpliesNext, Followed, FollowedNext, Always, Eventually, StrongUntil, StrongNext}
use Rattle.nodes.specs.NodeClock.{Ref}
use Rattle.table.specs.Trees.{BooleanAt, b_const, b_sig, b_risen, b_fallen, b_not, b_and, b_or, SequenceAt, s_one, s_cat, s_fuse, s_alt, s_empty, s_plus, s_clock, s_repeated, s_delayed, s_goto, s_nonconsecutive, PropertyAt, p_strong, p_weak, p_neg, p_either, p_both, p_imp, p_next, p_until, p_clock, p_implies_next, p_followed, p_followed_next, p_always, p_eventually, p_strong_until, p_strong_next, ClockAt, c_free, c_on}

-- t is the tree of such a node
module _ (T : ℕ → Node) where
  abbrev pub ReadB : Node → Bexp Atom → Type 0
  ReadB (Boolean (Constant v)) t = t ≡ const (eqb v 1)
  ReadB (Boolean (Signal x)) t = t ≡ atom (high x)
  ReadB (Boolean (Risen x)) t = t ≡ atom (risen x)
  ReadB (Boolean (Fallen x)) t = t ≡ atom (fallen x)
  ReadB (Boolean (Not x)) t = (b : Bexp Atom) × (t ≡ nott b) × BooleanAt T x b
  ReadB (Boolean (And x y)) t = (b : Bexp Atom) × (d : Bexp Atom) × (t ≡ andd b d) × BooleanAt T x b × BooleanAt T y d
  ReadB (Boolean (Or x y)) t = (b : Bexp Atom) × (d : Bexp Atom) × (t ≡ orr b d) × BooleanAt T x b × BooleanAt T y d
  ReadB (Sequence o) t = ⊥
  ReadB (Property o) t = ⊥

  abbrev pub ReadS : Node → Seq Atom → Type 0
  ReadS (Boolean o) t = ⊥
  ReadS (Sequence (Letter x)) t = (b : Bexp Atom) × (t ≡ one b) × BooleanAt T x b
  ReadS (Sequence (Empty x)) t = (r : Seq Atom) × (t ≡ empty r) × SequenceAt T x r
  ReadS (Sequence (Repeat x)) t = (r : Seq Atom) × (t ≡ plus r) × SequenceAt T x r
  ReadS (Sequence (Then x y)) t = (r : Seq Atom) × (s : Seq Atom) × (t ≡ cat r s) × SequenceAt T x r × SequenceAt T y s
  ReadS (Sequence (Fused x y)) t = (r : Seq Atom) × (s : Seq Atom) × (t ≡ fuse r s) × SequenceAt T x r × SequenceAt T y s
  ReadS (Sequence (Either x y)) t = (r : Seq Atom) × (s : Seq Atom) × (t ≡ alt r s) × SequenceAt T x r × SequenceAt T y s
  ReadS (Sequence (Clocked c x)) t = (b : Bexp Atom) × (r : Seq Atom) × (t ≡ clocked b r) × BooleanAt T c b × SequenceAt T x r
  ReadS (Sequence (Derived (Repeated x m n))) t = (r : Seq Atom) × (t ≡ range r m n) × SequenceAt T x r
  ReadS (Sequence (Derived (Delayed x y m n))) t = (r : Seq Atom) × (s : Seq Atom) × (t ≡ delay r s m n) × SequenceAt T x r × SequenceAt T y s
  ReadS (Sequence (Derived (Goto x m))) t = (b : Bexp Atom) × (t ≡ goto b m) × BooleanAt T x b
  ReadS (Sequence (Derived (Nonconsecutive x m))) t = (b : Bexp Atom) × (t ≡ nonconsecutive b m) × BooleanAt T x b
  ReadS (Property o) t = ⊥

  abbrev pub ReadP : Node → Prop Atom → Type 0
  ReadP (Boolean o) t = ⊥
  ReadP (Sequence o) t = ⊥
  ReadP (Property (Strong x)) t = (r : Seq Atom) × (t ≡ strong r) × SequenceAt T x r
  ReadP (Property (Weak x)) t = (r : Seq Atom) × (t ≡ weak r) × SequenceAt T x r
  ReadP (Property (Negated x)) t = (P : Prop Atom) × (t ≡ neg P) × PropertyAt T x P
  ReadP (Property (Next x)) t = (P : Prop Atom) × (t ≡ next P) × PropertyAt T x P
  ReadP (Property (AnyOf x y)) t = (P : Prop Atom) × (Q : Prop Atom) × (t ≡ either P Q) × PropertyAt T x P × PropertyAt T y Q
  ReadP (Property (BothOf x y)) t = (P : Prop Atom) × (Q : Prop Atom) × (t ≡ both P Q) × PropertyAt T x P × PropertyAt T y Q
  ReadP (Property (Implies x y)) t = (r : Seq Atom) × (P : Prop Atom) × (t ≡ implies r P) × SequenceAt T x r × PropertyAt T y P
  ReadP (Property (Until x y)) t = (P : Prop Atom) × (Q : Prop Atom) × (t ≡ until P Q) × PropertyAt T x P × PropertyAt T y Q
  ReadP (Property (Ticked c x)) t = (b : Bexp Atom) × (P : Prop Atom) × (t ≡ under b P) × BooleanAt T c b × PropertyAt T x P
  ReadP (Property (Defined (ImpliesNext x y))) t = (r : Seq Atom) × (P : Prop Atom) × (t ≡ implies_next r P) × SequenceAt T x r × PropertyAt T y P
  ReadP (Property (Defined (Followed x y))) t = (r : Seq Atom) × (P : Prop Atom) × (t ≡ followed r P) × SequenceAt T x r × PropertyAt T y P
  ReadP (Property (Defined (FollowedNext x y))) t = (r : Seq Atom) × (P : Prop Atom) × (t ≡ followed_next r P) × SequenceAt T x r × PropertyAt T y P
  ReadP (Property (Defined (Always x))) t = (P : Prop Atom) × (t ≡ always P) × PropertyAt T x P
  ReadP (Property (Defined (Eventually x))) t = (P : Prop Atom) × (t ≡ eventually P) × PropertyAt T x P
  ReadP (Property (Defined (StrongUntil x y))) t = (P : Prop Atom) × (Q : Prop Atom) × (t ≡ strong_until P Q) × PropertyAt T x P × PropertyAt T y Q
  ReadP (Property (Defined (StrongNext x))) t = (P : Prop Atom) × (t ≡ strong_next P) × PropertyAt T x P

along : {A : Type 0} (R : Node → A → Type 0) {w v : Node} {t : A} → w ≡ v → R v t → R w t
along R {t = t} e h = subst (λ v. R v t) (sym e) h

module _ {T : ℕ → Node} where
  pub read_b : {k : ℕ} {b : Bexp Atom} → BooleanAt T k b → ReadB T (T k) b
  read_b (b_const e) = along (ReadB T) e refl
  read_b (b_sig e) = along (ReadB T) e refl
  read_b (b_risen e) = along (ReadB T) e refl
  read_b (b_fallen e) = along (ReadB T) e refl
  read_b (b_not {b = b} e d) = along (ReadB T) e (b, refl, d)
  read_b (b_and {b = b} {d = d} e x y) = along (ReadB T) e (b, d, refl, x, y)
  read_b (b_or {b = b} {d = d} e x y) = along (ReadB T) e (b, d, refl, x, y)

  pub read_s : {k : ℕ} {r : Seq Atom} → SequenceAt T k r → ReadS T (T k) r
  read_s (s_one {b = b} e d) = along (ReadS T) e (b, refl, d)
  read_s (s_cat {r = r} {s = s} e x y) = along (ReadS T) e (r, s, refl, x, y)
  read_s (s_fuse {r = r} {s = s} e x y) = along (ReadS T) e (r, s, refl, x, y)
  read_s (s_alt {r = r} {s = s} e x y) = along (ReadS T) e (r, s, refl, x, y)
  read_s (s_empty {r = r} e x) = along (ReadS T) e (r, refl, x)
  read_s (s_plus {r = r} e x) = along (ReadS T) e (r, refl, x)
  read_s (s_clock {b = b} {r = r} e d x) = along (ReadS T) e (b, r, refl, d, x)
  read_s (s_repeated {r = r} e x) = along (ReadS T) e (r, refl, x)
  read_s (s_delayed {r = r} {s = s} e x y) = along (ReadS T) e (r, s, refl, x, y)
  read_s (s_goto {b = b} e d) = along (ReadS T) e (b, refl, d)
  read_s (s_nonconsecutive {b = b} e d) = along (ReadS T) e (b, refl, d)

  pub read_p : {k : ℕ} {P : Prop Atom} → PropertyAt T k P → ReadP T (T k) P
  read_p (p_strong {r = r} e x) = along (ReadP T) e (r, refl, x)
  read_p (p_weak {r = r} e x) = along (ReadP T) e (r, refl, x)
  read_p (p_neg {P = P} e x) = along (ReadP T) e (P, refl, x)
  read_p (p_next {P = P} e x) = along (ReadP T) e (P, refl, x)
  read_p (p_either {P = P} {Q = Q} e x y) = along (ReadP T) e (P, Q, refl, x, y)
  read_p (p_both {P = P} {Q = Q} e x y) = along (ReadP T) e (P, Q, refl, x, y)
  read_p (p_imp {r = r} {P = P} e x y) = along (ReadP T) e (r, P, refl, x, y)
  read_p (p_until {P = P} {Q = Q} e x y) = along (ReadP T) e (P, Q, refl, x, y)
  read_p (p_clock {b = b} {P = P} e d x) = along (ReadP T) e (b, P, refl, d, x)
  read_p (p_implies_next {r = r} {P = P} e x y) = along (ReadP T) e (r, P, refl, x, y)
  read_p (p_followed {r = r} {P = P} e x y) = along (ReadP T) e (r, P, refl, x, y)
  read_p (p_followed_next {r = r} {P = P} e x y) = along (ReadP T) e (r, P, refl, x, y)
  read_p (p_always {P = P} e x) = along (ReadP T) e (P, refl, x)
  read_p (p_eventually {P = P} e x) = along (ReadP T) e (P, refl, x)
  read_p (p_strong_until {P = P} {Q = Q} e x y) = along (ReadP T) e (P, Q, refl, x, y)
  read_p (p_strong_next {P = P} e x) = along (ReadP T) e (P, refl, x)

  -- a node whose kind is known
  pub as_b : {k : ℕ} {v : Node} {b : Bexp Atom} → T k ≡ v → BooleanAt T k b → ReadB T v b
  as_b {b = b} e d = subst (λ v. ReadB T v b) e (read_b d)

  pub as_s : {k : ℕ} {v : Node} {r : Seq Atom} → T k ≡ v → SequenceAt T k r → ReadS T v r
  as_s {r = r} e d = subst (λ v. ReadS T v r) e (read_s d)

  pub as_p : {k : ℕ} {v : Node} {P : Prop Atom} → T k ≡ v → PropertyAt T k P → ReadP T v P
  as_p {P = P} e d = subst (λ v. ReadP T v P) e (read_p d)

  pub unique_b : {k : ℕ} {b d : Bexp Atom} → BooleanAt T k b → BooleanAt T k d → b ≡ d
  unique_b (b_const e) z = sym (as_b e z)
  unique_b (b_sig e) z = sym (as_b e z)
  unique_b (b_risen e) z = sym (as_b e z)
  unique_b (b_fallen e) z = sym (as_b e z)
  unique_b (b_not e d) z = let (b, q, f) = as_b e z in ap nott (unique_b d f) ∙ sym q
  unique_b (b_and e x y) z = let (b, d, q, f, g) = as_b e z in (λ i. andd (unique_b x f i) (unique_b y g i)) ∙ sym q
  unique_b (b_or e x y) z = let (b, d, q, f, g) = as_b e z in (λ i. orr (unique_b x f i) (unique_b y g i)) ∙ sym q

  pub unique_s : {k : ℕ} {r s : Seq Atom} → SequenceAt T k r → SequenceAt T k s → r ≡ s
  unique_s (s_one e d) z = let (b, q, f) = as_s e z in ap one (unique_b d f) ∙ sym q
  unique_s (s_cat e x y) z = let (r, s, q, f, g) = as_s e z in (λ i. cat (unique_s x f i) (unique_s y g i)) ∙ sym q
  unique_s (s_fuse e x y) z = let (r, s, q, f, g) = as_s e z in (λ i. fuse (unique_s x f i) (unique_s y g i)) ∙ sym q
  unique_s (s_alt e x y) z = let (r, s, q, f, g) = as_s e z in (λ i. alt (unique_s x f i) (unique_s y g i)) ∙ sym q
  unique_s (s_empty e x) z = let (r, q, f) = as_s e z in ap empty (unique_s x f) ∙ sym q
  unique_s (s_plus e x) z = let (r, q, f) = as_s e z in ap plus (unique_s x f) ∙ sym q
  unique_s (s_clock e d x) z = let (b, r, q, f, g) = as_s e z in (λ i. clocked (unique_b d f i) (unique_s x g i)) ∙ sym q
  unique_s (s_repeated {m = m} {n = n} e x) z = let (r, q, f) = as_s e z in (λ i. range (unique_s x f i) m n) ∙ sym q
  unique_s (s_delayed {m = m} {n = n} e x y) z = let (r, s, q, f, g) = as_s e z in (λ i. delay (unique_s x f i) (unique_s y g i) m n) ∙ sym q
  unique_s (s_goto {m = m} e d) z = let (b, q, f) = as_s e z in (λ i. goto (unique_b d f i) m) ∙ sym q
  unique_s (s_nonconsecutive {m = m} e d) z = let (b, q, f) = as_s e z in (λ i. nonconsecutive (unique_b d f i) m) ∙ sym q

  pub unique_p : {k : ℕ} {P Q : Prop Atom} → PropertyAt T k P → PropertyAt T k Q → P ≡ Q
  unique_p (p_strong e x) z = let (r, q, f) = as_p e z in ap strong (unique_s x f) ∙ sym q
  unique_p (p_weak e x) z = let (r, q, f) = as_p e z in ap weak (unique_s x f) ∙ sym q
  unique_p (p_neg e x) z = let (P, q, f) = as_p e z in ap neg (unique_p x f) ∙ sym q
  unique_p (p_next e x) z = let (P, q, f) = as_p e z in ap next (unique_p x f) ∙ sym q
  unique_p (p_either e x y) z = let (P, Q, q, f, g) = as_p e z in (λ i. either (unique_p x f i) (unique_p y g i)) ∙ sym q
  unique_p (p_both e x y) z = let (P, Q, q, f, g) = as_p e z in (λ i. both (unique_p x f i) (unique_p y g i)) ∙ sym q
  unique_p (p_imp e x y) z = let (r, P, q, f, g) = as_p e z in (λ i. implies (unique_s x f i) (unique_p y g i)) ∙ sym q
  unique_p (p_until e x y) z = let (P, Q, q, f, g) = as_p e z in (λ i. until (unique_p x f i) (unique_p y g i)) ∙ sym q
  unique_p (p_clock e d x) z = let (b, P, q, f, g) = as_p e z in (λ i. under (unique_b d f i) (unique_p x g i)) ∙ sym q
  unique_p (p_implies_next e x y) z = let (r, P, q, f, g) = as_p e z in (λ i. implies_next (unique_s x f i) (unique_p y g i)) ∙ sym q
  unique_p (p_followed e x y) z = let (r, P, q, f, g) = as_p e z in (λ i. followed (unique_s x f i) (unique_p y g i)) ∙ sym q
  unique_p (p_followed_next e x y) z = let (r, P, q, f, g) = as_p e z in (λ i. followed_next (unique_s x f i) (unique_p y g i)) ∙ sym q
  unique_p (p_always e x) z = let (P, q, f) = as_p e z in ap always (unique_p x f) ∙ sym q
  unique_p (p_eventually e x) z = let (P, q, f) = as_p e z in ap eventually (unique_p x f) ∙ sym q
  unique_p (p_strong_until e x y) z = let (P, Q, q, f, g) = as_p e z in (λ i. strong_until (unique_p x f i) (unique_p y g i)) ∙ sym q
  unique_p (p_strong_next e x) z = let (P, q, f) = as_p e z in ap strong_next (unique_p x f) ∙ sym q

  -- and a number for one clock
  pub unique_c : {ρ : Ref} {κ μ : Clock Atom} → ClockAt T ρ κ → ClockAt T ρ μ → κ ≡ μ
  unique_c c_free c_free = refl
  unique_c (c_on b) (c_on d) = ap on (unique_b b d)
