-- The block of each derived operator stands for the tree that defines it. Assumes nothing.
use native.Mathlib.Omega.{arith}
use mathlib.Core.Path.{◌≡◌}
use mathlib.Core.Bool.{Bool, true, false, cond}
use mathlib.Core.List.{List}
use Prim.Native.Nat.{ℕ, zero, suc}
use lib.Dec.{ltb}
use Rattle.meaning.specs.Syntax.{Bexp, const, nott, Seq, one, Prop}
use Rattle.meaning.specs.Pairs.{Atom}
use Rattle.derived.specs.Derived as tree
use Rattle.expansion.specs.Forms.{Form, byte}
use Rattle.expansion.specs.Blocks as form
use Rattle.expansion.proofs.Standing.{StandsB, StandsS, StandsP, stands_one, stands_cat, stands_fuse, stands_alt, stands_empty, stands_plus, stands_weak, stands_neg, stands_both, stands_implies, stands_next, stands_until}

module _ (B : ℕ → Type 0) (t : List ℕ) where
  abbrev BB : Form → Bexp Atom → Type 0
  BB = StandsB B t

  abbrev SS : Form → Seq Atom → Type 0
  SS = StandsS B t

  abbrev PP : Form → Prop Atom → Type 0
  PP = StandsP B t

  letter : {c : ℕ} {b : Bexp Atom} → BB (byte c) b → SS (form.letter c) (one b)
  letter z = stands_one B t z

  -- ---- sequences

  times : {x : Form} {r : Seq Atom} → SS x r → (m : ℕ) → SS (form.times x m) (tree.times r m)
  unfolding form.times tree.times
  times p zero = stands_empty B t p
  times p (suc m) = stands_cat B t (times p m) p

  -- where both take the same test
  pick : {x y : Form} {r q : Seq Atom} (b : Bool) → SS x r → SS y q → SS (cond b x y) (cond b r q)
  pick true p q = p
  pick false p q = q

  pub stands_range : {x : Form} {r : Seq Atom} → SS x r → (m n : ℕ) → SS (form.range x m n) (tree.range r m n)
  unfolding form.range tree.range
  stands_range p m zero = times p m
  stands_range p m (suc n) = pick (ltb m (suc n)) (stands_alt B t (stands_range p m n) (times p (suc n))) (times p m)

  any : {x : Form} {r : Seq Atom} → SS x r → SS (form.any x) (tree.any r)
  any p = stands_alt B t (stands_empty B t p) (stands_plus B t p)

  later : {c : ℕ} {x y : Form} {r q : Seq Atom} → BB (byte c) (const true) → SS x r → SS y q → (m n : ℕ) → SS (form.later c x y m n) (tree.later r q m n)
  later z p q m n = stands_cat B t (stands_cat B t p (stands_range (letter z) m n)) q

  -- with n = 0 there is no boolean to make
  pub stands_delay : {c : ℕ} {x y : Form} {r q : Seq Atom} → SS x r → SS y q → (m n : ℕ) → (¬ (n ≡ 0) → BB (byte c) (const true))
      → SS (form.delay c x y m n) (tree.delay r q m n)
  unfolding form.delay tree.delay
  stands_delay p q m zero z = stands_fuse B t p q
  stands_delay p q zero (suc n) z = stands_alt B t (stands_fuse B t p q) (later (z (λ e. omega arith)) p q zero n)
  stands_delay p q (suc m) (suc n) z = later (z (λ e. omega arith)) p q m n

  pub stands_goto : {c v : ℕ} {b : Bexp Atom} → BB (byte c) (nott b) → BB (byte v) b → (m : ℕ) → SS (form.goto c v m) (tree.goto b m)
  stands_goto z w m = times (stands_cat B t (any (letter z)) (letter w)) m

  pub stands_nonconsecutive : {c v : ℕ} {b : Bexp Atom} → BB (byte c) (nott b) → BB (byte v) b → (m : ℕ) → SS (form.nonconsecutive c v m) (tree.nonconsecutive b m)
  stands_nonconsecutive z w m = stands_cat B t (stands_goto z w m) (any (letter z))

  -- ---- properties

  pub stands_implies_next : {c : ℕ} {x y : Form} {r : Seq Atom} {P : Prop Atom} → BB (byte c) (const true) → SS x r → PP y P
      → PP (form.implies_next c x y) (tree.implies_next r P)
  stands_implies_next z p q = stands_implies B t (stands_cat B t p (letter z)) q

  pub stands_followed : {x y : Form} {r : Seq Atom} {P : Prop Atom} → SS x r → PP y P → PP (form.followed x y) (tree.followed r P)
  stands_followed p q = stands_neg B t (stands_implies B t p (stands_neg B t q))

  pub stands_followed_next : {c : ℕ} {x y : Form} {r : Seq Atom} {P : Prop Atom} → BB (byte c) (const true) → SS x r → PP y P
      → PP (form.followed_next c x y) (tree.followed_next r P)
  stands_followed_next z p q = stands_neg B t (stands_implies_next z p (stands_neg B t q))

  pub stands_always : {c : ℕ} {x : Form} {P : Prop Atom} → BB (byte c) (const false) → PP x P → PP (form.always c x) (tree.always P)
  stands_always z p = stands_until B t p (stands_weak B t (letter z))

  pub stands_eventually : {c : ℕ} {x : Form} {P : Prop Atom} → BB (byte c) (const false) → PP x P → PP (form.eventually c x) (tree.eventually P)
  stands_eventually z p = stands_neg B t (stands_always z (stands_neg B t p))

  pub stands_strong_until : {c : ℕ} {x y : Form} {P Q : Prop Atom} → BB (byte c) (const false) → PP x P → PP y Q
      → PP (form.strong_until c x y) (tree.strong_until P Q)
  stands_strong_until z p q = stands_both B t (stands_until B t p q) (stands_eventually z q)

  pub stands_strong_next : {x : Form} {P : Prop Atom} → PP x P → PP (form.strong_next x) (tree.strong_next P)
  stands_strong_next p = stands_neg B t (stands_next B t (stands_neg B t p))
