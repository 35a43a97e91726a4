-- In a table of version 1 no node reads the sample before: the tree of each node is one of signals alone. Assumes nothing.
use native.Mathlib.Omega.{arith}
use mathlib.Core.Path.{◌≡◌, refl, ◌∙◌, ap, ap₂, subst}
use mathlib.Core.List.{List}
use Prim.Native.Nat.{ℕ, ◌<◌, ◌≤◌}
use Rattle.refusal.specs.Heading.{version}
use Rattle.meaning.specs.Syntax.{Bexp, const, atom, nott, andd, orr, Seq, one, cat, fuse, alt, empty, plus, clocked, Prop, strong, weak, neg, either, both, implies, next, until, under}
use Rattle.meaning.specs.Pairs.{Atom}
use Rattle.meaning.specs.Renaming.{rename_b, rename_s, rename_p, signals_b, signals_s, signals_p}
use Rattle.nodes.specs.declared.Raw.{Raw}
use Rattle.nodes.specs.declared.Node.{Node}
use Rattle.nodes.specs.declared.Node.TheVariants.{Boolean}
use Rattle.nodes.specs.declared.BooleanOp.TheVariants.{Risen, Fallen}
use Rattle.nodes.specs.Operators.{operators, lookup, row_of, bytes_of, boolean_bytes}
use Rattle.nodes.specs.Nodes.{node_at, WellFormed}
use Rattle.nodes.proofs.Coded.{coded_as}
use Rattle.nodes.proofs.Based.{not_derived, not_defined}
use Rattle.nodes.proofs.Shapes.{Suits, down}
use Rattle.table.specs.Trees.{BooleanAt, b_const, b_sig, b_risen, b_fallen, b_not, b_and, b_or, SequenceAt, s_one, s_cat, s_fuse, s_alt, s_empty, s_plus, s_clock, s_repeated, s_delayed, s_goto, s_nonconsecutive, PropertyAt, p_strong, p_weak, p_neg, p_either, p_both, p_imp, p_next, p_until, p_clock, p_implies_next, p_followed, p_followed_next, p_always, p_eventually, p_strong_until, p_strong_next}

-- t is what f makes of some tree
abbrev Made : {X Y : Type 0} → (X → Y) → Y → Type 0
Made {X} f t = (d : X) × (t ≡ f d)

-- so is a node over one such tree, over two, where h goes over the node
module _ {X Y : Type 0} {f : X → Y} {A B : Type 0} (h : A → B) where
  over : (c : X → A) (c' : Y → B) → ((x : X) → c' (f x) ≡ h (c x)) → {t : Y} → Made f t → Made h (c' t)
  over c c' e (x, q) = (c x, ap c' q ∙ e x)

  over_two : {P Q : Type 0} {g : P → Q} (c : X → P → A) (c' : Y → Q → B) → ((x : X) (p : P) → c' (f x) (g p) ≡ h (c x p)) → {t : Y} {u : Q}
      → Made f t → Made g u → Made h (c' t u)
  over_two c c' e (x, q) (p, r) = (c x p, ap₂ c' q r ∙ e x p)

-- the first n nodes of a version 1 table are well formed
module _ (s : List ℕ) (n : ℕ) (fit : (k : ℕ) → k < n → WellFormed s k) (first : version s ≡ 1) where
  -- an operator is known in version 1
  early : {k : ℕ} {v : Node} → k < n → node_at s k ≡ v → (row_of (bytes_of v).op).first ≤ 1
  early {k} h e =
      let l = (fit k h).in_version.0 in
      subst (λ (r : Raw). (row_of r.op).first ≤ 1) (coded_as s k (fit k h) e) (omega arith)

  no_risen : {k x : ℕ} → k < n → ¬ (node_at s k ≡ Boolean (Risen x))
  unfolding row_of lookup operators bytes_of boolean_bytes
  no_risen h e = let l = early h e in omega arith

  no_fallen : {k x : ℕ} → k < n → ¬ (node_at s k ≡ Boolean (Fallen x))
  unfolding row_of lookup operators bytes_of boolean_bytes
  no_fallen h e = let l = early h e in omega arith

  old : version s ≤ 2
  old = let e = first in omega arith

  -- an operand is one of the nodes too
  below : {k x sort : ℕ} → k < n → Suits s k sort x → x < n
  below h f = let l = f.0 in omega arith

  pub signals_boolean : {k : ℕ} {b : Bexp Atom} → BooleanAt (node_at s) k b → k < n → (d : Bexp ℕ) × (b ≡ signals_b d)
  unfolding rename_b
  signals_boolean (b_const e) h = (const _, refl)
  signals_boolean (b_sig e) h = (atom _, refl)
  signals_boolean (b_risen e) h = absurd (no_risen h e)
  signals_boolean (b_fallen e) h = absurd (no_fallen h e)
  signals_boolean {k} (b_not e p) h = let f = down s k (fit k h) e in over signals_b nott nott (λ a. refl) (signals_boolean p (below h f))
  signals_boolean {k} (b_and e p q) h =
      let (f, g) = down s k (fit k h) e in over_two signals_b andd andd (λ a b. refl) (signals_boolean p (below h f)) (signals_boolean q (below h g))
  signals_boolean {k} (b_or e p q) h =
      let (f, g) = down s k (fit k h) e in over_two signals_b orr orr (λ a b. refl) (signals_boolean p (below h f)) (signals_boolean q (below h g))

  pub signals_sequence : {k : ℕ} {r : Seq Atom} → SequenceAt (node_at s) k r → k < n → (q : Seq ℕ) × (r ≡ signals_s q)
  unfolding rename_s
  signals_sequence {k} (s_one e p) h = let f = down s k (fit k h) e in over signals_s one one (λ a. refl) (signals_boolean p (below h f))
  signals_sequence {k} (s_cat e p q) h =
      let (f, g) = down s k (fit k h) e in over_two signals_s cat cat (λ a b. refl) (signals_sequence p (below h f)) (signals_sequence q (below h g))
  signals_sequence {k} (s_fuse e p q) h =
      let (f, g) = down s k (fit k h) e in over_two signals_s fuse fuse (λ a b. refl) (signals_sequence p (below h f)) (signals_sequence q (below h g))
  signals_sequence {k} (s_alt e p q) h =
      let (f, g) = down s k (fit k h) e in over_two signals_s alt alt (λ a b. refl) (signals_sequence p (below h f)) (signals_sequence q (below h g))
  signals_sequence {k} (s_empty e p) h = let f = down s k (fit k h) e in over signals_s empty empty (λ a. refl) (signals_sequence p (below h f))
  signals_sequence {k} (s_plus e p) h = let f = down s k (fit k h) e in over signals_s plus plus (λ a. refl) (signals_sequence p (below h f))
  signals_sequence {k} (s_clock e p q) h =
      let (f, g) = down s k (fit k h) e in over_two signals_s clocked clocked (λ a b. refl) (signals_boolean p (below h f)) (signals_sequence q (below h g))
  signals_sequence {k} (s_repeated e p) h = absurd (not_derived s k (fit k h) old e)
  signals_sequence {k} (s_delayed e p q) h = absurd (not_derived s k (fit k h) old e)
  signals_sequence {k} (s_goto e p) h = absurd (not_derived s k (fit k h) old e)
  signals_sequence {k} (s_nonconsecutive e p) h = absurd (not_derived s k (fit k h) old e)

  pub signals_property : {k : ℕ} {P : Prop Atom} → PropertyAt (node_at s) k P → k < n → (Q : Prop ℕ) × (P ≡ signals_p Q)
  unfolding rename_p
  signals_property {k} (p_strong e p) h = let f = down s k (fit k h) e in over signals_p strong strong (λ a. refl) (signals_sequence p (below h f))
  signals_property {k} (p_weak e p) h = let f = down s k (fit k h) e in over signals_p weak weak (λ a. refl) (signals_sequence p (below h f))
  signals_property {k} (p_neg e p) h = let f = down s k (fit k h) e in over signals_p neg neg (λ a. refl) (signals_property p (below h f))
  signals_property {k} (p_either e p q) h =
      let (f, g) = down s k (fit k h) e in over_two signals_p either either (λ a b. refl) (signals_property p (below h f)) (signals_property q (below h g))
  signals_property {k} (p_both e p q) h =
      let (f, g) = down s k (fit k h) e in over_two signals_p both both (λ a b. refl) (signals_property p (below h f)) (signals_property q (below h g))
  signals_property {k} (p_imp e p q) h =
      let (f, g) = down s k (fit k h) e in over_two signals_p implies implies (λ a b. refl) (signals_sequence p (below h f)) (signals_property q (below h g))
  signals_property {k} (p_next e p) h = let f = down s k (fit k h) e in over signals_p next next (λ a. refl) (signals_property p (below h f))
  signals_property {k} (p_until e p q) h =
      let (f, g) = down s k (fit k h) e in over_two signals_p until until (λ a b. refl) (signals_property p (below h f)) (signals_property q (below h g))
  signals_property {k} (p_clock e p q) h =
      let (f, g) = down s k (fit k h) e in over_two signals_p under under (λ a b. refl) (signals_boolean p (below h f)) (signals_property q (below h g))
  signals_property {k} (p_implies_next e p q) h = absurd (not_defined s k (fit k h) old e)
  signals_property {k} (p_followed e p q) h = absurd (not_defined s k (fit k h) old e)
  signals_property {k} (p_followed_next e p q) h = absurd (not_defined s k (fit k h) old e)
  signals_property {k} (p_always e p) h = absurd (not_defined s k (fit k h) old e)
  signals_property {k} (p_eventually e p) h = absurd (not_defined s k (fit k h) old e)
  signals_property {k} (p_strong_until e p q) h = absurd (not_defined s k (fit k h) old e)
  signals_property {k} (p_strong_next e p) h = absurd (not_defined s k (fit k h) old e)
