-- The form of a node by the forms of its operands. Assumes nothing.
use native.Mathlib.Omega.{arith}
use native.Mathlib.Nat.{eq-or-lt_of_le, not-suc-le-zero, le_of_suc-le-suc}
use borrow.Author.Tests.{eqb-false, eq-eqb, ne_eqb}
use mathlib.Core.Path.{◌≡◌, refl, ◌∙◌, sym, ap}
use mathlib.Core.Logic.{⊎_elim}
use mathlib.Core.Bool.{Bool, true, false, cond}
use mathlib.Core.List.{List, map}
use Prim.Native.Nat.{ℕ, zero, suc, ◌<◌}
use lib.Dec.{eqb}
use Rattle.nodes.specs.Operators.{Row}
use Rattle.nodes.specs.declared.Raw.{Raw}
use Rattle.nodes.specs.declared.Node.{Node}
use Rattle.nodes.specs.declared.Node.TheVariants.{Boolean}
use Rattle.nodes.specs.declared.BooleanOp.TheVariants.{Constant}
use Rattle.nodes.specs.Operators.{none, operators, lookup, row_of, node_of, bytes_with}
use Rattle.nodes.specs.Nodes.{raw_at, sort_at, node_at, WellFormed}
use Rattle.nodes.proofs.Lookup.{of_lookup, same_line, coded_line}
use Rattle.expansion.specs.Forms.{Form, byte}
use Rattle.expansion.specs.Booleans.{number_of}
use Rattle.expansion.specs.Nodes.{node_form, forms_below, form_of}

-- ---- a node's form depends on the forms of its operands alone

-- the form of an operand of the sort
masked : ℕ → Form → Form
masked sort f = cond (eqb sort none) (byte 0) f

-- the first of two, or the second
either : Form → Form → ℕ → Form
either f g zero = f
either f g (suc k) = g

module _ (ν : ℕ → ℕ) (c : ℕ) where
  -- the form of the node with the bytes n, where f is that of x and g that of y, and r its row
  abbrev over : Raw → Form → Form → ℕ → Row → Form
  over n f g op r = node_form (λ _. ν n.x) (either (masked r.x f) (masked r.y g)) c (node_of (bytes_with op 0 1 n.fourth))

  -- antt computes the two for all lines at once
  all_over : (F : ℕ → Form) (n : Raw)
      → map (λ e. node_form ν F c (e.make n.x n.y n.fourth)) operators ≡ map (λ e. over n (F n.x) (F n.y) e.code e.row) operators
  unfolding operators lookup node_of node_form masked either
  all_over F n = refl

  is_over : (F : ℕ → Form) (n : Raw) → ¬ ((row_of n.op).own ≡ none) → node_form ν F c (node_of n) ≡ over n (F n.x) (F n.y) n.op (row_of n.op)
  unfolding node_of
  is_over F n k =
      of_lookup (node_form ν F c) (λ e. e.make n.x n.y n.fourth) (Boolean (Constant 0)) operators n.op
      ∙ same_line (λ e. node_form ν F c (e.make n.x n.y n.fourth)) (λ e. over n (F n.x) (F n.y) e.code e.row) _ (byte 0) (all_over F n) n.op k
      ∙ coded_line (over n (F n.x) (F n.y)) (byte 0) n.op k

  -- so forms that agree on the operands of a well-formed node make the same of it
  same_form : (s : List ℕ) (k : ℕ) → WellFormed s k → (F G : ℕ → Form) → ((x : ℕ) → x < k → F x ≡ G x) → node_form ν F c (node_at s k) ≡ node_form ν G c (node_at s k)
  unfolding sort_at masked
  same_form s k w F G h =
      let n = raw_at s k in
      let r = row_of n.op in
      let same : (sort v : ℕ) → (¬ (sort ≡ none) → v < k) → masked sort (F v) ≡ masked sort (G v) = λ sort v l. agree sort v (eqb sort none) refl l in
      is_over F n w.known
      ∙ (λ i. node_form (λ _. ν n.x) (either (same r.x n.x w.x.below i) (same r.y n.y w.y.below i)) c (node_of (bytes_with n.op 0 1 n.fourth)))
      ∙ sym (is_over G n w.known)
    where
      agree : (sort v : ℕ) (b : Bool) → eqb sort none ≡ b → (¬ (sort ≡ none) → v < k) → cond b (byte 0) (F v) ≡ cond b (byte 0) (G v)
      agree sort v true e l = refl
      agree sort v false e l = h v (l (eqb-false sort none e))

-- ---- the forms of the nodes

module _ (s : List ℕ) where
  form_below : (n k : ℕ) → k < n → forms_below s n k ≡ form_of s k
  unfolding forms_below form_of
  form_below zero k h = absurd (not-suc-le-zero h)
  form_below (suc n) k h =
      ⊎_elim (λ (e : k ≡ n). ap (λ (m : ℕ). forms_below s (suc m) k) (sym e))
      (λ (l : k < n). rw (ne_eqb k n (λ e. omega arith)) (form_below n k l))
      (eq-or-lt_of_le (le_of_suc-le-suc h))

  form_here : (k : ℕ) → form_of s k ≡ node_form (number_of s) (forms_below s k) (number_of s k) (node_at s k)
  unfolding forms_below form_of
  form_here k = rw (eq-eqb k k refl)

  -- the form of a node by those of its operands, its number and theirs
  pub form_step : (k : ℕ) → WellFormed s k → form_of s k ≡ node_form (number_of s) (form_of s) (number_of s k) (node_at s k)
  form_step k w = form_here k ∙ same_form (number_of s) (number_of s k) s k w (forms_below s k) (form_of s) (form_below k)

  -- and that of a node whose kind is known
  pub form_as : (k : ℕ) → WellFormed s k → {v : Node} → node_at s k ≡ v → form_of s k ≡ node_form (number_of s) (form_of s) (number_of s k) v
  form_as k w e = form_step k w ∙ ap (node_form (number_of s) (form_of s) (number_of s k)) e
