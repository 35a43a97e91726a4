-- The nodes of a form are well formed, wherever it lies in a version 2 table above the booleans. Assumes nothing.
use native.Mathlib.Omega.{arith}
use mathlib.Core.Path.{◌≡◌, refl, ◌∙◌, ap}
use mathlib.Core.Logic.{⊎_elim}
use mathlib.Core.List.{List}
use Prim.Native.Nat.{ℕ, ◌+◌, ◌<◌, ◌≤◌}
use lib.Dec.{T}
use Rattle.telling.proofs.Telling.{is_and, is_le, is_lt, side}
use Rattle.refusal.specs.Heading.{version}
use Rattle.nodes.specs.Operators.{Row}
use Rattle.nodes.specs.declared.Raw.{Raw}
use Rattle.nodes.specs.Operators.{none, sequence, base, row_of}
use Rattle.nodes.specs.Nodes.{raw_at, sort_at, Operand, KnownIn, WellFormed}
use Rattle.nodes.proofs.Fits.{right_fit, zero_fourth, lower, number}
use Rattle.expansion.specs.Forms.{Form, size, named, written}
use Rattle.expansion.proofs.Lying.{Lies, lies_x, lies_y, lies_top}
use Rattle.expansion.proofs.Standing.{heavy, First, Typed, typed_none, typed_boolean, typed_node}

-- what the row of a form's node says
pub heavy_row : (r : Row) → T (heavy r) → ((sequence ≤ r.own) × (none < r.x)) × KnownIn r base
heavy_row r h = (is_and (is_and (is_le sequence r.own) (is_lt none r.x)) (is_and (is_le r.first base) (is_le base r.last))).to h

-- ---- the nodes of a form

-- t is of version 2, and its first n nodes are booleans
module _ (t : List ℕ) (two : version t ≡ base) (n : ℕ) where
  -- a form that lies below node q is right as its operand
  pub operand : {sort : ℕ} {f : Form} → Typed (First t n) sort f → (at q limit : ℕ) → Lies t at (written at f) → n ≤ q → at + size f ≤ q → (sort ≡ none → 0 < limit)
      → Operand t q sort limit (named at f)
  unfolding size named sort_at
  operand typed_none at q limit l h b z = number t q (z refl)
  operand (typed_boolean p) at q limit l h b z = lower t q limit (λ e. omega arith) (omega arith, p.1)
  operand (typed_node {op} {x} {y} g p r) at q limit l h b z =
      let (o, k) = heavy_row (row_of op) g in
      lower t q limit (λ e. omega arith) (omega arith, ap (λ (r : Raw). (row_of r.op).own) (lies_top t at op x y l))

  pub form_fit : {sort : ℕ} {f : Form} → Typed (First t n) sort f → (at : ℕ) → Lies t at (written at f) → n ≤ at → (q : ℕ) → at ≤ q → q < at + size f → WellFormed t q
  unfolding size named
  form_fit typed_none at l h q a b = absurd (let z : ⊥ = omega arith in z)
  form_fit (typed_boolean p) at l h q a b = absurd (let z : ⊥ = omega arith in z)
  form_fit (typed_node {op} {x} {y} g p r) at l h q a b =
      ⊎_elim (λ (u : q < at + size x). form_fit p at (lies_x t at op x y l) h q a u)
      (λ (u : at + size x ≤ q).
      ⊎_elim (λ (v : q < at + size x + size y). form_fit r (at + size x) (lies_y t at op x y l) (omega arith) q u v)
      (λ (v : at + size x + size y ≤ q).
      let e : q ≡ at + (size x + size y) = omega arith in
      let ((o, k), (first, last)) = heavy_row (row_of op) g in
      right_fit t q (ap (raw_at t) e ∙ lies_top t at op x y l)
      (record {
        known = λ z. omega arith;
        in_version = (omega arith, omega arith);
        x = operand p at q _ (lies_x t at op x y l) (omega arith) (omega arith) (λ z. omega arith);
        y = operand r (at + size x) q 1 (lies_y t at op x y l) (omega arith) (omega arith) (λ z. omega arith);
        fourth = zero_fourth _;
      }))
      (side q (at + size x + size y)))
      (side q (at + size x))
