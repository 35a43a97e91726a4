-- Counting operand places: each node of a form but its last stands in one operand place of the form's nodes, and no other node above the booleans
-- does. Assumes nothing.
use native.Mathlib.Omega.{arith}
use native.Mathlib.Nat.{add-zero}
use borrow.Author.Tests.{eqb-true, eqb-false, ne_eqb, lt-ltb, le-ltb}
use mathlib.Core.Path.{◌≡◌, refl, ◌∙◌, sym, ap}
use mathlib.Core.Logic.{⊎_elim}
use mathlib.Core.Bool.{Bool, true, false}
use mathlib.Core.List.{List}
use Prim.Native.Nat.{ℕ, suc, ◌+◌, ◌<◌, ◌≤◌}
use lib.Dec.{eqb, ltb}
use Rattle.telling.proofs.Telling.{side}
use Rattle.nodes.specs.declared.Raw.{Raw}
use Rattle.nodes.specs.Operators.{none, boolean, sequence, row_of}
use Rattle.nodes.specs.Nodes.{raw_at, hits_of, places_of, uses_of}
use Rattle.nodes.proofs.Placing.{ind, no_hit}
use Rattle.expansion.specs.Forms.{Form, size, named, written}
use Rattle.expansion.proofs.Lying.{Lies, lies_x, lies_y, lies_top}
use Rattle.expansion.proofs.Standing.{First, Typed, typed_none, typed_boolean, typed_node, typed_last}
use Rattle.expansion.proofs.Fitting.{heavy_row}

-- ---- one place

-- 1 where q is below n
abbrev below : ℕ → ℕ → ℕ
below n q = ind (ltb q n)

-- one more number is below where it is hit
below_more : (sort n q : ℕ) → ¬ (sort ≡ none) → below (suc n) q ≡ below n q + hits_of sort n q
unfolding hits_of
below_more sort n q h = rw (ne_eqb sort none h) (go (eqb n q) refl)
  where
    go : (b : Bool) → eqb n q ≡ b → below (suc n) q ≡ below n q + ind b
    go true e = let z = eqb-true n q e in rw (lt-ltb q (suc n) (omega arith), le-ltb q n (omega arith))
    go false e =
        let z = eqb-false n q e in
        ⊎_elim (λ (l : q < n). rw (lt-ltb q n l, lt-ltb q (suc n) (omega arith))) (λ (l : n ≤ q). rw (le-ltb q n l, le-ltb q (suc n) (omega arith))) (side q n)

-- ---- all places

module _ (t : List ℕ) (q : ℕ) where
  -- the booleans are the first n nodes, and q is none of them
  module _ (n : ℕ) (past : n ≤ q) where
    -- what a form adds, with its own place: its nodes that are q
    tally : {sort : ℕ} {f : Form} → Typed (First t n) sort f → (at : ℕ) → Lies t at (written at f)
        → uses_of t q (at + size f) + hits_of sort (named at f) q + below at q ≡ uses_of t q at + below (at + size f) q
    unfolding uses_of size named
    tally typed_none at l = let e = no_hit none 0 q (λ z. absurd (z refl)) in rw (add-zero at) (omega arith)
    tally (typed_boolean {v} p) at l = let e = no_hit boolean v q (λ z e. omega arith) in rw (add-zero at) (omega arith)
    tally (typed_node {op} {x} {y} g p r) at l =
        let a = tally p at (lies_x t at op x y l) in
        let b = tally r (at + size x) (lies_y t at op x y l) in
        let c = at + size x + size y in
        let next : at + (size x + size y + 1) ≡ suc c = omega arith in
        let last : at + (size x + size y) ≡ c = omega arith in
        let (o, k) = heavy_row (row_of op) g in
        let d = below_more (row_of op).own c q (λ z. omega arith) in
        let places : places_of t q c ≡ hits_of (row_of op).x (named at x) q + hits_of (row_of op).y (named (at + size x) y) q =
        ap (λ (r : Raw). hits_of (row_of r.op).x r.x q + hits_of (row_of r.op).y r.y q) (ap (raw_at t) (sym last) ∙ lies_top t at op x y l) in
        rw (next, last) (omega arith)

    -- so a node of a sequence's or a property's form, but the last, is in one place, if those before the form have it in none
    pub form_once : {sort : ℕ} {f : Form} → Typed (First t n) sort f → sequence ≤ sort → (at : ℕ) → Lies t at (written at f) → at ≤ q → suc q < at + size f
        → uses_of t q at ≡ 0 → uses_of t q (at + size f) ≡ 1
    form_once {sort} {f} p h at l a b z =
        let c = tally p at l in
        let d = typed_last p h at in
        let e = no_hit sort (named at f) q (λ _ y. omega arith) in
        let low : below at q ≡ 0 = rw (le-ltb q at a) in
        let high : below (at + size f) q ≡ 1 = rw (lt-ltb q (at + size f) (omega arith)) in
        omega arith
