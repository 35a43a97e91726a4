-- Nodes that lie in a table from a number on, and the parts of a form that lies there. Assumes nothing.
use native.Mathlib.Omega.{arith}
use mathlib.Core.Path.{◌≡◌, refl, ◌∙◌, ap, subst}
use mathlib.Core.List.{List, [], ◌∷◌, ◌++◌}
use Prim.Native.Nat.{ℕ, ◌+◌, ◌<◌}
use lib.ListN.{length, get_or, length-append, get_or-append}
use lib.Seq.{get_or-append_seam, get_or-append-add}
use Rattle.nodes.specs.declared.Raw.{Raw}
use Rattle.nodes.specs.Operators.{bytes}
use Rattle.nodes.specs.Nodes.{raw_at}
use Rattle.encoding.specs.Encoding.{blank}
use Rattle.expansion.specs.Forms.{Form, byte, node, size, named, written}

pub length-written : (f : Form) (at : ℕ) → length (written at f) ≡ size f
unfolding size written
length-written (byte v) at = refl
length-written (node op x y) at =
    let a = length-written x at in
    let b = length-written y (at + size x) in
    let c = length-append (written at x) (written (at + size x) y) in
    let d = length-append (written at x ++ written (at + size x) y) (bytes op (named at x) (named (at + size x) y) ∷ []) in
    omega arith

-- the table t has the nodes us from number `at` on
abbrev pub Lies : List ℕ → ℕ → List Raw → Type 0
Lies t at us = (i : ℕ) → i < length us → raw_at t (at + i) ≡ get_or us i blank

module _ (t : List ℕ) where
  pub lies_left : (at : ℕ) (us vs : List Raw) → Lies t at (us ++ vs) → Lies t at us
  lies_left at us vs h i l = let e = length-append us vs in h i (omega arith) ∙ get_or-append us vs blank i l

  pub lies_right : (at : ℕ) (us vs : List Raw) → Lies t at (us ++ vs) → Lies t (at + length us) vs
  lies_right at us vs h i l =
      let e = length-append us vs in
      let p : at + length us + i ≡ at + (length us + i) = omega arith in
      ap (raw_at t) p ∙ h (length us + i) (omega arith) ∙ get_or-append-add us vs i blank

  -- ---- a form over two operands

  module _ (at op : ℕ) (x y : Form) (h : Lies t at (written at (node op x y))) where
    both : Lies t at (written at x ++ written (at + size x) y)
    unfolding written
    both = lies_left at (written at x ++ written (at + size x) y) _ h

    pub lies_x : Lies t at (written at x)
    lies_x = lies_left at (written at x) (written (at + size x) y) both

    pub lies_y : Lies t (at + size x) (written (at + size x) y)
    lies_y = subst (λ (n : ℕ). Lies t (at + n) (written (at + size x) y)) (length-written x at) (lies_right at (written at x) (written (at + size x) y) both)

    -- its own node comes last
    pub lies_top : raw_at t (named at (node op x y)) ≡ bytes op (named at x) (named (at + size x) y)
    unfolding named written
    lies_top =
        let us = written at x ++ written (at + size x) y in
        let v = bytes op (named at x) (named (at + size x) y) in
        let a = length-written x at in
        let b = length-written y (at + size x) in
        let c = length-append (written at x) (written (at + size x) y) in
        let d = length-append us (v ∷ []) in
        let e : at + (size x + size y) ≡ at + length us = omega arith in
        ap (raw_at t) e ∙ h (length us) (omega arith) ∙ get_or-append_seam us v [] blank
