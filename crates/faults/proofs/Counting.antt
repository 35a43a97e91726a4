-- Counting operand places in one pass: what a node's two places add to the counts. Assumes nothing.
use native.Mathlib.Omega.{arith}
use native.Mathlib.Numerals.{add-one}
use native.Mathlib.Nat.{add-zero}
use borrow.Author.Tests.{eqb-true, eqb-false, ltb-false, ne_eqb}
use mathlib.Core.Path.{◌≡◌, refl, ◌∙◌, sym, ap}
use mathlib.Core.Bool.{Bool, true, false, cond}
use mathlib.Core.List.{List}
use Prim.Native.Nat.{ℕ, ◌+◌, ◌*◌, ◌<◌, ◌≤◌}
use lib.Dec.{eqb, ltb}
use lib.ListN.{length, get_or, set, length-set, replicate}
use lib.Seq.{get_or-set_same, get_or-set_other}
use Rattle.telling.proofs.Filled.{filled}
use Rattle.nodes.specs.Operators.{Row}
use Rattle.nodes.specs.declared.Raw.{Raw}
use Rattle.nodes.specs.Operators.{none, row_of}
use Rattle.nodes.specs.Nodes.{raw_at, row_at, hits_of, uses_of}
use Rattle.nodes.specs.Computed.{named_by}
use Rattle.faults.specs.Computed.{slot_of, Counted}

-- one more at x
abbrev pub bump : List ℕ → ℕ → List ℕ
bump uses x = set uses x (get_or uses x 0 + 1)

get_or-bump : (uses : List ℕ) (x k : ℕ) → x < length uses → get_or (bump uses x) k 0 ≡ get_or uses k 0 + cond (eqb x k) 1 0
get_or-bump uses x k l = go (eqb x k) refl
  where
    go : (b : Bool) → eqb x k ≡ b → get_or (bump uses x) k 0 ≡ get_or uses k 0 + cond b 1 0
    go true e = rw (← eqb-true x k e) (get_or-set_same uses x (get_or uses x 0 + 1) 0 l)
    go false e = get_or-set_other uses x k (get_or uses x 0 + 1) 0 (λ z. eqb-false x k e (sym z)) ∙ sym (add-zero (get_or uses k 0))

pub bump_le : (uses : List ℕ) (x k : ℕ) → x < length uses → get_or (bump uses x) k 0 ≤ get_or uses k 0 + 1
bump_le uses x k l = go (eqb x k) (get_or-bump uses x k l)
  where
    go : (b : Bool) → get_or (bump uses x) k 0 ≡ get_or uses k 0 + cond b 1 0 → get_or (bump uses x) k 0 ≤ get_or uses k 0 + 1
    go true e = omega arith
    go false e = omega arith

-- a slot below 120 is hit, and nothing else is
slot_hits : (sort v k : ℕ) → k < 120 → ◌≡◌ {A = ℕ} (cond (eqb (slot_of sort v) k) 1 0) (hits_of sort v k)
unfolding slot_of named_by hits_of
slot_hits sort v k l = go (eqb sort none) (ltb v 120) refl
  where
    past : (v : ℕ) → 120 ≤ v → eqb v k ≡ false
    past v h = ne_eqb v k (λ z. omega arith)

    go : (a b : Bool) → ltb v 120 ≡ b → ◌≡◌ {A = ℕ} (cond (eqb (cond a 120 (cond b v 120)) k) 1 0) (cond a 0 (cond (eqb v k) 1 0))
    go true b e = rw (past 120 (omega arith))
    go false true e = refl
    go false false e = rw (past 120 (omega arith), past v (ltb-false v 120 e))

module _ (s : List ℕ) (j x y : ℕ) (uses : List ℕ) (long : length uses ≡ 121) (hx : x ≤ 120) (hy : y ≤ 120) where
  two : (k : ℕ) → get_or (bump (bump uses x) y) k 0 ≡ get_or uses k 0 + cond (eqb x k) 1 0 + cond (eqb y k) 1 0
  two k =
      let l : x < length uses = omega arith in
      let m : y < length (bump uses x) = simp length-set (omega arith) in
      get_or-bump (bump uses x) y k m ∙ ap (λ (n : ℕ). n + cond (eqb y k) 1 0) (get_or-bump uses x k l)

  -- the node's bytes are w, and its operator's row is r
  pub counted_more : Counted s j uses → (w : Raw) → w ≡ raw_at s j → (r : Row) → r ≡ row_of w.op → x ≡ slot_of r.x w.x → y ≡ slot_of r.y w.y
      → Counted s (j + 1) (bump (bump uses x) y)
  unfolding Counted uses_of
  counted_more c w ew r er ex ey k l =
      let h = slot_hits (row_at s j).x (raw_at s j).x k l in
      let g = slot_hits (row_at s j).y (raw_at s j).y k l in
      rw (add-one j, two k, c k l, ex, ey, er, ew, h, g) (omega arith)

  -- no count is over two for each node
  pub bounded_more : ((k : ℕ) → get_or uses k 0 ≤ 2 * j) → (k : ℕ) → get_or (bump (bump uses x) y) k 0 ≤ 2 * (j + 1)
  bounded_more b k = let h = b k in let e = two k in go (eqb x k) (eqb y k) e
    where
      go : (p q : Bool) → get_or (bump (bump uses x) y) k 0 ≡ get_or uses k 0 + cond p 1 0 + cond q 1 0 → get_or (bump (bump uses x) y) k 0 ≤ 2 * (j + 1)
      go true true e = let h = b k in omega arith
      go true false e = let h = b k in omega arith
      go false true e = let h = b k in omega arith
      go false false e = let h = b k in omega arith

pub nothing_counted : (s : List ℕ) → Counted s 0 (replicate 121 0)
unfolding Counted uses_of
nothing_counted s k l = filled 0 121 k

pub nothing-over : (k : ℕ) → get_or (replicate 121 0) k 0 ≤ 2 * 0
nothing-over k = omega (arith, filled {A = ℕ} 0 121 k)
