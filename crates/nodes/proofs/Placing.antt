-- Operand places: a node that stands in one has one node above it, of which it is a part. Assumes nothing.
use native.Mathlib.Omega.{arith}
use native.Mathlib.Nat.{eq-zero-or-pos, not-suc-le-zero, eq-or-lt_of_le, le_of_suc-le-suc}
use borrow.Author.Tests.{eqb-true, eqb-false, eq-eqb, ne_eqb}
use mathlib.Core.Path.{◌≡◌, refl, ◌∙◌, sym, ap, subst}
use mathlib.Core.Logic.{⊎_elim}
use mathlib.Core.Bool.{Bool, true, false, cond, ◌&&◌, ◌||◌}
use mathlib.Core.List.{List}
use Prim.Native.Nat.{ℕ, zero, suc, ◌+◌, ◌<◌, ◌≤◌}
use lib.Dec.{T, eqb, leb}
use Rattle.telling.proofs.Telling.{is_and, is_or, is_le, side}
use Rattle.nodes.specs.Operators.{Row}
use Rattle.nodes.specs.Operators.{none, sequence, property, operators, row_of}
use Rattle.nodes.specs.Nodes.{raw_at, row_at, sort_at, hits_of, places_of, uses_of, WellFormed}
use Rattle.nodes.specs.NodeClock.{Part, at_x, at_y}
use Rattle.nodes.proofs.Lookup.{row_passes}

-- 1 where the test passes
abbrev pub ind : Bool → ℕ
ind b = cond b 1 0

-- ---- a place that is hit holds the node

hit : (sort v k : ℕ) → 0 < hits_of sort v k → (¬ (sort ≡ none)) × (v ≡ k)
unfolding hits_of
hit sort v k h = go (eqb sort none) refl (eqb v k) refl h
  where
    go : (a : Bool) → eqb sort none ≡ a → (b : Bool) → eqb v k ≡ b → 0 < cond a 0 (cond b 1 0) → (¬ (sort ≡ none)) × (v ≡ k)
    go true p b q h = absurd (omega arith)
    go false p true q h = (eqb-false sort none p, eqb-true v k q)
    go false p false q h = absurd (omega arith)

pub no_hit : (sort v k : ℕ) → (¬ (sort ≡ none) → ¬ (v ≡ k)) → hits_of sort v k ≡ 0
no_hit sort v k h =
    ⊎_elim (λ (e : hits_of sort v k ≡ 0). e) (λ (l : 0 < hits_of sort v k). let (z, e) = hit sort v k l in absurd (h z e)) (eq-zero-or-pos (hits_of sort v k))

hits_one : (sort v : ℕ) → ¬ (sort ≡ none) → hits_of sort v v ≡ 1
unfolding hits_of
hits_one sort v h = rw (ne_eqb sort none h, eq-eqb v v refl)

-- ---- the table of operators: a node with a sequence or a property in an operand place is itself one, and no sort is past the last

fine : Row → Bool
fine r = leb r.own property && ((leb r.x 1 || leb sequence r.own) && (leb r.y 1 || leb sequence r.own))

abbrev Fine : Row → Type 0
Fine r = (r.own ≤ property) × (sequence ≤ r.x → sequence ≤ r.own) × (sequence ≤ r.y → sequence ≤ r.own)

fine_of : (r : Row) → T (fine r) → Fine r
unfolding fine
fine_of r t =
    let own = r.own in
    let (a, (b, c)) = (is_and (is_le own property) (is_and (is_or (is_le r.x 1) (is_le sequence own)) (is_or (is_le r.y 1) (is_le sequence own)))).to t in
    (a, λ h. ⊎_elim (λ (l : r.x ≤ 1). absurd (omega arith)) (λ l. l) b, λ h. ⊎_elim (λ (l : r.y ≤ 1). absurd (omega arith)) (λ l. l) c)

pub fine_row : (op : ℕ) → Fine (row_of op)
unfolding operators fine
fine_row op = fine_of (row_of op) (row_passes fine tt tt op)

module _ (s : List ℕ) (x : ℕ) where
  -- ---- the operand places of one node, and of two, are among all

  places_in : (n k : ℕ) → k < n → places_of s x k ≤ uses_of s x n
  unfolding uses_of
  places_in zero k h = absurd (not-suc-le-zero h)
  places_in (suc n) k h =
      ⊎_elim (λ (e : k ≡ n). rw e (omega arith)) (λ (l : k < n). let p = places_in n k l in omega arith) (eq-or-lt_of_le (le_of_suc-le-suc h))

  two_places : (n j k : ℕ) → j < k → k < n → places_of s x j + places_of s x k ≤ uses_of s x n
  unfolding uses_of
  two_places zero j k g h = absurd (not-suc-le-zero h)
  two_places (suc n) j k g h =
      ⊎_elim (λ (e : k ≡ n). let p = places_in n j (omega arith) in rw e (omega arith)) (λ (l : k < n). let p = two_places n j k g l in omega arith)
      (eq-or-lt_of_le (le_of_suc-le-suc h))

  -- well-formed nodes up to x have it in no place
  pub unused : (n : ℕ) → n ≤ suc x → ((k : ℕ) → k < n → WellFormed s k) → uses_of s x n ≡ 0
  unfolding uses_of
  unused zero h fit = refl
  unused (suc n) h fit =
      let w = fit n (omega arith) in
      let a = no_hit (row_at s n).x (raw_at s n).x x (λ z e. let l = w.x.below z in omega arith) in
      let b = no_hit (row_at s n).y (raw_at s n).y x (λ z e. let l = w.y.below z in omega arith) in
      let c = unused n (omega arith) (λ k l. fit k (omega arith)) in
      omega arith

  -- where there is a place there is a node that has it
  some_place : (n : ℕ) → 0 < uses_of s x n → (k : ℕ) × (k < n) × (0 < places_of s x k)
  unfolding uses_of
  some_place zero h = absurd (not-suc-le-zero h)
  some_place (suc n) h =
      ⊎_elim (λ (e : places_of s x n ≡ 0). let (k, l, p) = some_place n (omega arith) in (k, omega arith, p)) (λ (p : 0 < places_of s x n). (n, omega arith, p))
      (eq-zero-or-pos (places_of s x n))

  -- ---- a place of a sequence or a property is a part, and a part stands in a place

  part_placed : {p : ℕ} → Part s p x → 0 < places_of s x p
  part_placed {p} (at_x h e) =
      let a : hits_of (row_at s p).x (raw_at s p).x x ≡ 1 = ap (λ (v : ℕ). hits_of (row_at s p).x v x) e ∙ hits_one (row_at s p).x x (λ z. omega arith) in
      omega arith
  part_placed {p} (at_y h e) =
      let a : hits_of (row_at s p).y (raw_at s p).y x ≡ 1 = ap (λ (v : ℕ). hits_of (row_at s p).y v x) e ∙ hits_one (row_at s p).y x (λ z. omega arith) in
      omega arith

  placed_part : (p : ℕ) → WellFormed s p → sequence ≤ sort_at s x → 0 < places_of s x p → Part s p x
  placed_part p w h l =
      ⊎_elim
      (λ (e : hits_of (row_at s p).x (raw_at s p).x x ≡ 0).
      let (z, q) = hit (row_at s p).y (raw_at s p).y x (omega arith) in
      let o : sort_at s x ≡ (row_at s p).y = ap (sort_at s) (sym q) ∙ w.y.sorted z in
      at_y (omega arith) q)
      (λ (g : 0 < hits_of (row_at s p).x (raw_at s p).x x).
      let (z, q) = hit (row_at s p).x (raw_at s p).x x g in
      let o : sort_at s x ≡ (row_at s p).x = ap (sort_at s) (sym q) ∙ w.x.sorted z in
      at_x (omega arith) q)
      (eq-zero-or-pos (hits_of (row_at s p).x (raw_at s p).x x))

  -- a part lies below its node, and is a sequence or a property like it
  pub part_below : {p : ℕ} → WellFormed s p → Part s p x → x < p
  part_below w (at_x h e) = let l = w.x.below (λ z. omega arith) in omega arith
  part_below w (at_y h e) = let l = w.y.below (λ z. omega arith) in omega arith

  pub part_sort : {p : ℕ} → WellFormed s p → Part s p x → sequence ≤ sort_at s x
  part_sort w (at_x h e) = let o = w.x.sorted (λ z. omega arith) in subst (λ (v : ℕ). sequence ≤ sort_at s v) e (omega arith)
  part_sort w (at_y h e) = let o = w.y.sorted (λ z. omega arith) in subst (λ (v : ℕ). sequence ≤ sort_at s v) e (omega arith)

  pub whole_sort : {p : ℕ} → Part s p x → sequence ≤ sort_at s p
  unfolding sort_at
  whole_sort {p} (at_x h e) = (fine_row (raw_at s p).op).1 h
  whole_sort {p} (at_y h e) = (fine_row (raw_at s p).op).2 h

  -- ---- one place, one node above

  module _ (n : ℕ) (once : uses_of s x n ≡ 1) where
    pub above : ((k : ℕ) → k < n → WellFormed s k) → sequence ≤ sort_at s x → (p : ℕ) × (p < n) × Part s p x
    above fit h = let (p, l, q) = some_place n (omega arith) in (p, l, placed_part p (fit p l) h q)

    pub one_above : {p q : ℕ} → p < n → q < n → Part s p x → Part s q x → p ≡ q
    one_above {p} {q} l m a b =
        let e = part_placed a in
        let f = part_placed b in
        ⊎_elim
        (λ (g : p < q). let t = two_places n p q g m in absurd (omega arith))
        (λ (g : q ≤ p). ⊎_elim (λ (z : q ≡ p). sym z) (λ (z : q < p). let t = two_places n q p z l in absurd (omega arith)) (eq-or-lt_of_le g))
        (side p q)
