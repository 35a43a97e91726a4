-- The clocks of a table's nodes: there is one assignment of clocks, the root has none, and each part has what its node hands down. Assumes nothing.
use native.Mathlib.Omega.{arith}
use borrow.Author.Tests.{eqb-true}
use mathlib.Core.Path.{◌≡◌, refl, ◌∙◌, sym, ap, subst, fun_ext}
use mathlib.Core.Logic.{◌⊎◌, ⊎_elim}
use mathlib.Core.Bool.{Bool, true, false, not, cond, ◌&&◌, ◌||◌, beq}
use mathlib.Core.List.{List, map}
use Prim.Native.Nat.{ℕ, ◌<◌, ◌≤◌}
use lib.Dec.{T, eqb, leb}
use Rattle.telling.specs.Tells.{Tells}
use Rattle.telling.proofs.Telling.{is_or, is_and, is_not, is_eq, is_le, side}
use Rattle.refusal.specs.Heading.{count}
use Rattle.nodes.specs.Operators.{Row}
use Rattle.nodes.specs.declared.Node.{Node}
use Rattle.nodes.specs.declared.Node.TheVariants.{Boolean}
use Rattle.nodes.specs.declared.BooleanOp.TheVariants.{Constant}
use Rattle.nodes.specs.Operators.{none, boolean, sequence, Entry, operators, unknown, row_of, node_of}
use Rattle.nodes.specs.Nodes.{raw_at, row_at, sort_at, node_at, root, WellFormed}
use Rattle.nodes.specs.NodeClock.{Ref, free_r, on_r, Part, handed, ClockOf, c_root, c_part}
use Rattle.nodes.proofs.Built.{Built}
use Rattle.nodes.proofs.Lookup.{of_lookup, line_of, same_line}
use Rattle.nodes.proofs.Placing.{part_sort, whole_sort}
use Rattle.nodes.proofs.Clocking.{clock_exists, clock_unique, clock-inside}
use Rattle.clocks.specs.Clocks.{ClockIs, from_above, none_above, Clocks, is_clock}

-- ---- what a node hands down, by its row

abbrev handed_by : ℕ → Ref → Row → Ref
handed_by x ρ r = cond (eqb r.block 0) (on_r x) ρ

abbrev by_node : Entry → ℕ → ℕ → ℕ → Ref → Ref
by_node e x y q ρ = handed (e.make x y q) ρ

abbrev by_row : Entry → ℕ → ℕ → ℕ → Ref → Ref
by_row e x y q ρ = handed_by x ρ e.row

all_handed : map by_node operators ≡ map by_row operators
unfolding operators
all_handed = refl

pub handed_by_row : (s : List ℕ) (p : ℕ) → WellFormed s p → (ρ : Ref) → handed (node_at s p) ρ ≡ cond (is_clock s p) (on_r (raw_at s p).x) ρ
unfolding is_clock node_of row_of sort_at
handed_by_row s p w ρ =
    let x = (raw_at s p).x in
    let y = (raw_at s p).y in
    let q = (raw_at s p).fourth in
    let op = (raw_at s p).op in
    let at : (ℕ → ℕ → ℕ → Ref → Ref) → Ref = λ f. f x y q ρ in
    of_lookup (λ (v : Node). handed v ρ) (λ e. e.make x y q) (Boolean (Constant 0)) operators op
    ∙ sym (of_lookup at by_node (λ x y q ρ. ρ) operators op)
    ∙ ap at (same_line by_node by_row (λ x y q ρ. ρ) (λ x y q ρ. handed_by x ρ unknown) all_handed op w.known)
    ∙ of_lookup at by_row (λ x y q ρ. handed_by x ρ unknown) operators op
    ∙ sym (of_lookup (handed_by x ρ) (λ e. e.row) unknown operators op)

-- the operators that have no block
unblocked : Entry → Bool
unblocked e = beq (eqb e.row.block 0) (eqb e.code 22 || eqb e.code 40)

pub clock_op : (op : ℕ) → ¬ ((row_of op).own ≡ none) → Tells (eqb (row_of op).block 0) ((op ≡ 22) ⊎ (op ≡ 40))
unfolding operators unblocked
clock_op op k =
    let (e, r, o, t) = line_of unblocked tt op k in
    let b : eqb (row_of op).block 0 ≡ (eqb op 22 || eqb op 40) =
    ap (λ (u : Row). eqb u.block 0) r ∙ same (eqb e.row.block 0) (eqb e.code 22 || eqb e.code 40) t ∙ ap (λ (n : ℕ). eqb n 22 || eqb n 40) (sym o) in
    subst (λ (b : Bool). Tells b ((op ≡ 22) ⊎ (op ≡ 40))) (sym b) (is_or (is_eq op 22) (is_eq op 40))
  where
    same : (a b : Bool) → T (beq a b) → a ≡ b
    same true true t = refl
    same true false t = absurd t
    same false true t = absurd t
    same false false t = refl

-- a clock node's x is a boolean, and its y has its own sort, a sequence's or a property's
setting : Entry → Bool
setting e = not (eqb e.row.block 0) || (eqb e.row.x boolean && (eqb e.row.y e.row.own && leb sequence e.row.y))

pub clock_row : (s : List ℕ) (p : ℕ) → WellFormed s p → is_clock s p ≡ true → ((row_at s p).x ≡ boolean) × ((row_at s p).y ≡ sort_at s p) × (sequence ≤ (row_at s p).y)
unfolding is_clock sort_at setting operators
clock_row s p w q =
    let (e, r, o, t) = line_of setting tt (raw_at s p).op w.known in
    let b : e.row.block ≡ 0 = ap (λ (u : Row). u.block) (sym r) ∙ eqb-true (row_at s p).block 0 q in
    let z = (is_or (is_not (is_eq e.row.block 0)) (is_and (is_eq e.row.x boolean) (is_and (is_eq e.row.y e.row.own) (is_le sequence e.row.y)))).to t in
    subst (λ (u : Row). (u.x ≡ boolean) × (u.y ≡ u.own) × (sequence ≤ u.y)) (sym r)
    (⊎_elim (λ (n : ¬ (e.row.block ≡ 0)). absurd (n b)) (λ y. (y.0, y.1.0, y.1.1)) z)

pub operand_below : (s : List ℕ) (p : ℕ) → WellFormed s p → is_clock s p ≡ true → (raw_at s p).y < p
operand_below s p w q = let (o, y, u) = clock_row s p w q in w.y.below (λ v. omega arith)

module _ (s : List ℕ) (ok : Built s) where
  -- ---- there are clocks, and no others

  -- what has a clock is a sequence or a property
  pub clocked_sort : {k : ℕ} {ρ : Ref} → ClockOf s k ρ → sequence ≤ sort_at s k
  clocked_sort c_root = let r = ok.rooted in let w = (ok.fit (root s) (let l = ok.some in omega arith)).known in omega arith
  clocked_sort (c_part {p = p} {k = k} c a) = part_sort s k (ok.fit p (clock-inside s ok c)) a

  clock_of : (k : ℕ) → (ρ : Ref) × ClockIs s k ρ
  clock_of k =
      ⊎_elim
      (λ (h : k < count s).
      ⊎_elim (λ (l : sort_at s k < sequence). (free_r, none_above (λ ρ c. let m = clocked_sort c in omega arith)))
      (λ (l : sequence ≤ sort_at s k). let (ρ, c, q) = clock_exists s ok k h l in (ρ, from_above c))
      (side (sort_at s k) sequence))
      (λ (h : count s ≤ k). (free_r, none_above (λ ρ c. let m = clock-inside s ok c in omega arith)))
      (side k (count s))

  pub clocks_exist : (clock : ℕ → Ref) × Clocks s clock
  clocks_exist = (λ k. (clock_of k).0, λ k. (clock_of k).1)

  same_clock : {k : ℕ} {ρ σ : Ref} → ClockIs s k ρ → ClockIs s k σ → ρ ≡ σ
  same_clock (from_above c) (from_above d) = clock_unique s ok c d
  same_clock (from_above {ρ = ρ} c) (none_above h) = absurd (h ρ c)
  same_clock (none_above h) (from_above {ρ = ρ} d) = absurd (h ρ d)
  same_clock (none_above h) (none_above g) = refl

  pub clocks_unique : (clock other : ℕ → Ref) → Clocks s clock → Clocks s other → clock ≡ other
  clocks_unique clock other c d = fun_ext (λ k. same_clock (c k) (d k))

  -- ---- what they are

  -- a clock is a boolean node
  set_by : {k : ℕ} {ρ : Ref} → ClockOf s k ρ → (d : ℕ) → ρ ≡ on_r d → (d < count s) × (sort_at s d ≡ boolean)
  set_by c_root d e = absurd (let z : free_r ≡ on_r d = e in let w : ◌≡◌ {A = ℕ} 0 1 = cc in omega arith)
  set_by (c_part {p = p} {ρ = ρ} c a) d e = go (λ z. set_by c d z) (is_clock s p) refl (sym (handed_by_row s p (ok.fit p h) ρ) ∙ e)
    where
      h : p < count s
      h = clock-inside s ok c

      go : (ρ ≡ on_r d → (d < count s) × (sort_at s d ≡ boolean)) → (t : Bool) → is_clock s p ≡ t → cond t (on_r (raw_at s p).x) ρ ≡ on_r d
          → (d < count s) × (sort_at s d ≡ boolean)
      go ih false q z = ih z
      go ih true q z =
          let i : (raw_at s p).x ≡ d = cc in
          let (o, y, u) = clock_row s p (ok.fit p h) q in
          let l = (ok.fit p h).x.below (λ v. omega arith) in
          let g = h in
          let f = (ok.fit p h).x.sorted (λ v. omega arith) in
          (omega arith, ap (sort_at s) (sym i) ∙ f ∙ o)

  module _ (clock : ℕ → Ref) (right : Clocks s clock) where
    clock_above : (k : ℕ) → k < count s → sequence ≤ sort_at s k → ClockOf s k (clock k)
    clock_above k h l = go (right k)
      where
        go : {ρ : Ref} → ClockIs s k ρ → ClockOf s k ρ
        go (from_above c) = c
        go (none_above g) = let (ρ, c, q) = clock_exists s ok k h l in absurd (g ρ c)

    pub root_clock : clock (root s) ≡ free_r
    root_clock = same_clock (right (root s)) (from_above c_root)

    pub part_clock : {p k : ℕ} → p < count s → Part s p k → clock k ≡ handed (node_at s p) (clock p)
    part_clock {p} {k} h a = same_clock (right k) (from_above (c_part (clock_above p h (whole_sort s k a)) a))

    pub clock_boolean : (k d : ℕ) → clock k ≡ on_r d → (d < count s) × (sort_at s d ≡ boolean)
    clock_boolean k d e = go (right k) e
      where
        go : {ρ : Ref} → ClockIs s k ρ → ρ ≡ on_r d → (d < count s) × (sort_at s d ≡ boolean)
        go (from_above c) q = set_by c d q
        go (none_above g) q = absurd (let w : ◌≡◌ {A = ℕ} 0 1 = cc in omega arith)
