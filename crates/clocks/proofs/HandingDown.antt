-- Handing the clocks down: what the array of clocks holds when the nodes from p on have handed theirs to their parts. Assumes nothing.
use native.Mathlib.Omega.{arith}
use native.Mathlib.Nat.{eq-or-lt_of_le, le_refl}
use native.Mathlib.Decide.{ℕ_discrete}
use borrow.Author.Tests.{ltb-true, ltb-false, lt-ltb, le-ltb}
use mathlib.Core.Path.{◌≡◌, refl, ◌∙◌, sym, ap, subst}
use mathlib.Core.Logic.{◌⊎◌, inl, inr, ⊎_elim}
use mathlib.Core.Bool.{Bool, true, false, cond}
use mathlib.Core.List.{List}
use Rattle.std.specs.Prelude.{Option, Some, None}
use Prim.Native.Nat.{ℕ, suc, ◌-◌, ◌<◌, ◌≤◌}
use lib.Dec.{eqb, ltb}
use lib.ListN.{length, get_or, set, replicate, length-set, get_or-replicate}
use lib.Seq.{get_or-set_same, get_or-set_other}
use Rattle.telling.proofs.Telling.{side}
use Rattle.refusal.specs.Heading.{version, count, Known}
use Rattle.nodes.specs.Operators.{Row}
use Rattle.nodes.specs.declared.Raw.{Raw}
use Rattle.nodes.specs.Operators.{sequence, base, row_of}
use Rattle.nodes.specs.Nodes.{raw_at, row_at, node_at, root, WellFormed}
use Rattle.nodes.specs.NodeClock.{Ref, free_r, on_r, Part, at_x, at_y, handed, ClockOf, c_root, c_part}
use Rattle.nodes.specs.Computed.{named_by}
use Rattle.nodes.proofs.Built.{Built}
use Rattle.table.proofs.Checking.{sound}
use Rattle.nodes.proofs.Placing.{part_below, part_sort, whole_sort, one_above}
use Rattle.nodes.proofs.Clocking.{clock_exists, clock-inside}
use Rattle.clocks.specs.Clocks.{ClockIs, from_above, none_above, Clocks, is_clock}
use Rattle.clocks.specs.Computed.{AcceptedTable, ref_of, clock_by, part_of}
use Rattle.clocks.proofs.Timing.{handed_by_row, clocks_exist}

-- what the tests of a table gave
pub built : {s : List ℕ} → AcceptedTable s → Built s
built {s} h = (sound s _ h.checks refl).formed

pub versions : {s : List ℕ} → AcceptedTable s → Known base (version s)
versions {s} h = (sound s _ h.checks refl).known

-- ---- the array

-- what the code reads of a node's clock
pub clock_read : (clocks : List (Option ℕ)) (k : ℕ) → k < 120 → clock_by clocks k ≡ ref_of (get_or clocks k None)
unfolding clock_by
clock_read clocks k h = rw (lt-ltb k 120 h)

-- ---- two stores of one clock

module _ (clocks : List (Option ℕ)) (x y : ℕ) (c : Option ℕ) (k : ℕ) (size : length clocks ≡ 121) where
  stored : (x ≡ k) ⊎ (y ≡ k) → x ≤ 120 → y ≤ 120 → get_or (set (set clocks x c) y c) k None ≡ c
  stored h u v = go (ℕ_discrete y k)
    where
      m : y < length (set clocks x c)
      m = simp length-set (omega arith)

      go : Dec (y ≡ k) → get_or (set (set clocks x c) y c) k None ≡ c
      go (yes e) = rw (← e) (get_or-set_same (set clocks x c) y c None m)
      go (no n) =
          ⊎_elim
          (λ (e : x ≡ k). get_or-set_other (set clocks x c) y k c None (λ z. n (sym z)) ∙ subst (λ (j : ℕ). get_or (set clocks x c) j None ≡ c) e (get_or-set_same clocks x c None (omega arith)))
          (λ (e : y ≡ k). absurd (n e)) h

  kept : ¬ (x ≡ k) → ¬ (y ≡ k) → get_or (set (set clocks x c) y c) k None ≡ get_or clocks k None
  kept u v = get_or-set_other (set clocks x c) y k c None (λ z. v (sym z)) ∙ get_or-set_other clocks x k c None (λ z. u (sym z))

-- ---- where a clock is stored

-- at 120, or at an operand that is a part
part_cases : (sort v : ℕ) → (part_of sort v ≡ 120) ⊎ ((sequence ≤ sort) × (part_of sort v ≡ v))
unfolding part_of named_by
part_cases sort v = go (ltb sort sequence) refl (ltb v 120) refl
  where
    go : (a : Bool) → ltb sort sequence ≡ a → (b : Bool) → ltb v 120 ≡ b → (cond a 120 (cond b v 120) ≡ 120) ⊎ ((sequence ≤ sort) × (cond a 120 (cond b v 120) ≡ v))
    go true p b q = inl refl
    go false p true q = inr (ltb-false sort sequence p, refl)
    go false p false q = inl refl

part_at : (sort v : ℕ) → sequence ≤ sort → v < 120 → part_of sort v ≡ v
unfolding part_of named_by
part_at sort v h l = rw (le-ltb sort sequence h, lt-ltb v 120 l)

part_most : (sort v : ℕ) → part_of sort v ≤ 120
unfolding part_of named_by
part_most sort v = go (ltb sort sequence) (ltb v 120) refl
  where
    go : (a b : Bool) → ltb v 120 ≡ b → cond a 120 (cond b v 120) ≤ 120
    go true b e = le_refl 120
    go false true e = let l = ltb-true v 120 e in omega arith
    go false false e = le_refl 120

-- the nodes from p on have handed down; what is no part of these has no clock yet
pub record Handed (s : List ℕ) (p : ℕ) (clocks : List (Option ℕ)) : Type 0 where
  pub size : length clocks ≡ 121
  pub down : {q k : ℕ} → p ≤ q → q < count s → Part s q k → ref_of (get_or clocks k None) ≡ handed (node_at s q) (ref_of (get_or clocks q None))
  pub rest : (k : ℕ) → k < 120 → ((q : ℕ) → p ≤ q → q < count s → ¬ Part s q k) → get_or clocks k None ≡ None

-- ---- before the first node

pub handed_none : (s : List ℕ) → Handed s (count s) (replicate 121 None)
handed_none s = record {
  size = refl;
  down = λ l m a. absurd (omega arith);
  rest = λ k l h. get_or-replicate 121 k None None (omega arith);
}

module _ (s : List ℕ) (ok : Built s) where
  -- ---- one more node

  module _ (q : ℕ) (h : q < count s) (clocks : List (Option ℕ)) (i : Handed s (suc q) clocks) where
    w : WellFormed s q
    w = ok.fit q h

    own : Option ℕ
    own = get_or clocks q None

    xs : ℕ
    xs = part_of (row_at s q).x (raw_at s q).x

    ys : ℕ
    ys = part_of (row_at s q).y (raw_at s q).y

    -- the clock that the code hands down
    as_handed : ref_of (cond (is_clock s q) (Some (raw_at s q).x) own) ≡ handed (node_at s q) (ref_of own)
    as_handed = go (is_clock s q) ∙ sym (handed_by_row s q w (ref_of own))
      where
        go : (b : Bool) → ref_of (cond b (Some (raw_at s q).x) own) ≡ cond b (on_r (raw_at s q).x) (ref_of own)
        go true = refl
        go false = refl

    -- what is stored below 120 is stored at a part
    x_part : {k : ℕ} → k < 120 → xs ≡ k → Part s q k
    unfolding xs
    x_part {k} l e = ⊎_elim (λ z. absurd (omega arith)) (λ z. at_x z.0 (sym z.1 ∙ e)) (part_cases (row_at s q).x (raw_at s q).x)

    y_part : {k : ℕ} → k < 120 → ys ≡ k → Part s q k
    unfolding ys
    y_part {k} l e = ⊎_elim (λ z. absurd (omega arith)) (λ z. at_y z.0 (sym z.1 ∙ e)) (part_cases (row_at s q).y (raw_at s q).y)

    -- and at each part
    part_stored : {k : ℕ} → k < 120 → Part s q k → (xs ≡ k) ⊎ (ys ≡ k)
    unfolding xs ys
    part_stored l (at_x o e) = inl (part_at (row_at s q).x (raw_at s q).x o (omega arith) ∙ e)
    part_stored l (at_y o e) = inr (part_at (row_at s q).y (raw_at s q).y o (omega arith) ∙ e)

    module _ (c : Option ℕ) (ec : c ≡ cond (is_clock s q) (Some (raw_at s q).x) own) where
      after : List (Option ℕ)
      after = set (set clocks xs c) ys c

      as_before : (k : ℕ) → k < 120 → ¬ Part s q k → get_or after k None ≡ get_or clocks k None
      unfolding after
      as_before k l n = kept clocks xs ys c k i.size (λ e. n (x_part l e)) (λ e. n (y_part l e))

      at_part : {k : ℕ} → k < 120 → Part s q k → get_or after k None ≡ c
      unfolding after xs ys
      at_part {k} l a =
          stored clocks xs ys c k i.size (part_stored l a) (part_most (row_at s q).x (raw_at s q).x) (part_most (row_at s q).y (raw_at s q).y)

      more_down : {p k : ℕ} → q ≤ p → p < count s → Part s p k → ref_of (get_or after k None) ≡ handed (node_at s p) (ref_of (get_or after p None))
      unfolding own
      more_down {p} {k} l m a =
          let f = ok.few in
          let b = part_below s k (ok.fit p m) a in
          let same : get_or after p None ≡ get_or clocks p None = as_before p (omega arith) (λ z. let g = part_below s p w z in omega arith) in
          ⊎_elim
          (λ (e : q ≡ p).
          let o : Part s q k = subst (λ (j : ℕ). Part s j k) (sym e) a in
          ap ref_of (at_part (omega arith) o ∙ ec) ∙ as_handed ∙ ap (λ (j : ℕ). handed (node_at s j) (ref_of (get_or clocks j None))) e ∙ ap (λ (j : Option ℕ). handed (node_at s p) (ref_of j)) (sym same))
          (λ (g : q < p).
          let n : ¬ Part s q k = λ z. let t = one_above s k (count s) (ok.once k (omega arith) (part_sort s k (ok.fit p m) a)) h m z a in omega arith in
          rw (as_before k (omega arith) n, same) (i.down g m a))
          (eq-or-lt_of_le l)

      more_rest : (k : ℕ) → k < 120 → ((p : ℕ) → q ≤ p → p < count s → ¬ Part s p k) → get_or after k None ≡ None
      more_rest k l n = as_before k l (n q (le_refl q) h) ∙ i.rest k l (λ p m. n p (omega arith))

      handed_more : Handed s q after
      unfolding after
      handed_more = record { size = simp length-set i.size; down = more_down; rest = more_rest }

  -- as the code has it: node p - 1 has the bytes v and the row r
  pub handed_again : (p : ℕ) → 0 < p → p ≤ count s → (clocks : List (Option ℕ)) → Handed s p clocks → (v : Raw) → v ≡ raw_at s (p - 1) → (r : Row) → r ≡ row_of v.op
      → (c : Option ℕ) → c ≡ cond (eqb r.block 0) (Some v.x) (get_or clocks (p - 1) None) → (x : ℕ) → x ≡ part_of r.x v.x → (y : ℕ) → y ≡ part_of r.y v.y
      → Handed s (p - 1) (set (set clocks x c) y c)
  unfolding after xs ys own is_clock
  handed_again p o h clocks i v ev r er c ec x ex y ey =
      let q = p - 1 in
      let e : p ≡ suc q = omega arith in
      let j : Handed s (suc q) clocks = rw e at i in
      let f = ok.few in
      let l = i.size in
      let d : c ≡ cond (is_clock s q) (Some (raw_at s q).x) (get_or clocks q None) = ec ∙ rw (er, ev) in
      rw (ex, ey, er, ev) (handed_more q (omega arith) clocks j c d)

  -- ---- after the last node

  module _ (clocks : List (Option ℕ)) (i : Handed s 0 clocks) where
    has : {k : ℕ} {ρ : Ref} → ClockOf s k ρ → ref_of (get_or clocks k None) ≡ ρ
    has c_root =
        let f = ok.few in
        let o = ok.some in
        ap ref_of (i.rest (root s) (omega arith) (λ q l m a. let b = part_below s (root s) (ok.fit q m) a in omega arith))
    has (c_part {p = p} {ρ = ρ} c a) = i.down (omega arith) (clock-inside s ok c) a ∙ ap (handed (node_at s p)) (has c)

    -- what has no clock is no part
    has_none : (k : ℕ) → k < 120 → ((ρ : Ref) → ¬ ClockOf s k ρ) → ref_of (get_or clocks k None) ≡ free_r
    has_none k l n =
        ap ref_of
        (i.rest k l (λ q z m a. let (ρ, c, t) = clock_exists s ok q m (whole_sort s k a) in n (handed (node_at s q) ρ) (c_part c a)))

    right_at : (k : ℕ) {ρ : Ref} → ClockIs s k ρ → ClockIs s k (clock_by clocks k)
    unfolding clock_by
    right_at k (from_above {ρ = ρ} c) =
        let m = clock-inside s ok c in
        let f = ok.few in
        rw (lt-ltb k 120 (omega arith), has c) (from_above c)
    right_at k (none_above n) =
        ⊎_elim (λ (l : k < 120). rw (lt-ltb k 120 l, has_none k l n) (none_above n)) (λ (l : 120 ≤ k). rw (le-ltb k 120 l) (none_above n)) (side k 120)

    pub handed_all : Clocks s (clock_by clocks)
    handed_all k = right_at k ((clocks_exist s ok).1 k)
