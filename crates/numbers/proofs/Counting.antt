-- Counting the new nodes and numbering them, node by node: what one more node adds, and that all fits. Assumes nothing.
use native.Mathlib.Omega.{arith}
use native.Mathlib.Numerals.{add-one}
use native.Mathlib.Nat.{eq-or-lt_of_le, not-suc-le-zero, add-zero}
use borrow.Author.Tests.{lt-ltb}
use mathlib.Core.Path.{◌≡◌, refl, ◌∙◌, sym, ap}
use mathlib.Core.Logic.{⊎_elim}
use mathlib.Core.Bool.{Bool, true, false, not, cond}
use mathlib.Core.List.{List}
use Rattle.std.specs.Prelude.{Option, None}
use Prim.Native.Nat.{ℕ, ◌+◌, ◌*◌, ◌-◌, ◌<◌, ◌≤◌}
use lib.Dec.{eqb}
use lib.ListN.{length, get_or, set, length-set}
use lib.Seq.{get_or-set_same, get_or-set_other}
use Rattle.refusal.specs.Heading.{count}
use Rattle.nodes.specs.Operators.{Row}
use Rattle.nodes.specs.declared.Raw.{Raw}
use Rattle.nodes.specs.Operators.{boolean, row_of}
use Rattle.nodes.specs.Nodes.{raw_at, row_at, sort_at}
use Rattle.nodes.specs.Computed.{named_by}
use Rattle.clocks.specs.Clocks.{is_clock}
use Rattle.clocks.specs.Computed.{ref_of, clock_by, Timed}
use Rattle.clocks.proofs.Timing.{operand_below}
use Rattle.clocks.proofs.HandingDown.{built, clock_read}
use Rattle.numbers.specs.Numbers.{sum, is_boolean, is_other, length_under, length_of, new_count, taken, start_of, number_of}
use Rattle.numbers.specs.declared.Counts.{Counts}
use Rattle.numbers.specs.Computed.{CountsOf}
use Rattle.numbers.proofs.Sums.{sum_le}
use Rattle.numbers.proofs.Numbering.{some_under, count_bound, count_split, start_fits, stands_last, stands_operand}

-- what is known of node k, whose bytes are v, its row r and the length of its block `long`
pub record Looked (s : List ℕ) (clocks : List (Option ℕ)) (k : ℕ) (v : Raw) (r : Row) (long : ℕ) : Type 0 where
  pub timed : Timed s clocks
  pub inside : k < count s
  pub bytes : v ≡ raw_at s k
  pub row : r ≡ row_at s k
  pub size : long ≡ length_of s (clock_by clocks) k

-- the counts of the nodes below k
pub record Summed (s : List ℕ) (clocks : List (Option ℕ)) (k b n : ℕ) : Type 0 where
  pub booleans : b ≡ taken s (clock_by clocks) (is_boolean s) k
  pub all : n ≡ sum (length_of s (clock_by clocks)) k

-- the numbers of the nodes below k, and where the block of k begins: among the booleans, and among the others
pub record Begun (s : List ℕ) (clocks : List (Option ℕ)) (k : ℕ) (numbers : List ℕ) (first later : ℕ) : Type 0 where
  pub size : length numbers ≡ 121
  pub booleans : first ≡ taken s (clock_by clocks) (is_boolean s) k
  pub others : later ≡ taken s (clock_by clocks) (is_boolean s) (count s) + taken s (clock_by clocks) (is_other s) k
  pub right : (j : ℕ) → j < k → get_or numbers j 0 ≡ number_of s (clock_by clocks) j

module _ (s : List ℕ) (clocks : List (Option ℕ)) (k : ℕ) (v : Raw) (r : Row) (long : ℕ) where
  pub looked : Timed s clocks → k < count s → v ≡ raw_at s k → r ≡ row_of v.op → long ≡ length_under (ref_of (get_or clocks k None)) r.block → Looked s clocks k v r long
  looked t h ev er e =
      let f = t.table.few in
      let q : r ≡ row_at s k = er ∙ ap (λ (w : Raw). row_of w.op) ev in
      record { timed = t; inside = h; bytes = ev; row = q; size = e ∙ rw (q, clock_read clocks k (omega arith)) }

  module _ (l : Looked s clocks k v r long) where
    tested : eqb r.own boolean ≡ is_boolean s k
    unfolding is_boolean sort_at
    tested = rw l.row

    -- ---- what the node adds

    next_booleans : taken s (clock_by clocks) (is_boolean s) (k + 1)
        ≡ cond (eqb r.own boolean) (taken s (clock_by clocks) (is_boolean s) k + long) (taken s (clock_by clocks) (is_boolean s) k)
    unfolding sum
    next_booleans = rw (add-one k, tested, l.size) (go (is_boolean s k))
      where
        go : (b : Bool) → taken s (clock_by clocks) (is_boolean s) k + cond b (length_of s (clock_by clocks) k) 0
            ≡ cond b (taken s (clock_by clocks) (is_boolean s) k + length_of s (clock_by clocks) k) (taken s (clock_by clocks) (is_boolean s) k)
        go true = refl
        go false = add-zero _

    next_others : taken s (clock_by clocks) (is_other s) (k + 1)
        ≡ cond (eqb r.own boolean) (taken s (clock_by clocks) (is_other s) k) (taken s (clock_by clocks) (is_other s) k + long)
    unfolding sum
    next_others = rw (add-one k, tested, l.size) (go (is_boolean s k))
      where
        go : (b : Bool) → taken s (clock_by clocks) (is_other s) k + cond (not b) (length_of s (clock_by clocks) k) 0
            ≡ cond b (taken s (clock_by clocks) (is_other s) k) (taken s (clock_by clocks) (is_other s) k + length_of s (clock_by clocks) k)
        go true = add-zero _
        go false = refl

    of_all : sum (length_of s (clock_by clocks)) k + long ≡ sum (length_of s (clock_by clocks)) (k + 1)
    unfolding sum
    of_all = rw (add-one k, l.size)

    all_in : sum (length_of s (clock_by clocks)) (k + 1) ≤ new_count s (clock_by clocks)
    all_in = let h = l.inside in sum_le (length_of s (clock_by clocks)) (k + 1) (count s) (omega arith)

    -- ---- counts

    module _ (booleans all : ℕ) (i : Summed s clocks k booleans all) where
      pub all_fits : all + long ≤ 14 * 120
      all_fits =
          let e = i.all in
          let m = of_all in
          let n = all_in in
          let b = count_bound s (clock_by clocks) in
          let f = l.timed.table.few in
          omega arith

      pub booleans_fit : booleans + long ≤ 14 * 120
      booleans_fit =
          let q = i.booleans in
          let a = i.all in
          let p = count_split s (clock_by clocks) k in
          let f = all_fits in
          omega arith

      pub summed_more : (t : Bool) → t ≡ eqb r.own boolean → (a : ℕ) → a ≡ cond t (booleans + long) booleans → Summed s clocks (k + 1) a (all + long)
      summed_more t et a e = record { booleans = e ∙ rw (et, i.booleans) (sym next_booleans); all = ap (λ (m : ℕ). m + long) i.all ∙ of_all }

    -- ---- numbers

    module _ (few : new_count s (clock_by clocks) ≤ 120) (numbers : List ℕ) (first later : ℕ) (i : Begun s clocks k numbers first later) where
      module _ (t : Bool) (et : t ≡ eqb r.own boolean) (start : ℕ) (es : start ≡ cond t first later) where
        starts : start ≡ start_of s (clock_by clocks) k
        unfolding start_of
        starts = es ∙ rw (et, tested, i.booleans, i.others)

        -- the block lies among the new nodes, and that of no clock node has a node
        pub ends : start + long ≤ 120
        ends = rw (starts, l.size) (let b = start_fits s (clock_by clocks) k l.inside in omega arith)

        pub some : ¬ (r.block ≡ 0) → 1 ≤ start + long
        some f =
            let b = some_under (clock_by clocks k) (row_at s k).block (λ z. f (ap (λ (u : Row). u.block) l.row ∙ z)) in
            let e = l.size in
            omega arith

        -- where the next block of its kind begins
        first_next : cond t (start + long) first ≡ taken s (clock_by clocks) (is_boolean s) (k + 1)
        first_next = rw (es, et, i.booleans, next_booleans) (go (eqb r.own boolean))
          where
            go : (b : Bool) → cond b (cond b (taken s (clock_by clocks) (is_boolean s) k) later + long) (taken s (clock_by clocks) (is_boolean s) k)
                ≡ cond b (taken s (clock_by clocks) (is_boolean s) k + long) (taken s (clock_by clocks) (is_boolean s) k)
            go true = refl
            go false = refl

        later_next : cond t later (start + long) ≡ taken s (clock_by clocks) (is_boolean s) (count s) + taken s (clock_by clocks) (is_other s) (k + 1)
        later_next = rw (es, et, next_others) (go (eqb r.own boolean))
          where
            go : (b : Bool) → cond b later (cond b first later + long)
                ≡ taken s (clock_by clocks) (is_boolean s) (count s) + cond b (taken s (clock_by clocks) (is_other s) k) (taken s (clock_by clocks) (is_other s) k + long)
            go true = i.others
            go false = let e = i.others in omega arith

        -- the number that the code gives to the node
        module _ (u : ℕ) (eu : u ≡ cond (eqb r.block 0) (get_or numbers (named_by v.y) 0) (start + long - 1)) where
          number_is : u ≡ number_of s (clock_by clocks) k
          unfolding is_clock named_by
          number_is = eu ∙ rw l.row (go (is_clock s k) refl)
            where
              go : (b : Bool) → is_clock s k ≡ b → cond b (get_or numbers (named_by v.y) 0) (start + long - 1) ≡ number_of s (clock_by clocks) k
              go true q =
                  let o = built l.timed.table in
                  let y = operand_below s k (o.fit k l.inside) q in
                  let h = l.inside in
                  let f = o.few in
                  let z : named_by v.y ≡ (raw_at s k).y = rw (l.bytes, lt-ltb (raw_at s k).y 120 (omega arith)) in
                  rw (z, i.right (raw_at s k).y y) (sym (stands_operand s (clock_by clocks) o.fit k h q))
              go false q = rw (starts, l.size) (sym (stands_last s (clock_by clocks) (built l.timed.table).fit k l.inside q))

          pub begun_more : (a : ℕ) → a ≡ cond t (start + long) first → (z : ℕ) → z ≡ cond t later (start + long) → Begun s clocks (k + 1) (set numbers k u) a z
          begun_more a ea z ez =
              let h = l.inside in
              let f = l.timed.table.few in
              let n = i.size in
              record {
                size = simp length-set n;
                booleans = ea ∙ first_next;
                others = ez ∙ later_next;
                right = λ j b.
                    ⊎_elim
                    (λ (e : j ≡ k). rw (e, get_or-set_same numbers k u 0 (omega arith)) number_is)
                    (λ (c : j < k). get_or-set_other numbers k j u 0 (λ e. omega arith) ∙ i.right j c)
                    (eq-or-lt_of_le (let c : j ≤ k = omega arith in c));
              }

-- ---- before the first node, and after the last

module _ (s : List ℕ) (clocks : List (Option ℕ)) where
  -- the code's count is that of the new nodes
  pub few_counted : (counts : Counts) → CountsOf s clocks counts → counts.all ≤ 120 → new_count s (clock_by clocks) ≤ 120
  few_counted counts e l = rw (sym e.all) l

  pub summed_all : (k : ℕ) → k ≡ count s → (b a : ℕ) → Summed s clocks k b a → CountsOf s clocks (record { booleans = b; all = a }) × ((b ≤ 14 * count s) × (a ≤ 14 * count s))
  summed_all k e b a i =
      let j : Summed s clocks (count s) b a = rw e at i in
      let m = count_bound s (clock_by clocks) in
      let p = count_split s (clock_by clocks) (count s) in
      let f = j.booleans in
      let w = j.all in
      (record { booleans = f; all = w }, (omega arith, omega arith))

  pub begun_none : (counts : Counts) → CountsOf s clocks counts → (numbers : List ℕ) → length numbers ≡ 121 → Begun s clocks 0 numbers 0 counts.booleans
  unfolding sum
  begun_none counts e numbers n = record { size = n; booleans = refl; others = e.booleans ∙ sym (add-zero _); right = λ j l. absurd (not-suc-le-zero l) }
