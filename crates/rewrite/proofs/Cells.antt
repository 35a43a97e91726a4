-- The nodes of the rewritten table: node i of the block of k is number start_of k + i, and the node that stands for k has its sort. Assumes nothing.
use native.Mathlib.Omega.{arith}
use native.Mathlib.Nat.{not-suc-le-zero, eq-or-lt_of_le, le_of_suc-le-suc, le_refl}
use borrow.Author.Tests.{eqb-false}
use mathlib.Core.Path.{◌≡◌, refl, ◌∙◌, sym, ap}
use mathlib.Core.Logic.{⊎_elim}
use mathlib.Core.Bool.{Bool, true, false, not, cond, true≢false}
use mathlib.Core.List.{List, [], ◌++◌}
use Prim.Native.Nat.{ℕ, zero, suc, ◌+◌, ◌-◌, ◌<◌, ◌≤◌}
use lib.Dec.{eqb}
use lib.ListN.{length, get_or, get_or-append}
use lib.Seq.{get_or-append-add}
use Rattle.refusal.specs.Heading.{version, count}
use Rattle.refusal.proofs.Headings.{version_is}
use Rattle.nodes.specs.declared.Raw.{Raw}
use Rattle.nodes.specs.Operators.{operators, lookup, row_of, bytes_of, boolean_bytes, sequence_bytes, property_bytes}
use Rattle.nodes.specs.Nodes.{raw_at, row_at, sort_at, WellFormed}
use Rattle.nodes.specs.NodeClock.{Ref}
use Rattle.clocks.specs.Clocks.{is_clock}
use Rattle.clocks.proofs.Timing.{clock_row, operand_below}
use Rattle.numbers.specs.Numbers.{sum, is_boolean, is_other, length_of, new_count, taken, start_of, number_of}
use Rattle.numbers.proofs.Sums.{sum_le}
use Rattle.numbers.proofs.Numbering.{some_under, start_fits, stands_last, stands_operand}
use Rattle.encoding.specs.Moved.{moved_node}
use Rattle.blocks.specs.Blocks.{block_under}
use Rattle.encoding.specs.Encoding.{blank}
use Rattle.blocks.proofs.Viewing.{single_is, letter_is, next_is, until_is, View, of_none, of_single, of_letter, of_next, of_until, view}
use Rattle.encoding.proofs.Reading.{raw_of}
use Rattle.writing.specs.Tables.{block_of, laid, new_nodes, new_table}
use Rattle.writing.proofs.Lengths.{length_new, block_long, laid-long}

-- ---- the sort of a block's last node

abbrev last_own : List Raw → ℕ
last_own us = (row_of (get_or us (length us - 1) blank).op).own

last_sort : (ν : ℕ → ℕ) (ρ : Ref) (at : ℕ) (r : Raw) → eqb (row_of r.op).block 0 ≡ false → last_own (block_under ν ρ at r) ≡ (row_of r.op).own
unfolding moved_node row_of lookup operators bytes_of boolean_bytes sequence_bytes property_bytes
last_sort ν ρ at r e = go (view ρ r.op)
  where
    go : View ρ r.op → last_own (block_under ν ρ at r) ≡ (row_of r.op).own
    go (of_none z) = absurd (true≢false (sym z ∙ e))
    go (of_single z q) = ap last_own (single_is ν ρ at r z q)
    go (of_letter c u o) = ap last_own (letter_is ν ρ at r c u o) ∙ ap (λ (p : ℕ). (row_of p).own) (sym o)
    go (of_next c u o) = ap last_own (next_is ν ρ at r c u o) ∙ ap (λ (p : ℕ). (row_of p).own) (sym o)
    go (of_until c u o) = ap last_own (until_is ν ρ at r c u o) ∙ ap (λ (p : ℕ). (row_of p).own) (sym o)

-- ---- the version is copied

pub version_new : (s : List ℕ) (clock : ℕ → Ref) → 6 ≤ length s → version (new_table s clock) ≡ version s
unfolding new_table
version_new s clock l = let e = version_is s l in omega arith

-- ---- the list of new nodes

past : {A : Type 0} (p q : List A) (n i : ℕ) (d : A) → length p ≡ n → get_or (p ++ q) (n + i) d ≡ get_or q i d
past p q n i d h = rw (← h) (get_or-append-add p q i d)

module _ (s : List ℕ) (clock : ℕ → Ref) (fit : (k : ℕ) → k < count s → WellFormed s k) where
  pub raw_at_lem : (q : ℕ) → q < new_count s clock → raw_at (new_table s clock) q ≡ get_or (new_nodes s clock) q blank
  unfolding new_table
  raw_at_lem q h = raw_of (get_or s 3 0) (get_or s 4 0) (new_count s clock) (new_nodes s clock) q (let e = length_new s clock fit in omega arith)

  module _ (test : ℕ → Bool) (k i : ℕ) (passes : test k ≡ true) (l : i < length (block_of s clock k)) where
    -- what k gives ends before what a later node gives
    ends : (j : ℕ) → k < j → j ≤ count s → taken s clock test k + length (block_of s clock k) ≤ taken s clock test j
    unfolding sum
    ends j g h =
        let z = block_long s clock fit k (omega arith) in
        let t = rw passes at (sum_le (λ j. cond (test j) (length_of s clock j) 0) (suc k) j g) in
        omega arith

    laid_at : (j : ℕ) → k < j → j ≤ count s → get_or (laid s clock test j) (taken s clock test k + i) blank ≡ get_or (block_of s clock k) i blank
    unfolding laid
    laid_at zero g h = absurd (not-suc-le-zero g)
    laid_at (suc j) g h =
        let p = laid-long s clock fit test j (omega arith) in
        ⊎_elim
        (λ (e : k ≡ j).
        rw (← e, passes) (past (laid s clock test k) (block_of s clock k) (taken s clock test k) i blank (laid-long s clock fit test k (omega arith))))
        (λ (f : k < j).
        let z = ends j f (omega arith) in
        get_or-append (laid s clock test j) (cond (test j) (block_of s clock j) []) blank (taken s clock test k + i) (omega arith) ∙ laid_at j f (omega arith))
        (eq-or-lt_of_le (le_of_suc-le-suc g))

  new_at : (k i : ℕ) → k < count s → i < length (block_of s clock k) → get_or (new_nodes s clock) (start_of s clock k + i) blank ≡ get_or (block_of s clock k) i blank
  unfolding start_of
  new_at k i h l = go (is_boolean s k) refl
    where
      first : List Raw
      first = laid s clock (is_boolean s) (count s)

      later : List Raw
      later = laid s clock (is_other s) (count s)

      first-long : length first ≡ taken s clock (is_boolean s) (count s)
      first-long = laid-long s clock fit (is_boolean s) (count s) (le_refl _)

      go : (b : Bool) → is_boolean s k ≡ b
          → get_or (first ++ later) (cond b (taken s clock (is_boolean s) k) (taken s clock (is_boolean s) (count s) + taken s clock (is_other s) k) + i) blank ≡ get_or (block_of s clock k) i blank
      go true e =
          let p = first-long in
          let z = ends (is_boolean s) k i e l (count s) h (le_refl _) in
          get_or-append first later blank (taken s clock (is_boolean s) k + i) (omega arith) ∙ laid_at (is_boolean s) k i e l (count s) h (le_refl _)
      go false e =
          let a : taken s clock (is_boolean s) (count s) + taken s clock (is_other s) k + i ≡ taken s clock (is_boolean s) (count s) + (taken s clock (is_other s) k + i) = omega arith in
          rw a
          (past first later (taken s clock (is_boolean s) (count s)) (taken s clock (is_other s) k + i) blank first-long
          ∙ laid_at (is_other s) k i (ap not e) l (count s) h (le_refl _))

  -- ---- node i of k's block, in the rewritten table

  module _ (k i : ℕ) (h : k < count s) (l : i < length (block_of s clock k)) where
    cell_in : start_of s clock k + i < new_count s clock
    cell_in = let f = start_fits s clock k h in let z = block_long s clock fit k h in omega arith

    pub cell_at : raw_at (new_table s clock) (start_of s clock k + i) ≡ get_or (block_of s clock k) i blank
    cell_at = raw_at_lem (start_of s clock k + i) cell_in ∙ new_at k i h l

    pub cell_sort : sort_at (new_table s clock) (start_of s clock k + i) ≡ (row_of (get_or (block_of s clock k) i blank).op).own
    unfolding sort_at
    cell_sort = ap (λ (r : Raw). (row_of r.op).own) cell_at

  -- ---- the node that stands for k

  -- is the last node of its block
  pub last_at : (k : ℕ) → k < count s → is_clock s k ≡ false
      → (0 < length (block_of s clock k)) × (number_of s clock k ≡ start_of s clock k + (length (block_of s clock k) - 1))
  unfolding is_clock
  last_at k h e =
      let z = block_long s clock fit k h in
      let p = some_under (clock k) (row_at s k).block (eqb-false (row_at s k).block 0 e) in
      (omega arith, stands_last s clock fit k h e ∙ omega arith)

  -- and has its sort
  sort_in : (f k : ℕ) → k < f → k < count s → sort_at (new_table s clock) (number_of s clock k) ≡ sort_at s k
  unfolding sort_at is_clock
  sort_in zero k l h = absurd (not-suc-le-zero l)
  sort_in (suc f) k l h = go (λ x. sort_in f x) (is_clock s k) refl
    where
      go : ((x : ℕ) → x < f → x < count s → sort_at (new_table s clock) (number_of s clock x) ≡ sort_at s x) → (c : Bool) → is_clock s k ≡ c
          → sort_at (new_table s clock) (number_of s clock k) ≡ sort_at s k
      go ih true c =
          let b = operand_below s k (fit k h) c in
          let (o, y, u) = clock_row s k (fit k h) c in
          ap (sort_at (new_table s clock)) (stands_operand s clock fit k h c) ∙ ih (raw_at s k).y (omega arith) (omega arith)
          ∙ (fit k h).y.sorted (λ z. omega arith) ∙ y
      go ih false c =
          let (p, o) = last_at k h c in
          ap (sort_at (new_table s clock)) o ∙ cell_sort k (length (block_of s clock k) - 1) h (omega arith)
          ∙ last_sort (number_of s clock) (clock k) (start_of s clock k) (raw_at s k) c

  pub stands_sort : (k : ℕ) → k < count s → sort_at (new_table s clock) (number_of s clock k) ≡ sort_at s k
  stands_sort k h = sort_in (count s) k h h
