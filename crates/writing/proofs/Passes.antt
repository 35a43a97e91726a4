-- The block of node k is what the code makes of the node's bytes, the arrays of clocks and of new numbers; and where the two passes stand. Assumes nothing.
use native.Mathlib.Omega.{arith}
use borrow.Author.Tests.{ne_eqb, not-true}
use mathlib.Core.Path.{◌≡◌, refl, ◌∙◌, sym, ap}
use mathlib.Core.Bool.{Bool, true, false, cond, beq}
use mathlib.Core.List.{List}
use Rattle.std.specs.Prelude.{Option, Some, None}
use Rattle.std.specs.Option.{option_map}
use Prim.Native.Nat.{ℕ, ◌+◌, ◌<◌, ◌≤◌}
use lib.Dec.{eqb}
use lib.ListN.{get_or}
use Rattle.refusal.specs.Heading.{count}
use Rattle.nodes.specs.Operators.{Row}
use Rattle.nodes.specs.declared.Raw.{Raw}
use Rattle.nodes.specs.Operators.{none, row_of}
use Rattle.nodes.specs.Nodes.{raw_at, row_at, Operand}
use Rattle.nodes.specs.NodeClock.{Ref, free_r, on_r}
use Rattle.nodes.specs.Computed.{named_by}
use Rattle.clocks.specs.Computed.{ref_of, clock_by}
use Rattle.clocks.proofs.Timing.{clock_boolean}
use Rattle.clocks.proofs.HandingDown.{built, clock_read}
use Rattle.numbers.specs.Numbers.{is_boolean, is_other, length_under, length_of, new_count, taken, start_of, number_of}
use Rattle.numbers.specs.Computed.{Numbered}
use Rattle.numbers.proofs.Sums.{sum_le}
use Rattle.numbers.proofs.Numbering.{none_under, count_split}
use Rattle.numbers.proofs.Counting.{looked}
use Rattle.encoding.specs.Moved.{moved, moved_node}
use Rattle.encoding.proofs.Renumbering.{looked_up, looked_moved}
use Rattle.blocks.specs.Blocks.{moved_block, block_under}
use Rattle.blocks.specs.Computed.{kind_block}
use Rattle.blocks.proofs.Viewing.{not_free}
use Rattle.writing.specs.Tables.{block_of}
use Rattle.writing.specs.Computed.{of_pass, pass_start}

-- ---- the block is the node's, where it is no clock node

module _ (ν : ℕ → ℕ) (at : ℕ) (r : Raw) (some : ¬ ((row_of r.op).block ≡ 0)) (x y : ℕ) (ex : x ≡ moved ν (row_of r.op).x r.x) (ey : y ≡ moved ν (row_of r.op).y r.y) where
  kind_block_lem : (clock : Option ℕ) → kind_block (option_map ν clock) at r.op x y ≡ block_under ν (ref_of clock) at r
  unfolding kind_block block_under moved_block moved_node
  kind_block_lem None = rw (ne_eqb (row_of r.op).block 0 some, ex, ey)
  kind_block_lem (Some d) = rw (ne_eqb (row_of r.op).block 0 some, ex, ey)

module _ (s : List ℕ) (clocks : List (Option ℕ)) (numbers : List ℕ) (h : Numbered s clocks numbers) where
  -- the new number of a node
  pub number_of_lem : (v : ℕ) → v < count s → get_or numbers (named_by v) 0 ≡ number_of s (clock_by clocks) v
  number_of_lem v l = looked_up (number_of s (clock_by clocks)) numbers (count s) h.timed.table.few h.right v l

  module _ (k : ℕ) (l : k < count s) where
    -- an operand by its new number, and any other byte as it is
    moved_is : (sort limit v : ℕ) → Operand s k sort limit v → cond (eqb sort none) v (get_or numbers (named_by v) 0) ≡ moved (number_of s (clock_by clocks)) sort v
    moved_is sort limit v o =
        looked_moved (number_of s (clock_by clocks)) numbers (count s) h.timed.table.few h.right sort v (λ z. let b = o.below z in omega arith)

    pub clock_is : ref_of (get_or clocks k None) ≡ clock_by clocks k
    clock_is = let f = h.timed.table.few in sym (clock_read clocks k (omega arith))

    -- the clock's new number
    pub condition : (d : ℕ) → ref_of (get_or clocks k None) ≡ on_r d → get_or numbers (named_by d) 0 ≡ number_of s (clock_by clocks) d
    condition d e =
        let (b, o) = clock_boolean s (built h.timed.table) (clock_by clocks) h.timed.right k d (sym clock_is ∙ e) in
        number_of_lem d b

    renumbered_is : (clock : Option ℕ) → get_or clocks k None ≡ clock
        → option_map (λ d. get_or numbers (named_by d) 0) clock ≡ option_map (number_of s (clock_by clocks)) clock
    renumbered_is None e = refl
    renumbered_is (Some d) e = ap Some (condition d (ap ref_of e))

    -- what the code has of the node's clock, by its condition's new number
    pub clock_free : clock_by clocks k ≡ free_r → option_map (λ d. get_or numbers (named_by d) 0) (get_or clocks k None) ≡ None
    clock_free e = go (get_or clocks k None) (clock_is ∙ e)
      where
        go : (clock : Option ℕ) → ref_of clock ≡ free_r → option_map (λ d. get_or numbers (named_by d) 0) clock ≡ None
        go None q = refl
        go (Some c) q = absurd (not_free c q)

    pub clock_on : (d : ℕ) → clock_by clocks k ≡ on_r d → option_map (λ d. get_or numbers (named_by d) 0) (get_or clocks k None) ≡ Some (number_of s (clock_by clocks) d)
    clock_on d e = go (get_or clocks k None) (clock_is ∙ e) ∙ ap Some (condition d (clock_is ∙ e))
      where
        go : (clock : Option ℕ) → ref_of clock ≡ on_r d → option_map (λ d. get_or numbers (named_by d) 0) clock ≡ Some (get_or numbers (named_by d) 0)
        go None q = absurd (not_free d (sym q))
        go (Some c) q = ap (λ (v : ℕ). Some (get_or numbers (named_by v) 0)) (let e : c ≡ d = cc in e)

    -- the block of node k, from what the code has of it
    module _ (v : Raw) (ev : v ≡ raw_at s k) (r : Row) (er : r ≡ row_of v.op) (long : ℕ) (el : long ≡ length_under (ref_of (get_or clocks k None)) r.block) where
      pub long_is : long ≡ length_of s (clock_by clocks) k
      long_is = (looked s clocks k v r long h.timed l ev er el).size

      pub block_is : (x : ℕ) → x ≡ cond (eqb r.x none) v.x (get_or numbers (named_by v.x) 0) → (y : ℕ) → y ≡ cond (eqb r.y none) v.y (get_or numbers (named_by v.y) 0)
          → (at : ℕ) → at ≡ start_of s (clock_by clocks) k → 0 < long → (c : Option ℕ) → c ≡ option_map (λ d. get_or numbers (named_by d) 0) (get_or clocks k None)
          → kind_block c at v.op x y ≡ block_of s (clock_by clocks) k
      block_is x ex y ey at ea m c ec =
          let some : ¬ ((row_at s k).block ≡ 0) = λ z. let o = none_under (clock_by clocks k) (row_at s k).block z in let p = long_is in omega arith in
          let w = (built h.timed.table).fit k l in
          let ex' = rw (er, ev) at ex in
          let ey' = rw (er, ev) at ey in
          rw (ec ∙ renumbered_is _ refl, ev, ea)
          (kind_block_lem (number_of s (clock_by clocks)) (start_of s (clock_by clocks) k) (raw_at s k) some x y (ex' ∙ moved_is _ _ _ w.x) (ey' ∙ moved_is _ _ _ w.y) (get_or clocks k None)
          ∙ ap (λ (ρ : Ref). block_under (number_of s (clock_by clocks)) ρ (start_of s (clock_by clocks) k) (raw_at s k)) clock_is)

-- ---- the two passes

module _ (s : List ℕ) (pass : Bool) (k : ℕ) where
  -- a node is written in the pass of its kind
  pub of_pass_lem : of_pass s pass k ≡ beq (is_boolean s k) pass
  unfolding of_pass
  of_pass_lem = go pass (is_boolean s k) refl
    where
      go : (p b : Bool) → is_boolean s k ≡ b → of_pass s p k ≡ beq (is_boolean s k) p
      go true true e = rw e
      go true false e = rw e
      go false true e = rw e
      go false false e = rw e

  -- and from where its block stands
  pub pass_start_lem : (clock : ℕ → Ref) → of_pass s pass k ≡ true → pass_start s clock pass + taken s clock (of_pass s pass) k ≡ start_of s clock k
  unfolding of_pass pass_start start_of
  pass_start_lem clock t = go pass t
    where
      go : (p : Bool) → of_pass s p k ≡ true → pass_start s clock p + taken s clock (of_pass s p) k
          ≡ cond (is_boolean s k) (taken s clock (is_boolean s) k) (taken s clock (is_boolean s) (count s) + taken s clock (is_other s) k)
      go true e = rw e (omega arith)
      go false e = rw (not-true (is_boolean s k) e)

  -- a pass lies among the new nodes
  pub pass_fits : (clock : ℕ → Ref) → k ≤ count s → pass_start s clock pass + taken s clock (of_pass s pass) k ≤ new_count s clock
  unfolding of_pass pass_start
  pass_fits clock h = go pass
    where
      go : (p : Bool) → pass_start s clock p + taken s clock (of_pass s p) k ≤ new_count s clock
      go true = let e = count_split s clock (count s) in let l = sum_le (λ j. cond (is_boolean s j) (length_of s clock j) 0) k (count s) h in omega arith
      go false = let e = count_split s clock (count s) in let l = sum_le (λ j. cond (is_other s j) (length_of s clock j) 0) k (count s) h in omega arith
