-- How long the blocks are, and what is made of them: lists of nodes, their bytes and the new table. Assumes nothing.
use native.Mathlib.Omega.{arith}
use native.Mathlib.Nat.{le_refl}
use borrow.Author.Tests.{eqb-true, eqb-false}
use mathlib.Core.Path.{◌≡◌, refl, ◌∙◌, sym, ap, subst}
use mathlib.Core.Logic.{inl, inr, ⊎_elim}
use mathlib.Core.Bool.{Bool, true, false, cond, ◌||◌}
use mathlib.Core.List.{List, []}
use Prim.Native.Nat.{ℕ, zero, suc, ◌+◌, ◌*◌, ◌<◌, ◌≤◌}
use lib.Dec.{leb}
use lib.ListN.{length, length-append}
use Rattle.telling.proofs.Telling.{is_or, is_test, is_le, failed}
use Rattle.refusal.specs.Heading.{count}
use Rattle.nodes.specs.Operators.{Row}
use Rattle.nodes.specs.declared.Raw.{Raw}
use Rattle.nodes.specs.Operators.{none, Entry, operators, lookup, row_of}
use Rattle.nodes.specs.Nodes.{raw_at, sort_at, WellFormed}
use Rattle.nodes.specs.NodeClock.{Ref, free_r, on_r}
use Rattle.nodes.proofs.Lookup.{line_of}
use Rattle.numbers.specs.Numbers.{sum, is_boolean, is_other, length_under, length_of, new_count, taken, start_of, number_of}
use Rattle.numbers.proofs.Numbering.{none_under, count_split}
use Rattle.blocks.specs.Blocks.{block_under}
use Rattle.blocks.proofs.Viewing.{listed, Single, not_free, none_is, single_is, letter_is, next_is, until_is, View, of_none, of_single, of_letter, of_next, of_until, view}
use Rattle.encoding.specs.Encoding.{encoded}
use Rattle.encoding.proofs.Putting.{length-encoded}
use Rattle.writing.specs.Tables.{headed, block_of, laid, new_nodes, new_table}

-- ---- a block

-- an operator that is none of the three listed has a block of one node or none
single : Entry → Bool
single e = listed e.code || leb e.row.block 1

few_else : (op : ℕ) → ¬ ((row_of op).own ≡ none) → listed op ≡ false → (row_of op).block ≤ 1
unfolding operators single
few_else op k f =
    let (e, r, o, t) = line_of single tt op k in
    let z = (is_or (is_test (listed e.code)) (is_le e.row.block 1)).to t in
    subst (λ (u : Row). u.block ≤ 1) (sym r) (⊎_elim (λ q. absurd (failed (is_test (listed e.code)) (ap listed (sym o) ∙ f) q)) (λ l. l) z)

-- one that is single has a block of one node, if any
one_long : (ρ : Ref) (op : ℕ) → ¬ ((row_of op).own ≡ none) → ¬ ((row_of op).block ≡ 0) → Single ρ op → length_under ρ (row_of op).block ≡ 1
unfolding length_under
one_long free_r op k z q = omega arith
one_long (on_r c) op k z (inl q) = absurd (not_free c q)
one_long (on_r c) op k z (inr q) = let l = few_else op k q in omega arith

of_listed : (ρ : Ref) (c op n m : ℕ) → ρ ≡ on_r c → op ≡ n → (row_of n).block ≡ m → length_under ρ (row_of op).block ≡ m
unfolding length_under
of_listed ρ c op n m e o q = rw (e, o) q

-- a node's block has the length that its row and its clock say
under_long : (ν : ℕ → ℕ) (ρ : Ref) (at : ℕ) (r : Raw) → ¬ ((row_of r.op).own ≡ none) → length (block_under ν ρ at r) ≡ length_under ρ (row_of r.op).block
unfolding row_of lookup operators
under_long ν ρ at r k = go (view ρ r.op)
  where
    go : View ρ r.op → length (block_under ν ρ at r) ≡ length_under ρ (row_of r.op).block
    go (of_none z) = ap length (none_is ν ρ at r z) ∙ sym (none_under ρ (row_of r.op).block (eqb-true (row_of r.op).block 0 z))
    go (of_single z q) = ap length (single_is ν ρ at r z q) ∙ sym (one_long ρ r.op k (eqb-false (row_of r.op).block 0 z) q)
    go (of_letter c e o) = ap length (letter_is ν ρ at r c e o) ∙ sym (of_listed ρ c r.op 16 9 e o refl)
    go (of_next c e o) = ap length (next_is ν ρ at r c e o) ∙ sym (of_listed ρ c r.op 38 14 e o refl)
    go (of_until c e o) = ap length (until_is ν ρ at r c e o) ∙ sym (of_listed ρ c r.op 39 9 e o refl)

-- ---- the blocks of a table

module _ (s : List ℕ) (clock : ℕ → Ref) (fit : (k : ℕ) → k < count s → WellFormed s k) where
  pub block_long : (k : ℕ) → k < count s → length (block_of s clock k) ≡ length_of s clock k
  unfolding sort_at
  block_long k h = under_long (number_of s clock) (clock k) (start_of s clock k) (raw_at s k) (fit k h).known

  pub laid-long : (test : ℕ → Bool) (k : ℕ) → k ≤ count s → length (laid s clock test k) ≡ taken s clock test k
  unfolding laid sum
  laid-long test zero h = refl
  laid-long test (suc k) h =
      length-append (laid s clock test k) (cond (test k) (block_of s clock k) [])
      ∙ (let e = laid-long test k (omega arith) in let f = part_long (test k) in omega arith)
    where
      part_long : (b : Bool) → length (cond b (block_of s clock k) []) ≡ cond b (length_of s clock k) 0
      part_long true = block_long k h
      part_long false = refl

  pub length_new : length (new_nodes s clock) ≡ new_count s clock
  length_new =
      length-append (laid s clock (is_boolean s) (count s)) (laid s clock (is_other s) (count s))
      ∙ (let p = laid-long (is_boolean s) (count s) (le_refl _) in
      let q = laid-long (is_other s) (count s) (le_refl _) in
      let e = count_split s clock (count s) in
      omega arith)

  pub length-table : length (new_table s clock) ≡ 4 * new_count s clock + 6
  unfolding new_table
  length-table =
      length-append (headed s (new_count s clock)) (encoded (new_nodes s clock))
      ∙ (let a = length-encoded (new_nodes s clock) in let b = length_new in omega arith)
