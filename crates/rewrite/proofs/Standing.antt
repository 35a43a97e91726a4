-- What stands in the rewritten table for a node of a known kind: one node with new operand numbers, or its block. Assumes nothing.
use native.Mathlib.Omega.{arith}
use native.Mathlib.Nat.{add-zero}
use mathlib.Core.Path.{◌≡◌, ◌∙◌, sym, ap, subst}
use mathlib.Core.Logic.{inl, inr}
use mathlib.Core.Bool.{Bool, false, ◌&&◌}
use mathlib.Core.List.{List, map}
use Prim.Native.Nat.{ℕ, ◌+◌, ◌-◌, ◌<◌}
use lib.Dec.{T, eqb, ltb}
use lib.ListN.{length, get_or, length-map, get_or-map}
use Rattle.telling.proofs.Telling.{is_and, is_lt, is_test}
use Rattle.refusal.specs.Heading.{count}
use Rattle.nodes.specs.declared.Raw.{Raw}
use Rattle.nodes.specs.declared.Node.{Node}
use Rattle.nodes.specs.Operators.{row_of, node_of, bytes_of}
use Rattle.nodes.specs.Nodes.{raw_at, node_at, WellFormed}
use Rattle.nodes.specs.NodeClock.{Ref, free_r, on_r}
use Rattle.nodes.proofs.Coded.{coded_as, is_base, decoded}
use Rattle.clocks.specs.Clocks.{is_clock}
use Rattle.numbers.specs.Numbers.{start_of, number_of}
use Rattle.encoding.specs.Moved.{moved_node}
use Rattle.blocks.specs.Blocks.{block_under}
use Rattle.encoding.specs.Encoding.{blank_node, blank}
use Rattle.blocks.proofs.Viewing.{listed, Single, single_is}
use Rattle.writing.specs.Tables.{block_of, new_table}
use Rattle.rewrite.proofs.Cells.{cell_at, last_at}

-- us has a node i, of a base operator
abbrev pub based_at : List Node → ℕ → Bool
based_at us i = ltb i (length us) && is_base (get_or us i blank_node)

-- the nodes us stand in the new table as the block of node k
pub record Block (s : List ℕ) (clock : ℕ → Ref) (k : ℕ) (us : List Node) : Type 0 where
  pub cell : (i : ℕ) → T (based_at us i) → node_at (new_table s clock) (start_of s clock k + i) ≡ get_or us i blank_node
  pub first : T (based_at us 0) → node_at (new_table s clock) (start_of s clock k) ≡ get_or us 0 blank_node
  pub last : number_of s clock k ≡ start_of s clock k + (length us - 1)

module _ (s : List ℕ) (clock : ℕ → Ref) (fit : (k : ℕ) → k < count s → WellFormed s k) (k : ℕ) (h : k < count s) {v : Node} (e : node_at s k ≡ v) where
  abbrev ν : ℕ → ℕ
  ν = number_of s clock

  abbrev N : ℕ → Node
  N = node_at (new_table s clock)

  raw : raw_at s k ≡ bytes_of v
  raw = coded_as s k (fit k h) e

  no_clock : eqb (row_of (bytes_of v).op).block 0 ≡ false → is_clock s k ≡ false
  unfolding is_clock
  no_clock z = subst (λ (r : Raw). eqb (row_of r.op).block 0 ≡ false) (sym raw) z

  -- one node
  copy : eqb (row_of (bytes_of v).op).block 0 ≡ false → Single (clock k) (raw_at s k).op → N (ν k) ≡ node_of (moved_node ν (bytes_of v))
  unfolding is_clock
  copy z q =
      let b = single_is ν (clock k) (start_of s clock k) (raw_at s k) (no_clock z) q in
      let (p, o) = last_at s clock fit k h (no_clock z) in
      let l : length (block_of s clock k) ≡ 1 = ap length b in
      let o' : ν k ≡ start_of s clock k + 0 = o ∙ omega arith in
      ap N o' ∙ ap node_of (cell_at s clock fit k 0 h (omega arith) ∙ ap (λ (us : List Raw). get_or us 0 blank) b)
      ∙ ap (λ (r : Raw). node_of (moved_node ν r)) raw

  pub copy_else : eqb (row_of (bytes_of v).op).block 0 ≡ false → listed (bytes_of v).op ≡ false → N (ν k) ≡ node_of (moved_node ν (bytes_of v))
  copy_else z u = copy z (inr (ap (λ (r : Raw). listed r.op) raw ∙ u))

  pub copy_free : clock k ≡ free_r → eqb (row_of (bytes_of v).op).block 0 ≡ false → N (ν k) ≡ node_of (moved_node ν (bytes_of v))
  copy_free c z = copy z (inl c)

  -- a block, whose nodes are us
  module _ (c : ℕ) (ec : clock k ≡ on_r c) (us : List Node) (z : eqb (row_of (bytes_of v).op).block 0 ≡ false)
      (b : block_under ν (on_r c) (start_of s clock k) (bytes_of v) ≡ map bytes_of us) where
    block_is : block_of s clock k ≡ map bytes_of us
    block_is = ap (λ (ρ : Ref). block_under ν ρ (start_of s clock k) (raw_at s k)) ec ∙ ap (block_under ν (on_r c) (start_of s clock k)) raw ∙ b

    long : length (block_of s clock k) ≡ length us
    long = ap length block_is ∙ length-map us bytes_of

    cells : (i : ℕ) → T (based_at us i) → N (start_of s clock k + i) ≡ get_or us i blank_node
    cells i t =
        let (l, b) = (is_and (is_lt i (length us)) (is_test (is_base (get_or us i blank_node)))).to t in
        ap node_of (cell_at s clock fit k i h (let e = long in omega arith) ∙ ap (λ (rs : List Raw). get_or rs i blank) block_is ∙ get_or-map bytes_of us i blank_node)
        ∙ decoded (get_or us i blank_node) b

    pub block : Block s clock k us
    block = record {
      cell = cells;
      first = λ t. ap N (sym (add-zero (start_of s clock k))) ∙ cells 0 t;
      last = (last_at s clock fit k h (no_clock z)).1 ∙ (let e = long in omega arith);
    }
