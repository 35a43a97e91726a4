-- Document 01, "Rewriting, node by node": first all booleans in their order, then one block per other node in order. The block's last node stands for
-- it. A clock node has no block: its operand stands for it. Assumes nothing.
use Rattle.std.specs.Prelude.{Bool, not, cond, List, ℕ, zero, suc, ◌+◌, ◌-◌, min, eqb}
use Rattle.refusal.specs.Heading.{count}
use Rattle.nodes.specs.Operators.{boolean}
use Rattle.nodes.specs.Nodes.{raw_at, row_at, sort_at}
use Rattle.nodes.specs.NodeClock.{Ref, free_r, on_r}
use Rattle.clocks.specs.Clocks.{is_clock}

-- f 0 + f 1 + .. + f (n - 1)
unfoldable pub sum : (ℕ → ℕ) → ℕ → ℕ
sum f zero = 0
sum f (suc k) = sum f k + f k

module _ (s : List ℕ) where
  unfoldable pub is_boolean : ℕ → Bool
  is_boolean k = eqb (sort_at s k) boolean

  abbrev pub is_other : ℕ → Bool
  is_other k = not (is_boolean k)

-- the block length in an operator's row is for a node under a clock; a node with no clock is one node
unfoldable pub length_under : Ref → ℕ → ℕ
length_under free_r block = min block 1
length_under (on_r c) block = block

module _ (s : List ℕ) (clock : ℕ → Ref) where
  abbrev pub length_of : ℕ → ℕ
  length_of k = length_under (clock k) (row_at s k).block

  -- m, the sum of the block lengths
  abbrev pub new_count : ℕ
  new_count = sum length_of (count s)

  -- how many new nodes the blocks have of those nodes below k that pass the test
  abbrev pub taken : (ℕ → Bool) → ℕ → ℕ
  taken test = sum (λ j. cond (test j) (length_of j) 0)

  -- the number of the first node of k's block
  unfoldable pub start_of : ℕ → ℕ
  start_of k = cond (is_boolean s k) (taken (is_boolean s) k) (taken (is_boolean s) (count s) + taken (is_other s) k)

  -- the number of the node that stands for k, where f steps down to operands are enough; with none left there is no number to give
  unfoldable pub number_in : ℕ → ℕ → ℕ
  number_in zero k = 0
  number_in (suc f) k = cond (is_clock s k) (number_in f (raw_at s k).y) (start_of k + length_of k - 1)

  -- an operand lies below its node
  unfoldable pub number_of : ℕ → ℕ
  number_of k = number_in (suc k) k
