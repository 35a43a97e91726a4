-- Document 01, "Rewriting, node by node": rewriting writes a whole table, 6 + 4m bytes for m nodes; document 02: it copies the version. Assumes nothing.
use Rattle.std.specs.Prelude.{Bool, cond, List, [], ◌++◌, ℕ, zero, suc, get_or}
use Rattle.refusal.specs.Heading.{count}
use Rattle.nodes.specs.declared.Raw.{Raw}
use Rattle.nodes.specs.Nodes.{raw_at}
use Rattle.encoding.specs.Encoding.{heading, encoded}
use Rattle.nodes.specs.NodeClock.{Ref}
use Rattle.numbers.specs.Numbers.{is_boolean, is_other, new_count, start_of, number_of}
use Rattle.blocks.specs.Blocks.{block_under}

-- the mark, the two bytes of the version of s, and the count
abbrev pub headed : List ℕ → ℕ → List ℕ
headed s m = heading (get_or s 3 0) (get_or s 4 0) m

module _ (s : List ℕ) (clock : ℕ → Ref) where
  abbrev pub block_of : ℕ → List Raw
  block_of k = block_under (number_of s clock) (clock k) (start_of s clock k) (raw_at s k)

  -- the blocks of those nodes below k that pass the test, in order
  unfoldable pub laid : (ℕ → Bool) → ℕ → List Raw
  laid test zero = []
  laid test (suc k) = laid test k ++ cond (test k) (block_of k) []

  -- first all booleans, then one block per other node
  abbrev pub new_nodes : List Raw
  new_nodes = laid (is_boolean s) (count s) ++ laid (is_other s) (count s)

  unfoldable pub new_table : List ℕ
  new_table = headed s (new_count s clock) ++ encoded new_nodes
