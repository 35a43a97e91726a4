-- Document 02, request 4: an expander turns a version 3 table into base nodes, as a version 2 table; older tables are copied. Assumes nothing.
use Rattle.std.specs.Prelude.{cond, List, ◌++◌, ℕ, ◌+◌, ◌<◌, eqb}
use Rattle.refusal.specs.First.{Refusal, when}
use Rattle.refusal.specs.Heading.{version, count}
use Rattle.nodes.specs.declared.Raw.{Raw}
use Rattle.nodes.specs.Nodes.{root}
use Rattle.encoding.specs.Encoding.{heading, encoded}
use Rattle.expansion.specs.Forms.{size, written}
use Rattle.expansion.specs.Booleans.{number_of, booleans_below}
use Rattle.expansion.specs.Nodes.{form_of}

module _ (s : List ℕ) where
  -- how many booleans and how many base nodes a version 3 table is turned into
  abbrev pub booleans : ℕ
  booleans = number_of s (count s)

  abbrev pub base_count : ℕ
  base_count = booleans + size (form_of s (root s))

  -- first all booleans, then the root's form
  abbrev pub base_nodes : List Raw
  base_nodes = booleans_below s (count s) ++ written booleans (form_of s (root s))

  -- as a version 2 table
  unfoldable pub base_table : List ℕ
  base_table = heading 2 0 base_count ++ encoded base_nodes

  -- the expansion of a table of any version, and its count
  unfoldable pub expansion : List ℕ
  expansion = cond (eqb (version s) 3) base_table s

  unfoldable pub expanded_count : ℕ
  expanded_count = cond (eqb (version s) 3) base_count (count s)

  -- expanded count over 120
  abbrev pub too_large : Refusal
  too_large = when 13 (120 < expanded_count)
