-- The node that a byte names, as the code looks it up: what it is held to. Assumes nothing.
use Rattle.std.specs.Prelude.{cond, ℕ, ltb}

-- the node that the byte v names, or 120, which no node is
unfoldable pub named_by : ℕ → ℕ
named_by v = cond (ltb v 120) v 120
