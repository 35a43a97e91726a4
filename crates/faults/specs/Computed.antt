-- When a node is not well formed, and when it stands in other than one operand place, as tests that antt computes: what the code of refusals 6
-- and 7 is held to. `table/proofs/` has that they tell what the page says: `fits_tells`, `astray_tells`. Assumes nothing.
use Rattle.std.specs.Prelude.{◌≡◌, Bool, not, cond, ◌&&◌, ◌||◌, List, ℕ, ◌+◌, ◌/◌, ◌%◌, ◌<◌, ltb, leb, eqb, get_or}
use Rattle.refusal.specs.Heading.{version}
use Rattle.nodes.specs.Operators.{Row}
use Rattle.nodes.specs.Operators.{none, sequence, zero_byte, range_byte, count_byte}
use Rattle.nodes.specs.Nodes.{raw_at, row_at, sort_at, uses_of}
use Rattle.nodes.specs.Computed.{named_by}

-- ---- 6

unfoldable pub operand_fits : List ℕ → ℕ → ℕ → ℕ → ℕ → Bool
operand_fits s k sort limit v = cond (eqb sort none) (ltb v limit) (ltb v k && eqb (sort_at s v) sort)

unfoldable pub fourth_fits : ℕ → ℕ → Bool
fourth_fits kind v =
    (not (eqb kind zero_byte) || eqb v 0) && ((not (eqb kind range_byte) || leb (v % 16) (v / 16)) && (not (eqb kind count_byte) || leb v 15))

abbrev pub is_known_in : Row → ℕ → Bool
is_known_in r v = leb r.first v && leb v r.last

-- node k, in a table of version v
unfoldable pub node_fits : List ℕ → ℕ → ℕ → Bool
node_fits s v k =
    not (eqb (sort_at s k) none)
    && (is_known_in (row_at s k) v
    && (fourth_fits (row_at s k).fourth (raw_at s k).fourth
    && (operand_fits s k (row_at s k).x (row_at s k).limit (raw_at s k).x && operand_fits s k (row_at s k).y 1 (raw_at s k).y)))

abbrev pub unfit : List ℕ → ℕ → Bool
unfit s k = not (node_fits s (version s) k)

-- ---- 7

-- where the operand byte v is counted
unfoldable pub slot_of : ℕ → ℕ → ℕ
slot_of sort v = cond (eqb sort none) 120 (named_by v)

-- each of the counts is that of its node, in the n nodes
unfoldable pub Counted : List ℕ → ℕ → List ℕ → Type 0
Counted s n uses = (k : ℕ) → k < 120 → get_or uses k 0 ≡ uses_of s k n

unfoldable pub astray : List ℕ → ℕ → ℕ → Bool
astray s n k = not (ltb (sort_at s k) sequence) && (not (eqb (k + 1) n) && not (eqb (uses_of s k n) 1))
