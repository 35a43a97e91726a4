-- The nodes of a table's bytes: what stands at a node, when it is well formed, and in how many operand places a node stands. Assumes nothing.
use Rattle.std.specs.Prelude.{◌≡◌, ◌⊎◌, cond, List, ℕ, zero, suc, ◌+◌, ◌*◌, ◌-◌, ◌<◌, ◌≤◌, eqb, get_or}
use Rattle.refusal.specs.Heading.{version, count}
use Rattle.nodes.specs.declared.Raw.{Raw}
use Rattle.nodes.specs.declared.Node.{Node}
use Rattle.nodes.specs.Operators.{Row, none, sequence, property, row_of, node_of, Fourth}

-- 4 bytes a node: operator, x, y and the fourth
abbrev pub raw_at : List ℕ → ℕ → Raw
raw_at s k =
    record { op = get_or s (4 * k + 6) 0; x = get_or s (4 * k + 6 + 1) 0; y = get_or s (4 * k + 6 + 2) 0; fourth = get_or s (4 * k + 6 + 3) 0 }

-- what its operator fixes, its sort, and the decoded node
abbrev pub row_at : List ℕ → ℕ → Row
row_at s k = row_of (raw_at s k).op

unfoldable pub sort_at : List ℕ → ℕ → ℕ
sort_at s k = (row_at s k).own

abbrev pub node_at : List ℕ → ℕ → Node
node_at s k = node_of (raw_at s k)

-- the root is the last node
abbrev pub root : List ℕ → ℕ
root s = count s - 1

-- ---- well formed

-- v is right as an operand byte of node k: with no sort, a number below the limit; with a sort, the index of a lower node of that sort
pub record Operand (s : List ℕ) (k sort limit v : ℕ) : Type 0 where
  pub number : sort ≡ none → v < limit
  pub below : ¬ (sort ≡ none) → v < k
  pub sorted : ¬ (sort ≡ none) → sort_at s v ≡ sort

-- the operator of the row is known in the version v
abbrev pub KnownIn : Row → ℕ → Type 0
KnownIn r v = (r.first ≤ v) × (v ≤ r.last)

-- an operator that is known, in the table's version; right x and y, and a right fourth byte; an unused operand byte is 0
pub record WellFormed (s : List ℕ) (k : ℕ) : Type 0 where
  pub known : ¬ (sort_at s k ≡ none)
  pub in_version : KnownIn (row_at s k) (version s)
  pub x : Operand s k (row_at s k).x (row_at s k).limit (raw_at s k).x
  pub y : Operand s k (row_at s k).y 1 (raw_at s k).y
  pub fourth : Fourth (row_at s k).fourth (raw_at s k).fourth

-- ---- operand places

-- 1 where the byte v is an operand, of a sort, and is k; else 0
unfoldable pub hits_of : ℕ → ℕ → ℕ → ℕ
hits_of sort v k = cond (eqb sort none) 0 (cond (eqb v k) 1 0)

-- how many operand places of node j hold k
abbrev pub places_of : List ℕ → ℕ → ℕ → ℕ
places_of s k j = hits_of (row_at s j).x (raw_at s j).x k + hits_of (row_at s j).y (raw_at s j).y k

-- how many operand places of the nodes below n hold k
unfoldable pub uses_of : List ℕ → ℕ → ℕ → ℕ
uses_of s k zero = 0
uses_of s k (suc j) = uses_of s k j + places_of s k j

-- a sequence or property node, not root, in other than one operand place
pub record Astray (s : List ℕ) (n k : ℕ) : Type 0 where
  pub sort : (sort_at s k ≡ sequence) ⊎ (sort_at s k ≡ property)
  pub inner : ¬ (suc k ≡ n)
  pub places : ¬ (uses_of s k n ≡ 1)
