-- What a table has that gets none of refusals 4 to 8. Assumes nothing.
use native.Mathlib.Omega.{arith}
use mathlib.Core.Path.{◌≡◌}
use mathlib.Core.List.{List}
use Prim.Native.Nat.{ℕ, suc, ◌+◌, ◌*◌, ◌<◌, ◌≤◌}
use lib.ListN.{length}
use Rattle.refusal.specs.Heading.{count}
use Rattle.nodes.specs.Operators.{boolean, sequence}
use Rattle.nodes.specs.Nodes.{sort_at, uses_of, root, WellFormed}

pub record Built (s : List ℕ) : Type 0 where
  pub some : 1 ≤ count s
  pub few : count s ≤ 120
  pub long : length s ≡ 4 * count s + 6
  pub fit : (k : ℕ) → k < count s → WellFormed s k
  pub once : (k : ℕ) → suc k < count s → sequence ≤ sort_at s k → uses_of s k (count s) ≡ 1
  pub rooted : ¬ (sort_at s (root s) ≡ boolean)

module _ {s : List ℕ} (ok : Built s) where
  pub root_in : root s < count s
  root_in = let l = ok.some in omega arith

  -- the root is a sequence or a property
  pub root_heavy : sequence ≤ sort_at s (root s)
  root_heavy = let r = ok.rooted in let k = (ok.fit (root s) root_in).known in omega arith
