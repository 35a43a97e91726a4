-- When a test that antt computes tells a statement, and the tests of some and of every position. Assumes nothing.
use Rattle.std.specs.Prelude.{Bool, true, false, ◌&&◌, ◌||◌, ℕ, zero, suc, T}

-- the test b passes exactly if P holds. It is a record, so that b and P are read off a proof's type and no law is ever given its tests
pub record Tells (b : Bool) (P : Type 0) : Type 0 where
  pub to : T b → P
  pub from : P → T b

-- some of the n positions from lo on, and all of them
unfoldable pub some : (ℕ → Bool) → ℕ → ℕ → Bool
some f lo zero = false
some f lo (suc n) = let r = some f (suc lo) n in f lo || r

unfoldable pub every : (ℕ → Bool) → ℕ → ℕ → Bool
every f lo zero = true
every f lo (suc n) = let r = every f (suc lo) n in f lo && r
