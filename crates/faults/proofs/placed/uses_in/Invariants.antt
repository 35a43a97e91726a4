-- The counts are those of the nodes below j, and no count is over two for each. Assumes nothing.
use mathlib.Core.Path.{◌≡◌}
use Prim.Native.Nat.{ℕ, ◌*◌, ◌≤◌}
use lib.ListN.{length, get_or}
use Rattle.faults.specs.Computed.{Counted}
use Rattle.faults.proofs.placed.uses_in.Given as goal

abbrev pub invariant-loop-j : goal.invariant-loop-j
invariant-loop-j l = (length l.uses ≡ 121) × Counted l.b l.j l.uses × ((k : ℕ) → get_or l.uses k 0 ≤ 2 * l.j)
