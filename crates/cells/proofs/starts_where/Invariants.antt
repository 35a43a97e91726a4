-- The places below i have been asked, and no other is in the set.
use Rattle.std.proofs.Common.{◌≡◌, ℕ, ◌<◌, ◌≤◌, false}
use Rattle.positions.specs.Member.{has}
use Rattle.cells.proofs.starts_where.Given as goal

abbrev pub invariant-loop-i : goal.invariant-loop-i
invariant-loop-i g l = record {
  below : (j : ℕ) → j < l.i → goal.F-post g l.test j (has l.out.bits j);
  above : (j : ℕ) → l.i ≤ j → has l.out.bits j ≡ false;
}
