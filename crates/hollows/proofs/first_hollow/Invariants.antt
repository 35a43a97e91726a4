-- The first k entries are the flags of the nodes below k, nothing is kept after them, and no node that was passed is hollow. Assumes nothing.
use mathlib.Core.Path.{◌≡◌}
use mathlib.Core.Bool.{false}
use Prim.Native.Nat.{ℕ, ◌<◌, ◌≤◌}
use lib.ListN.{length, take, get_or}
use Rattle.hollows.specs.Flags.{nothing, tops_below, hollow}
use Rattle.hollows.proofs.first_hollow.Given as goal

abbrev pub invariant-loop-k : goal.invariant-loop-k
invariant-loop-k l = record {
  size : length l.done ≡ 121;
  flags : take l.k l.done ≡ tops_below l.b l.k;
  later : (j : ℕ) → l.k ≤ j → get_or l.done j nothing ≡ nothing;
  solid : (j : ℕ) → j < l.k → hollow l.b j ≡ false;
}
