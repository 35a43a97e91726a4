-- `xistomar::input::take`: each turn takes a byte at least, and those taken lie within the slice.
use Rattle.std.proofs.Common.{◌-◌, ◌≤◌, length}
use Rattle.xistomar.proofs.input.take.Given as goal

abbrev pub invariant-loop-done : goal.invariant-loop-done
invariant-loop-done g l = l.done ≤ length l.out

abbrev pub decreases-loop-done : goal.decreases-loop-done
decreases-loop-done g l = length l.out - l.done
