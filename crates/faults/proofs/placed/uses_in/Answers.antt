-- `faults::placed::uses_in` meets its contract. Assumes nothing.
use native.Mathlib.Omega.{arith}
use mathlib.Core.Path.{refl}
use lib.ListN.{length-set}
use Rattle.faults.proofs.Counting.{counted_more, bounded_more, nothing_counted, nothing-over}
use Rattle.faults.proofs.placed.uses_in.Goals as goal

pub loop-j-init : goal.loop-j-init
loop-j-init c = (refl, nothing_counted _, λ k. nothing-over k)

pub loop-j-preserved : goal.loop-j-preserved
loop-j-preserved c = (simp length-set (omega arith), search counted_more, search bounded_more)
