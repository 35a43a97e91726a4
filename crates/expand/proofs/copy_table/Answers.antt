-- `expand::copy_table` meets its contract: one byte more at each turn. Assumes nothing.
use mathlib.Core.Path.{refl}
use native.Mathlib.Omega.{arith}
use lib.ListN.{length-set}
use Rattle.expand.proofs.Copying.{none_copied, one_copied}
use Rattle.expand.proofs.copy_table.Goals as goal

pub loop-i-init : goal.loop-i-init
loop-i-init c = (refl, none_copied c.args.table.now c.args.out.now)

pub loop-i-preserved : goal.loop-i-preserved
loop-i-preserved c = (simp length-set (omega arith), search one_copied)
