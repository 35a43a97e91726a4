-- `record::put_samples` meets its contract. Assumes nothing.
use mathlib.Core.Path.{refl}
use native.Mathlib.Omega.{arith}
use lib.ListN.{length-set}
use Rattle.record.proofs.Samples.{none_written, one_written}
use Rattle.record.proofs.put_samples.Goals as goal

pub loop-i-init : goal.loop-i-init
loop-i-init c = (refl, none_written c.args.b.now c.args.out.now)

pub loop-i-preserved : goal.loop-i-preserved
loop-i-preserved c = (simp length-set (omega arith), search one_written)
