-- `runs::lead`: one turn doubles the length, and six reach 64.
use Rattle.std.proofs.Common.{arith}
use Rattle.runs.proofs.Leading.{led_one, shifted_most, led_next, led_out}
use Rattle.runs.proofs.lead.Goals as goal

pub loop-k-init : goal.loop-k-init
loop-k-init c = led_one _

pub further-a-requires : goal.further-a-requires
further-a-requires c = shifted_most _ (omega arith)

pub loop-k-preserved : goal.loop-k-preserved
loop-k-preserved c = led_next _ c.loop-k.k _ _ (omega arith) c.loop-k.invariant c.further-a.ensures

pub returns : goal.returns
returns c = led_out _ c.loop-k.k _ (omega arith) c.loop-k.invariant
