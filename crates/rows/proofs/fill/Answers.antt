-- `rows::fill` meets its contract. Assumes nothing.
use mathlib.Core.Path.{ap, ◌∙◌}
use Rattle.nodes.specs.Operators.{node_of}
use Rattle.rows.proofs.Filling.{filled_zero, filled-step}
use Rattle.rows.proofs.fill.Goals as goal

pub loop-k-init : goal.loop-k-init
loop-k-init c = filled_zero _ _ _

pub loop-k-preserved : goal.loop-k-preserved
loop-k-preserved c = filled-step _ _ _ _ _ _ _ c.loop-k.invariant (c.from.ensures.made ∙ ap node_of c.node_at.ensures) c.put_row.ensures
