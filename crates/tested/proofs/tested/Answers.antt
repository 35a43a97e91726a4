-- `tested::tested` meets its contract: the array has the sets of the nodes below k. Assumes nothing.
use Rattle.std.proofs.Common.{rules, arith}
use Rattle.tested.proofs.Setting.{kept_none, kept_node, kept_all, rows_there}
use Rattle.tested.proofs.tested.Goals as goal

pub loop-k-init : goal.loop-k-init
loop-k-init c = kept_none _ _ _ _ _

pub node_set-set-requires : goal.node_set-set-requires
node_set-set-requires c = rows_there _ _ _ _ _ c.requires _ _ c.loop-k-test.true c.from-m.ensures _ c.node_at.ensures

pub loop-k-preserved : goal.loop-k-preserved
loop-k-preserved c =
    let f = c.requires.few in
    kept_node _ _ _ _ _ _ _ c.loop-k.invariant (omega arith) _ c.node_at.ensures _ (search rules) c.node_set-set.ensures

pub returns : goal.returns
returns c = kept_all _ _ _ _ _ _ _ c.loop-k.invariant _ c.from-m.ensures (omega arith) (omega arith) _ (search rules)
