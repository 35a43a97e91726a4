-- `conditions::conditions` meets its contract. Assumes nothing.
use native.Mathlib.Omega.{arith}
use Rattle.conditions.proofs.Filling.{below_turn}
use Rattle.conditions.proofs.conditions.Goals as goal

pub loop-k-preserved : goal.loop-k-preserved
loop-k-preserved c = below_turn _ _ _ _ _ (let few = c.requires.few in omega arith) c.loop-k.invariant c.set_of-set.ensures
