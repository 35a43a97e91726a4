-- `faults::placed::first_astray` meets its contract. Assumes nothing.
use mathlib.Core.Path.{◌∙◌, sym}
use native.Mathlib.Omega.{arith}
use Rattle.refusal.proofs.Firsts.{found_here, found_nowhere}
use Rattle.faults.specs.Computed.{Counted, astray}
use Rattle.faults.proofs.placed.first_astray.Goals as goal

pub is_astray-requires : goal.is_astray-requires
unfolding Counted
is_astray-requires c = (omega arith, omega arith, c.uses_in-uses.ensures _ (omega arith))

pub returns-then-is_astray : goal.returns-then-is_astray
returns-then-is_astray c = found_here (astray c.args.b.now c.args.n) _ _ (omega arith) c.loop-k.invariant (sym c.is_astray.ensures ∙ c.if-is_astray.true)

pub returns : goal.returns
returns c = found_nowhere (astray c.args.b.now c.args.n) _ _ (omega arith) c.loop-k.invariant
