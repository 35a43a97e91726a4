-- `calls::base_of` meets its contract. Assumes nothing.
use Rattle.calls.proofs.Opening.{taken}
use Rattle.calls.proofs.base_of.Goals as goal

pub returns : goal.returns
returns c = taken _ _ _ _ _ c.in_ok-m.ensures c.requires
