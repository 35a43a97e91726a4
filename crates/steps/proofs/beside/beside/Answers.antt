-- `steps::beside::beside` meets its contract. Assumes nothing.
use lib.ListN.{replicate}
use Rattle.steps.proofs.Copies.{beside_made}
use Rattle.steps.proofs.beside.beside.Goals as goal

pub returns : goal.returns
returns c = beside_made _ _ _ _ (replicate 195 0) c.told-x c.told-y c.copy_from_slice.ensures.after c.copy_from_slice-2.ensures.after
