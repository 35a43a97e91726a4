-- `steps::beside::pair_row` meets its contract: the third row is made of the first two. Assumes nothing.
use Rattle.steps.proofs.Copies.{pair_made}
use Rattle.steps.proofs.beside.pair_row.Goals as goal

pub returns : goal.returns
returns c = search pair_made
