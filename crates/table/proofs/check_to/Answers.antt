-- `table::check_to` meets its contract. Assumes nothing.
use Rattle.table.proofs.check_to.Goals as goal

pub returns : goal.returns
returns c = rw c.of.ensures c.checked.ensures.verdict
