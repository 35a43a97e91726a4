-- `table::checked_base` meets its contract: the base tables are those of versions 1 to `base`. Assumes nothing.
use Rattle.table.specs.Check.{refusals}
use Rattle.table.proofs.checked_base.Goals as goal

pub returns-clause-verdict : goal.returns-clause-verdict
unfolding refusals
returns-clause-verdict c = c.checked.ensures.verdict
