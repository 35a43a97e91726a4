-- `plain::root_told` meets its contract: under no clock each sample counts. Assumes nothing.
use Rattle.plain.proofs.Judging.{root_right}
use Rattle.plain.proofs.root_told.Goals as goal

pub returns : goal.returns
returns c = search root_right
