-- `linetext::put_level` meets its contract. Assumes nothing.
use Rattle.linetext.proofs.Lines.{puts_yes, puts_no}
use Rattle.linetext.proofs.put_level.Goals as goal

pub returns-then-tested : goal.returns-then-tested
returns-then-tested c = search puts_yes

pub returns : goal.returns
returns c = search puts_no
