-- `line::table_end` meets its contract. Assumes nothing.
use Rattle.line.proofs.Parts.{ends_torn, ends_there}
use Rattle.line.proofs.table_end.Goals as goal

pub returns-then-input-lt6-clause-parts_at : goal.returns-then-input-lt6-clause-parts_at
returns-then-input-lt6-clause-parts_at c = ends_torn _ c.if-input-lt6.true

pub returns-clause-parts_at : goal.returns-clause-parts_at
returns-clause-parts_at c = ends_there _ _ _ c.from.ensures c.min.ensures
