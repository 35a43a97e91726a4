-- `sequences::put_sequence` meets its contract.
use borrow.Author.Rules.{rules}
use Rattle.sequences.proofs.Making.{row_in}
use Rattle.sequences.proofs.put_sequence.Goals as goal

pub returns : goal.returns
returns c = row_in _ _ _ _ _ _ _ (search rules) (search rules) c.put_own.ensures
