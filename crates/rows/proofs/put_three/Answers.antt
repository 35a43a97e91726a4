-- `rows::put_three` meets its contract: three words are written and the others of the share made 0. Assumes nothing.
use borrow.Author.Rules.{rules}
use Rattle.rows.proofs.Filling.{three_row_is}
use Rattle.rows.proofs.put_three.Goals as goal

pub returns : goal.returns
returns c = three_row_is _ _ _ _ _ _ (search rules) c.clear.ensures
