-- `rows::put_row` meets its contract: each arm lays in the row of its sort. Assumes nothing.
use borrow.Author.Rules.{rules}
use Rattle.rows.specs.Rows.{node_row}
use Rattle.rows.proofs.Filling.{boolean_row_is, property_row_is}
use Rattle.rows.proofs.put_row.Goals as goal

pub returns-in-Boolean : goal.returns-in-Boolean
returns-in-Boolean c =
    boolean_row_is _ _ _ _ _ _ _ _ _ c.in-Boolean.is (search rules) c.boolean_set-set.ensures c.none.ensures.weak c.none.ensures.strong c.put_three.ensures

pub returns-in-Sequence : goal.returns-in-Sequence
unfolding node_row
returns-in-Sequence c = rw c.in-Sequence.is c.put_sequence.ensures

pub returns-in-Property : goal.returns-in-Property
returns-in-Property c =
    property_row_is _ _ _ _ _ _ _ c.in-Property.is (search rules) (search rules) (search rules) c.suffixes_of-words.ensures c.put_three-in-Property.ensures
