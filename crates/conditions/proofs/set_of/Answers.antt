-- `conditions::set_of` meets its contract: a boolean has the samples that satisfy it, any other node none. Assumes nothing.
use borrow.Author.Rules.{rules}
use Rattle.conditions.proofs.Filling.{low_boolean, boolean_made, no_boolean}
use Rattle.conditions.proofs.set_of.Goals as goal

pub boolean_set-requires : goal.boolean_set-requires
boolean_set-requires c = (search rules, search low_boolean, search rules)

pub returns-in-Boolean : goal.returns-in-Boolean
returns-in-Boolean c = search boolean_made

pub returns-in-Sequence : goal.returns-in-Sequence
returns-in-Sequence c = search no_boolean
