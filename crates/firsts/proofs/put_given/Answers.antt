-- `firsts::put_given` meets its contract: one law where nothing is given, and one where a node is. Assumes nothing.
use Rattle.firsts.proofs.Giving.{known, none_counted, none_put, one_counted, one_put}
use Rattle.firsts.proofs.put_given.Goals as goal

pub given-requires : goal.given-requires
given-requires c = search known

pub returns-in_default-clause-value : goal.returns-in_default-clause-value
returns-in_default-clause-value c = search none_counted

pub returns-in_default-clause-out_after : goal.returns-in_default-clause-out_after
returns-in_default-clause-out_after c = search none_put

pub returns-clause-value : goal.returns-clause-value
returns-clause-value c = search one_counted

pub returns-clause-out_after : goal.returns-clause-out_after
returns-clause-out_after c = search one_put
