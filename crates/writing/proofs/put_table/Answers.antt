-- `writing::put_table` meets its contract: the heading, the booleans and the others stand one after the other. Assumes nothing.
use Rattle.std.proofs.Common.{◌∙◌}
use Rattle.writing.proofs.Turns.{booleans_begin, others_begin, table_put}
use Rattle.writing.proofs.put_table.Goals as goal

pub put_pass-requires-clause-begins : goal.put_pass-requires-clause-begins
put_pass-requires-clause-begins c = booleans_begin _ _ _ c.requires.counts_of.0 c.requires.numbered.timed _ c.requires.counts_of.1 _ c.put_headed.auto.out

pub put_pass-requires-2-clause-begins : goal.put_pass-requires-2-clause-begins
put_pass-requires-2-clause-begins c =
    others_begin _ _ _ c.requires.counts_of.0 c.requires.numbered.timed _ c.requires.counts_of.1 _ (c.put_pass.auto.out ∙ c.put_headed.auto.out)

pub returns : goal.returns
returns c =
    table_put _ _ _ c.requires.counts_of.0 c.requires.numbered.timed _ c.requires.counts_of.1 _ c.put_headed.ensures _ c.put_pass.ensures _ c.put_pass-2.ensures
