-- `line::answer` meets its contract. Assumes nothing.
use borrow.Author.Rules.{rules}
use mathlib.Core.Path.{sym}
use lib.Seq.{length-take-le}
use Rattle.line.proofs.Answering.{record_node, table_node, level_digit, within_words, answered}
use Rattle.line.proofs.answer.Goals as goal

pub slice_bounds-samples-end : goal.slice_bounds-samples-end
slice_bounds-samples-end c = within_words _ _ _ _ c.read-reading.ensures (search rules)

pub slice_bounds-judge-end : goal.slice_bounds-judge-end
slice_bounds-judge-end c = sym (length-take-le _ _ (within_words _ _ _ _ c.read-reading.ensures (search rules)))

pub put_line-requires : goal.put_line-requires
put_line-requires c = (search rules, search (table_node, record_node), search (table_node, record_node), search level_digit)

pub returns-clause-says : goal.returns-clause-says
returns-clause-says c = search answered
