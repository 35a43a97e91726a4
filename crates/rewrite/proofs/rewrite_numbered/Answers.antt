-- `rewrite::rewrite_numbered` meets its contract: a law of Exits.antt at each return. Assumes nothing.
use Rattle.std.proofs.lemmas.Result.{err_from_is_err_and}
use Rattle.rewrite.proofs.Exits.{of_table, table_is, many_nodes, small_output, rewritten}
use Rattle.rewrite.proofs.rewrite_numbered.Goals as goal

pub returns-in_err-checked_base : goal.returns-in_err-checked_base
returns-in_err-checked_base c =
    let p = err_from_is_err_and c.from_residual.result c.from_residual.ensures.1 in
    rw (p.1, p.2) (of_table _ _ _ c.in_err-checked_base.ensures.verdict _ _)

pub clocks_of-requires : goal.clocks_of-requires
clocks_of-requires c = (table_is _ c.in_ok-checked_base.ensures.verdict, c.requires)

pub returns-then-counts-gt-MOST : goal.returns-then-counts-gt-MOST
returns-then-counts-gt-MOST c =
    many_nodes _ _ c.in_ok-checked_base.ensures.verdict _ c.clocks_of.ensures _ c.counts_of-counts.ensures.counts_of c.if-counts-gt-MOST.true _

pub returns-then-out-counts : goal.returns-then-out-counts
returns-then-out-counts c =
    small_output _ _ c.in_ok-checked_base.ensures.verdict _ c.clocks_of.ensures _ c.counts_of-counts.ensures.counts_of c.if-counts-gt-MOST.false c.if-out-counts.true _

pub returns : goal.returns
returns c =
    rewritten _ _ c.in_ok-checked_base.ensures.verdict _ c.clocks_of.ensures _ c.counts_of-counts.ensures.counts_of c.if-counts-gt-MOST.false c.if-out-counts.false _ c.numbers_of.ensures _ c.put_table.ensures
