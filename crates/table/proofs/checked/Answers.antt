-- `table::checked` meets its contract: each exit is the first of its tests that stops. Assumes nothing.
use mathlib.Core.Path.{ap}
use mathlib.Core.Bool.{not}
use Prim.Native.Nat.{◌<◌}
use borrow.Author.Rules.{rules}
use lib.ListN.{length}
use Rattle.std.proofs.lemmas.Result.{err_from_is_err_and}
use Rattle.refusal.proofs.Errors.{six_bytes}
use Rattle.table.proofs.Answering.{by_heading, wrong_count, wrong_length, by_nodes}
use Rattle.table.proofs.checked.Goals as goal

pub returns-in_err-heading-clause-verdict : goal.returns-in_err-heading-clause-verdict
returns-in_err-heading-clause-verdict c =
    let p = err_from_is_err_and c.from_residual.result c.from_residual.ensures.1 in
    rw (p.1, p.2) (by_heading _ _ _ c.in_err-heading.ensures)

pub bounds-b-5 : goal.bounds-b-5
bounds-b-5 c = let h : 5 < length c.args.b.now = six_bytes 84 _ _ c.in_ok-heading.ensures in search rules

pub returns-then-not-is_count-clause-verdict : goal.returns-then-not-is_count-clause-verdict
returns-then-not-is_count-clause-verdict c =
    wrong_count _ _ c.in_ok-heading.ensures _ c.from-n.ensures _ c.is_count.ensures (ap not c.if-not-is_count.true)

pub returns-then-b-n-clause-verdict : goal.returns-then-b-n-clause-verdict
returns-then-b-n-clause-verdict c =
    wrong_length _ _ c.in_ok-heading.ensures _ c.from-n.ensures _ c.is_count.ensures (ap not c.if-not-is_count.false) c.if-b-n.true

pub returns-in_err-check_nodes-clause-verdict : goal.returns-in_err-check_nodes-clause-verdict
returns-in_err-check_nodes-clause-verdict c =
    let p = err_from_is_err_and c.from_residual-in_err-check_nodes.result c.from_residual-in_err-check_nodes.ensures.1 in
    rw (p.1, p.2)
    (by_nodes _ _ c.in_ok-heading.ensures _ c.from-n.ensures _ c.is_count.ensures (ap not c.if-not-is_count.false) c.if-b-n.false _ c.in_err-check_nodes.ensures)

pub returns-clause-verdict : goal.returns-clause-verdict
returns-clause-verdict c =
    by_nodes _ _ c.in_ok-heading.ensures _ c.from-n.ensures _ c.is_count.ensures (ap not c.if-not-is_count.false) c.if-b-n.false _ c.in_ok-check_nodes.ensures
