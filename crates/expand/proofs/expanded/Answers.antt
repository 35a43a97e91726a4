-- `expand::expanded` meets its contract. The sections of `Expanding` follow the code. Assumes nothing.
use mathlib.Core.Path.{sym}
use Rattle.std.proofs.lemmas.Result.{err_from_is_err_and}
use Rattle.expand.proofs.Expanding.{not_opened, new_small, new_copied, refused_table, old_small, old_copied}
use Rattle.expand.proofs.expanded.Goals as goal

pub returns-in_err-m : goal.returns-in_err-m
returns-in_err-m c =
    let p = err_from_is_err_and c.from_residual.result c.from_residual.ensures.1 in
    rw (p.1, p.2) (not_opened _ (sym c.if-has_version_3.ensures) _ _ _ c.in_err-m.ensures _)

pub returns-in_err-copy_table : goal.returns-in_err-copy_table
returns-in_err-copy_table c =
    let p = err_from_is_err_and c.from_residual-in_err-copy_table.result c.from_residual-in_err-copy_table.ensures.1 in
    let h = c.in_err-copy_table.ensures in
    rw (p.1, p.2, h.0, h.2) (new_small _ (sym c.if-has_version_3.ensures) _ _ _ c.in_ok-m.ensures _ h.1)

pub returns-then-has_version_3 : goal.returns-then-has_version_3
returns-then-has_version_3 c =
    let h = c.in_ok-copy_table.ensures in
    new_copied _ (sym c.if-has_version_3.ensures) _ _ _ c.in_ok-m.ensures _ h.0 _ h.1

pub returns-in_err-n : goal.returns-in_err-n
returns-in_err-n c =
    let p = err_from_is_err_and c.from_residual-in_err-n.result c.from_residual-in_err-n.ensures.1 in
    rw (p.1, p.2) (refused_table _ (sym c.if-has_version_3.ensures) _ c.in_err-n.ensures.verdict _)

pub returns-in_err-copy_table-2 : goal.returns-in_err-copy_table-2
returns-in_err-copy_table-2 c =
    let p = err_from_is_err_and c.from_residual-in_err-copy_table-2.result c.from_residual-in_err-copy_table-2.ensures.1 in
    let h = c.in_err-copy_table-2.ensures in
    rw (p.1, p.2, h.0, h.2) (old_small _ (sym c.if-has_version_3.ensures) c.in_ok-n.ensures.verdict _ h.1)

pub returns : goal.returns
returns c =
    let h = c.in_ok-copy_table-2.ensures in
    old_copied _ (sym c.if-has_version_3.ensures) c.in_ok-n.ensures.verdict _ c.in_ok-n.ensures.count _ h.0 _ h.1
