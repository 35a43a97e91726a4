-- `expand::open` meets its contract. The sections of `Opening` follow the code. Assumes nothing.
use mathlib.Core.Path.{◌∙◌}
use Rattle.std.proofs.lemmas.Result.{err_from_is_err_and}
use Rattle.expand.proofs.Opening.{stopped, some, last_there, wrong_root_lem, formed, heavy, answered}
use Rattle.expand.proofs.open.Goals as goal

pub returns-in_err-n : goal.returns-in_err-n
returns-in_err-n c =
    let p = err_from_is_err_and c.from_residual.result c.from_residual.ensures.1 in
    rw (p.1, p.2) (stopped _ c.requires _ _ _ c.in_err-n.ensures.verdict)

pub overflow_sub-n : goal.overflow_sub-n
overflow_sub-n c = some _ c.in_ok-n.ensures.verdict _ c.in_ok-n.ensures.count

pub sort_at-requires : goal.sort_at-requires
sort_at-requires c = last_there _ c.in_ok-n.ensures.verdict _ c.in_ok-n.ensures.count

pub returns-then-sort_number-wrong : goal.returns-then-sort_number-wrong
returns-then-sort_number-wrong c =
    wrong_root_lem _ c.requires _ _ c.in_ok-n.ensures.verdict _ c.in_ok-n.ensures.count _ (c.sort_number.ensures ∙ c.sort_at.ensures) c.if-sort_number-wrong.true

pub unfold-requires : goal.unfold-requires
unfold-requires c =
    let v = c.in_ok-n.ensures.verdict in
    let e = c.in_ok-n.ensures.count in
    (formed _ v _ e, e, some _ v _ e, heavy _ v _ e)

pub returns : goal.returns
returns c =
    rw c.ok_or.ensures.value
    (answered _ c.requires _ _ c.in_ok-n.ensures.verdict _ c.in_ok-n.ensures.count _ (c.sort_number.ensures ∙ c.sort_at.ensures) c.if-sort_number-wrong.false _ _ c.unfold.ensures)
