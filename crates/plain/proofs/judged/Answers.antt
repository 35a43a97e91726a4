-- `plain::judged` meets its contract: a law of `Judging` at each exit. Assumes nothing.
use mathlib.Core.Path.{refl}
use Rattle.std.proofs.lemmas.Result.{err_from_is_err_and}
use Rattle.plain.proofs.Judging.{by_check, has_root, root_bytes, by_root, by_length, shaped, answered}
use Rattle.plain.proofs.judged.Goals as goal

pub returns-in_err-m : goal.returns-in_err-m
returns-in_err-m c =
    let p = err_from_is_err_and c.from_residual.result c.from_residual.ensures.1 in
    rw (p.1, p.2) (by_check _ _ _ c.in_err-m.ensures.verdict)

pub overflow_sub-m : goal.overflow_sub-m
overflow_sub-m c = has_root _ c.args.samples.now c.in_ok-m.ensures.verdict _ c.in_ok-m.ensures.count

pub sort_at-requires : goal.sort_at-requires
sort_at-requires c = root_bytes _ c.args.samples.now c.in_ok-m.ensures.verdict _ c.in_ok-m.ensures.count

pub returns-then-eq : goal.returns-then-eq
returns-then-eq c = by_root _ _ c.in_ok-m.ensures.verdict _ c.in_ok-m.ensures.count _ c.sort_at.ensures _ c.eq.ensures c.if-eq.true

pub returns-then-samples-gt-LONGEST : goal.returns-then-samples-gt-LONGEST
returns-then-samples-gt-LONGEST c =
    by_length _ _ c.in_ok-m.ensures.verdict _ c.in_ok-m.ensures.count _ c.sort_at.ensures _ c.eq.ensures c.if-eq.false c.if-samples-gt-LONGEST.true

pub root_told-root-requires : goal.root_told-root-requires
root_told-root-requires c =
    let v = c.in_ok-m.ensures.verdict in
    let e = c.in_ok-m.ensures.count in
    (shaped _ _ v _ e _ c.sort_at.ensures _ c.eq.ensures c.if-eq.false c.if-samples-gt-LONGEST.false, has_root _ c.args.samples.now v _ refl)

pub returns : goal.returns
returns c =
    answered _ _ c.in_ok-m.ensures.verdict _ c.in_ok-m.ensures.count _ c.sort_at.ensures _ c.eq.ensures c.if-eq.false c.if-samples-gt-LONGEST.false _
    c.root_told-root.ensures _ c.level_of.ensures _ c.has.ensures
