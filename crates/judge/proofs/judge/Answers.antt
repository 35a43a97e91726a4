-- `judge::judge` meets its contract: a law of Judging.antt at each goal. Assumes nothing.
use mathlib.Core.Path.{refl}
use Rattle.refusal.proofs.Errors.{refused_by}
use Rattle.judge.proofs.Judging.{some, root_there, tested_there, judge_refused, judge_accepted}
use Rattle.judge.proofs.judge.Goals as goal

pub returns-in-Err : goal.returns-in-Err
returns-in-Err c = judge_refused _ _ _ _ _ _ _ c.in-Err.ensures (refused_by c.in-Err.unsettled.reason) _ (rw c.from.ensures at c.refused.ensures)

pub invariant_of-span : goal.invariant_of-span
invariant_of-span c = record { short = (tested_there _ _ _ _ _ _ _ _ _ c.in-Ok.ensures refl).short }

pub tested-tests-requires : goal.tested-tests-requires
tested-tests-requires c = tested_there _ _ _ _ _ _ _ _ _ c.in-Ok.ensures refl

pub overflow_sub-m : goal.overflow_sub-m
overflow_sub-m c = let w = c.in-Ok.ensures in some _ _ _ _ _ _ _ _ w.settles refl

pub level_of-requires : goal.level_of-requires
level_of-requires c = root_there _ _ _ _ _ _ _ _ _ c.in-Ok.ensures refl

pub returns : goal.returns
returns c = judge_accepted _ _ _ _ _ _ _ c.in-Ok.ensures refl _ c.level_of.ensures _ c.tested-tests.ensures
