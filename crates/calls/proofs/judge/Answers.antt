-- `calls::judge` meets its contract: the base call's answer, or the refusal of opening. Assumes nothing.
use mathlib.Core.Path.{◌∙◌, sym}
use Rattle.calls.proofs.Opening.{older}
use Rattle.calls.proofs.Returning.{judge_returns, judge_refused}
use Rattle.calls.proofs.judge.Goals as goal

pub returns-then-not-has_version_3 : goal.returns-then-not-has_version_3
returns-then-not-has_version_3 c = judge_returns _ _ (older _ (sym c.has_version_3.ensures ∙ c.if-not-has_version_3.true)) _ _ _ _ c.judge.ensures

pub returns-in-Ok : goal.returns-in-Ok
returns-in-Ok c = judge_returns _ _ c.in-Ok.ensures _ _ _ _ c.judge-in-Ok.ensures

pub returns-in-Err : goal.returns-in-Err
returns-in-Err c = judge_refused _ _ c.in-Err.ensures _ _ (rw c.from.ensures at c.refused.ensures) _
