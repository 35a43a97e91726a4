-- `calls::plain_judge` meets its contract: the base call's answer, or the refusal of opening. Assumes nothing.
use mathlib.Core.Path.{◌∙◌, sym}
use Rattle.calls.proofs.Opening.{older}
use Rattle.calls.proofs.Returning.{plain_returns, plain_refused}
use Rattle.calls.proofs.plain_judge.Goals as goal

pub returns-then-not-has_version_3 : goal.returns-then-not-has_version_3
returns-then-not-has_version_3 c = plain_returns _ _ (older _ (sym c.has_version_3.ensures ∙ c.if-not-has_version_3.true)) _ _ c.plain_judge.ensures

pub returns-in-Ok : goal.returns-in-Ok
returns-in-Ok c = plain_returns _ _ c.in-Ok.ensures _ _ c.plain_judge-in-Ok.ensures

pub returns-in-Err : goal.returns-in-Err
returns-in-Err c = plain_refused _ _ c.in-Err.ensures _ _ (rw c.from.ensures at c.refused.ensures)
