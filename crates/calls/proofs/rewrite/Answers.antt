-- `calls::rewrite` meets its contract: the base call's answer, or the refusal of opening. Assumes nothing.
use mathlib.Core.Path.{◌∙◌, sym}
use Rattle.calls.proofs.Opening.{older}
use Rattle.calls.proofs.Returning.{rewrite_returns, rewrite_refused}
use Rattle.calls.proofs.rewrite.Goals as goal

pub returns-then-not-has_version_3 : goal.returns-then-not-has_version_3
returns-then-not-has_version_3 c = rewrite_returns _ _ (older _ (sym c.has_version_3.ensures ∙ c.if-not-has_version_3.true)) _ _ _ c.rewrite.ensures

pub returns-in-Ok : goal.returns-in-Ok
returns-in-Ok c = rewrite_returns _ _ c.in-Ok.ensures _ _ _ c.rewrite-in-Ok.ensures

pub returns-in-Err : goal.returns-in-Err
returns-in-Err c = rw c.from.ensures (rewrite_refused _ _ c.in-Err.ensures _)
