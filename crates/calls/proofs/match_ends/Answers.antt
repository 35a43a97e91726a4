-- `calls::match_ends` meets its contract: the base call's answer, or the refusal of opening. Assumes nothing.
use mathlib.Core.Path.{◌∙◌, sym}
use Rattle.calls.proofs.Opening.{older}
use Rattle.calls.proofs.Returning.{ends_returns, ends_refused}
use Rattle.calls.proofs.match_ends.Goals as goal

pub returns-then-not-has_version_3 : goal.returns-then-not-has_version_3
returns-then-not-has_version_3 c = ends_returns _ _ (older _ (sym c.has_version_3.ensures ∙ c.if-not-has_version_3.true)) _ _ _ _ _ c.match_ends.ensures

pub returns-in-Ok : goal.returns-in-Ok
returns-in-Ok c = ends_returns _ _ c.in-Ok.ensures _ _ _ _ _ c.match_ends-in-Ok.ensures

pub returns-in-Err : goal.returns-in-Err
returns-in-Err c = ends_refused _ _ c.in-Err.ensures _ _ _ _ (rw c.from.ensures at c.refused.ensures)
