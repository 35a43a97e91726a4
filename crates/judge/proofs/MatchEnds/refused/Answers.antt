-- `MatchEnds::refused` meets its contract. Assumes nothing.
use mathlib.Core.Path.{refl}
use mathlib.Core.Bool.{false}
use Rattle.positions.proofs.Laws.{has_none, unique}
use Rattle.judge.proofs.MatchEnds.refused.Goals as goal

pub returns : goal.returns
returns c = record { verdict = refl; mask = unique c.empty.result.bits 0 (λ k. false) c.empty.ensures has_none; top = refl }
