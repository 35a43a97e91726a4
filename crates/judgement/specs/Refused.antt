-- A refusal: with level 0, not tested. Assumes nothing.
use Rattle.std.specs.Prelude.{◌≡◌, false}
use Rattle.refusal.specs.declared.Verdict.{Verdict}
use Rattle.judgement.specs.declared.Judgement.{Judgement}

pub record Refused (v : Verdict) (r : Judgement) : Type 0 where
  pub verdict : r.verdict ≡ v
  pub level : r.level.number ≡ 0
  pub tested : r.tested ≡ false
