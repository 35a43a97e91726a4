-- `cells::starts_into`: what a start's answer tells.
use Rattle.std.proofs.Common.{rules}
use Rattle.cells.proofs.Loops.{asked_is, met_in}
use Rattle.cells.proofs.starts_into.Goals as goal

pub returns : goal.returns
returns c = asked_is _ _ _ (λ i l. let h = c.starts_where.ensures.told i l in search (rules, met_in)) c.starts_where.ensures.within
