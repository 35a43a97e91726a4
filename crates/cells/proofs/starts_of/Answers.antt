-- `cells::starts_of`: what a start's answer tells.
use Rattle.std.proofs.Common.{rules}
use Rattle.cells.proofs.Loops.{asked_is, not_empty}
use Rattle.cells.proofs.starts_of.Goals as goal

pub returns : goal.returns
returns c = asked_is _ _ _ (λ i l. let h = c.starts_where.ensures.told i l in search (rules, not_empty)) c.starts_where.ensures.within
