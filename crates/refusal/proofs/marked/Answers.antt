-- `refusal::marked` meets its contract. Assumes nothing.
use mathlib.Core.Path.{◌∙◌}
use Rattle.refusal.proofs.Headings.{marked_is}
use Rattle.refusal.proofs.marked.Goals as goal

pub returns : goal.returns
returns c = c.eq.ensures ∙ marked_is c.args.letter c.args.b.now c.requires
