-- `refusal::version_of` meets its contract. Assumes nothing.
use mathlib.Core.Path.{◌∙◌}
use Rattle.refusal.proofs.Headings.{version_is}
use Rattle.refusal.proofs.version_of.Goals as goal

pub returns : goal.returns
returns c = c.from.ensures ∙ c.from_le_bytes.ensures ∙ version_is c.args.b.now c.requires
