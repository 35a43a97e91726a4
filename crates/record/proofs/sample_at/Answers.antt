-- `record::sample_at` meets its contract. Assumes nothing.
use mathlib.Core.Path.{◌∙◌}
use Rattle.record.proofs.Samples.{sample_is}
use Rattle.record.proofs.sample_at.Goals as goal

pub returns : goal.returns
returns c = c.from_le_bytes.ensures ∙ sample_is c.args.b.now c.args.i c.requires
