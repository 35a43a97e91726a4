-- `booleans::fallen_set`: the samples without the signal's word that are in that word moved by a place.
use Rattle.booleans.proofs.Changes.{fallen}
use Rattle.booleans.proofs.fallen_set.Goals as goal

pub returns : goal.returns
returns c = fallen _ _ c.requires.0 _ c.signal_set-high.ensures _ c.up.ensures _ c.all_samples.ensures _ c.without.ensures _ c.common.ensures
