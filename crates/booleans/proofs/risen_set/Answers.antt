-- `booleans::risen_set`: the signal's word without that word moved by a place.
use Rattle.booleans.proofs.Changes.{risen}
use Rattle.booleans.proofs.risen_set.Goals as goal

pub returns : goal.returns
returns c = risen _ _ c.requires.0 _ c.signal_set-high.ensures _ c.up.ensures _ c.without.ensures
