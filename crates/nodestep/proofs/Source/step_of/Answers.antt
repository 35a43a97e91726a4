-- `nodestep::Source::step_of` meets its contract: the steps of the pieces. Assumes nothing.
use Rattle.pieces.specs.Pieces.{piece_form, rank, Fits}
use Rattle.pieces.proofs.Stepping.{sequence_steps, property_steps}
use Rattle.nodestep.proofs.Source.step_of.Goals as goal

pub returns-in-SequenceOf : goal.returns-in-SequenceOf
unfolding piece_form rank Fits
returns-in-SequenceOf c = rw (c.in-SequenceOf.is, c.sequence_step.ensures) (sequence_steps _ _ _ _ (rw c.in-SequenceOf.is at c.requires.1))

pub returns-in-PropertyOf : goal.returns-in-PropertyOf
unfolding piece_form rank Fits
returns-in-PropertyOf c = rw (c.in-PropertyOf.is, c.property_step.ensures) (property_steps _ _ _ _ (rw c.in-PropertyOf.is at c.requires.1))
