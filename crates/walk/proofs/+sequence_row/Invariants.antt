-- The node's number falls.
use Rattle.walk.proofs.+sequence_row.Given as goal

abbrev pub decreases-sequence_row : goal.decreases-sequence_row
decreases-sequence_row l = l.k
