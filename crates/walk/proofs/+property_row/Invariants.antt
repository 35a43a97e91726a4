-- The node's number falls.
use Rattle.walk.proofs.+property_row.Given as goal

abbrev pub decreases-property_row : goal.decreases-property_row
decreases-property_row l = l.k
