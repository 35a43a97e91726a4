-- The cycle of calls {put_piece}: the rank of the piece falls. Assumes nothing.
use Rattle.pieces.specs.Pieces.{rank}
use Rattle.unfold.proofs.+put_piece.Given as goal

abbrev pub decreases-put_piece : goal.decreases-put_piece
decreases-put_piece l = rank l.p
