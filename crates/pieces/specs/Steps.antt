-- The steps of the pieces, as the code makes them. Assumes nothing.
use Rattle.std.specs.Prelude.{cond, ℕ, ◌-◌, eqb, ltb}
use Rattle.pieces.specs.declared.Subject.{Subject}
use Rattle.pieces.specs.declared.Subject.TheVariants.{OneLetter}
use Rattle.pieces.specs.declared.SequencePiece.{SequencePiece}
use Rattle.pieces.specs.declared.SequencePiece.TheVariants.{LetterOf, NoLetter, Letters, AnyLetters, GroupOf, Times, Range, Meeting, Delay, Later, NextLetter}
use Rattle.pieces.specs.declared.PropertyPiece.{PropertyPiece}
use Rattle.pieces.specs.declared.PropertyPiece.TheVariants.{NotOf, ImpliesNot, ImpliesNextNot, WeakOf, Never, UntilOf, EventuallyOf, NextNot}
use Rattle.pieces.specs.declared.Piece.{Piece}
use Rattle.pieces.specs.declared.Piece.TheVariants.{Byte, NodeOf, SequenceOf, PropertyOf}
use Rattle.pieces.specs.declared.Step.{Step}
use Rattle.pieces.specs.Pieces.{subject_piece}

abbrev pub step : ℕ → Piece → Piece → Step
step op x y = record { op = op; x = x; y = y }

unfoldable pub times_step : Subject → ℕ → Step
times_step o m = cond (eqb m 0) (step 20 (subject_piece o) (Byte 0)) (step 17 (SequenceOf (Times o (m - 1))) (subject_piece o))

unfoldable pub range_step : Subject → ℕ → ℕ → Step
range_step o m n = cond (ltb m n) (step 19 (SequenceOf (Range o m (n - 1))) (SequenceOf (Times o n))) (times_step o m)

unfoldable pub delay_step : ℕ → ℕ → ℕ → ℕ → ℕ → Step
delay_step x y c m n =
    cond (eqb n 0) (step 18 (NodeOf x) (NodeOf y))
    (cond (eqb m 0) (step 19 (SequenceOf (Meeting x y)) (SequenceOf (Later x y c 0 (n - 1)))) (step 17 (SequenceOf (Delay x c (m - 1) (n - 1))) (NodeOf y)))

unfoldable pub sequence_step : SequencePiece → Step
sequence_step (LetterOf b) = step 16 (Byte b) (Byte 0)
sequence_step (NoLetter b) = step 20 (SequenceOf (LetterOf b)) (Byte 0)
sequence_step (Letters b) = step 21 (SequenceOf (LetterOf b)) (Byte 0)
sequence_step (AnyLetters b) = step 19 (SequenceOf (NoLetter b)) (SequenceOf (Letters b))
sequence_step (GroupOf c b) = step 17 (SequenceOf (AnyLetters c)) (SequenceOf (LetterOf b))
sequence_step (Times o m) = times_step o m
sequence_step (Range o m n) = range_step o m n
sequence_step (Meeting x y) = step 18 (NodeOf x) (NodeOf y)
sequence_step (Delay x c m n) = step 17 (NodeOf x) (SequenceOf (Range (OneLetter c) m n))
sequence_step (Later x y c m n) = step 17 (SequenceOf (Delay x c m n)) (NodeOf y)
sequence_step (NextLetter x c) = step 17 (NodeOf x) (SequenceOf (LetterOf c))

unfoldable pub property_step : PropertyPiece → Step
property_step (NotOf x) = step 34 (NodeOf x) (Byte 0)
property_step (ImpliesNot x y) = step 37 (NodeOf x) (PropertyOf (NotOf y))
property_step (ImpliesNextNot x y c) = step 37 (SequenceOf (NextLetter x c)) (PropertyOf (NotOf y))
property_step (WeakOf c) = step 33 (SequenceOf (LetterOf c)) (Byte 0)
property_step (Never x c) = step 39 (PropertyOf (NotOf x)) (PropertyOf (WeakOf c))
property_step (UntilOf x y) = step 39 (NodeOf x) (NodeOf y)
property_step (EventuallyOf x c) = step 34 (PropertyOf (Never x c)) (Byte 0)
property_step (NextNot x) = step 38 (PropertyOf (NotOf x)) (Byte 0)
