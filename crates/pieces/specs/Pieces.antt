-- What each piece is written out to, as a form. Assumes nothing.
use Rattle.std.specs.Prelude.{◌≡◌, List, ℕ, suc, ◌+◌, ◌*◌, ◌<◌, ◌≤◌, max}
use Rattle.nodes.specs.Operators.{sequence}
use Rattle.nodes.specs.Nodes.{sort_at}
use Rattle.expansion.specs.Forms.{Form, byte, node}
use Rattle.expansion.specs.Blocks.{one, letter, times, range, any, later, implies_next, always, eventually}
use Rattle.pieces.specs.declared.Subject.{Subject}
use Rattle.pieces.specs.declared.Subject.TheVariants.{Whole, OneLetter, Group}
use Rattle.pieces.specs.declared.SequencePiece.{SequencePiece}
use Rattle.pieces.specs.declared.SequencePiece.TheVariants.{LetterOf, NoLetter, Letters, AnyLetters, GroupOf, Times, Range, Meeting, Delay, Later, NextLetter}
use Rattle.pieces.specs.declared.PropertyPiece.{PropertyPiece}
use Rattle.pieces.specs.declared.PropertyPiece.TheVariants.{NotOf, ImpliesNot, ImpliesNextNot, WeakOf, Never, UntilOf, EventuallyOf, NextNot}
use Rattle.pieces.specs.declared.Piece.{Piece}
use Rattle.pieces.specs.declared.Piece.TheVariants.{Byte, NodeOf, SequenceOf, PropertyOf}
use Rattle.pieces.specs.declared.Step.{Step}

-- the piece that is repeated
unfoldable pub subject_piece : Subject → Piece
subject_piece (Whole x) = NodeOf x
subject_piece (OneLetter c) = SequenceOf (LetterOf c)
subject_piece (Group c b) = SequenceOf (GroupOf c b)

-- ---- forms; F gives those of the nodes

module _ (F : ℕ → Form) where
  unfoldable pub subject_form : Subject → Form
  subject_form (Whole x) = F x
  subject_form (OneLetter c) = letter c
  subject_form (Group c b) = node 17 (any (letter c)) (letter b)

  unfoldable pub sequence_form : SequencePiece → Form
  sequence_form (LetterOf b) = letter b
  sequence_form (NoLetter b) = one 20 (letter b)
  sequence_form (Letters b) = one 21 (letter b)
  sequence_form (AnyLetters b) = any (letter b)
  sequence_form (GroupOf c b) = node 17 (any (letter c)) (letter b)
  sequence_form (Times o m) = times (subject_form o) m
  sequence_form (Range o m n) = range (subject_form o) m n
  sequence_form (Meeting x y) = node 18 (F x) (F y)
  sequence_form (Delay x c m n) = node 17 (F x) (range (letter c) m n)
  sequence_form (Later x y c m n) = later c (F x) (F y) m n
  sequence_form (NextLetter x c) = node 17 (F x) (letter c)

  unfoldable pub property_form : PropertyPiece → Form
  property_form (NotOf x) = one 34 (F x)
  property_form (ImpliesNot x y) = node 37 (F x) (one 34 (F y))
  property_form (ImpliesNextNot x y c) = implies_next c (F x) (one 34 (F y))
  property_form (WeakOf c) = one 33 (letter c)
  property_form (Never x c) = always c (one 34 (F x))
  property_form (UntilOf x y) = node 39 (F x) (F y)
  property_form (EventuallyOf x c) = eventually c (F x)
  property_form (NextNot x) = one 38 (one 34 (F x))

  unfoldable pub piece_form : Piece → Form
  piece_form (Byte v) = byte v
  piece_form (NodeOf k) = F k
  piece_form (SequenceOf q) = sequence_form q
  piece_form (PropertyOf p) = property_form p

-- it is no plain byte
unfoldable pub NoByte : Piece → Type 0
NoByte (Byte v) = ⊥
NoByte (NodeOf k) = Unit {0}
NoByte (SequenceOf q) = Unit {0}
NoByte (PropertyOf p) = Unit {0}

-- ---- what falls at each step

-- past all pieces of the nodes x and y
abbrev pub over : ℕ → ℕ
over x = 64 * suc x

abbrev pub over_both : ℕ → ℕ → ℕ
over_both x y = 64 * suc (max x y)

unfoldable pub subject_rank : Subject → ℕ
subject_rank (Whole x) = over x
subject_rank (OneLetter c) = 0
subject_rank (Group c b) = 0

unfoldable pub sequence_rank : SequencePiece → ℕ
sequence_rank (LetterOf b) = 1
sequence_rank (NoLetter b) = 2
sequence_rank (Letters b) = 2
sequence_rank (AnyLetters b) = 3
sequence_rank (GroupOf c b) = 4
sequence_rank (Times o m) = subject_rank o + m + 5
sequence_rank (Range o m n) = subject_rank o + m + n + 6
sequence_rank (Meeting x y) = over_both x y
sequence_rank (Delay x c m n) = over x + m + n + 7
sequence_rank (Later x y c m n) = over_both x y + m + n + 8
sequence_rank (NextLetter x c) = over x

unfoldable pub property_rank : PropertyPiece → ℕ
property_rank (NotOf x) = over x
property_rank (ImpliesNot x y) = over_both x y + 1
property_rank (ImpliesNextNot x y c) = over_both x y + 1
property_rank (WeakOf c) = 2
property_rank (Never x c) = over x + 1
property_rank (UntilOf x y) = over_both x y
property_rank (EventuallyOf x c) = over x + 2
property_rank (NextNot x) = over x + 1

unfoldable pub rank : Piece → ℕ
rank (Byte v) = 0
rank (NodeOf k) = 64 * k + 63
rank (SequenceOf q) = sequence_rank q
rank (PropertyOf p) = property_rank p

-- ---- pieces of the n nodes of s

module _ (s : List ℕ) (n : ℕ) where
  -- x is a sequence or a property
  abbrev pub Heavy : ℕ → Type 0
  Heavy x = (x < n) × (sequence ≤ sort_at s x)

  unfoldable pub SubjectFits : Subject → Type 0
  SubjectFits (Whole x) = Heavy x
  SubjectFits (OneLetter c) = Unit {0}
  SubjectFits (Group c b) = Unit {0}

  unfoldable pub SequenceFits : SequencePiece → Type 0
  SequenceFits (LetterOf b) = Unit {0}
  SequenceFits (NoLetter b) = Unit {0}
  SequenceFits (Letters b) = Unit {0}
  SequenceFits (AnyLetters b) = Unit {0}
  SequenceFits (GroupOf c b) = Unit {0}
  SequenceFits (Times o m) = SubjectFits o
  SequenceFits (Range o m n) = SubjectFits o
  SequenceFits (Meeting x y) = Heavy x × Heavy y
  SequenceFits (Delay x c m n) = Heavy x
  SequenceFits (Later x y c m n) = Heavy x × Heavy y
  SequenceFits (NextLetter x c) = Heavy x

  unfoldable pub PropertyFits : PropertyPiece → Type 0
  PropertyFits (NotOf x) = Heavy x
  PropertyFits (ImpliesNot x y) = Heavy x × Heavy y
  PropertyFits (ImpliesNextNot x y c) = Heavy x × Heavy y
  PropertyFits (WeakOf c) = Unit {0}
  PropertyFits (Never x c) = Heavy x
  PropertyFits (UntilOf x y) = Heavy x × Heavy y
  PropertyFits (EventuallyOf x c) = Heavy x
  PropertyFits (NextNot x) = Heavy x

  unfoldable pub Fits : Piece → Type 0
  Fits (Byte v) = Unit {0}
  Fits (NodeOf k) = Heavy k
  Fits (SequenceOf q) = SequenceFits q
  Fits (PropertyOf p) = PropertyFits p

-- a step of a piece with the form f and the rank i: its operator over its operands, which are lower and fit
pub record Stepped (F : ℕ → Form) (s : List ℕ) (n : ℕ) (f : Form) (i : ℕ) (r : Step) : Type 0 where
  pub form : f ≡ node r.op (piece_form F r.x) (piece_form F r.y)
  pub falls_x : rank r.x < i
  pub falls_y : rank r.y < i
  pub fits_x : Fits s n r.x
  pub fits_y : Fits s n r.y
