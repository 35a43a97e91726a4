-- Each step says what its piece is written out to, and its operands are lower pieces that fit. Assumes nothing.
use native.Mathlib.Omega.{arith}
use native.Mathlib.Nat.{le-max_left, le-max_right}
use native.Mathlib.Numerals.{sub-one}
use borrow.Author.Tests.{ne_eqb, lt-ltb, le-ltb}
use mathlib.Core.Path.{◌≡◌, refl, sym}
use mathlib.Core.Logic.{⊎_elim}
use mathlib.Core.List.{List}
use Prim.Native.Nat.{ℕ, zero, suc, ◌+◌, ◌*◌, ◌<◌, ◌≤◌}
use Rattle.telling.proofs.Telling.{side}
use Rattle.expansion.specs.Forms.{Form, node}
use Rattle.expansion.specs.Blocks.{times, range, delay}
use Rattle.pieces.specs.declared.Subject.{Subject}
use Rattle.pieces.specs.declared.Subject.TheVariants.{Whole, OneLetter, Group}
use Rattle.pieces.specs.declared.SequencePiece.{SequencePiece}
use Rattle.pieces.specs.declared.SequencePiece.TheVariants.{LetterOf, NoLetter, Letters, AnyLetters, GroupOf, Times, Range, Meeting, Delay, Later, NextLetter}
use Rattle.pieces.specs.declared.PropertyPiece.{PropertyPiece}
use Rattle.pieces.specs.declared.PropertyPiece.TheVariants.{NotOf, ImpliesNot, ImpliesNextNot, WeakOf, Never, UntilOf, EventuallyOf, NextNot}
use Rattle.pieces.specs.declared.Piece.TheVariants.{Byte}
use Rattle.pieces.specs.declared.Step.{Step}
use Rattle.pieces.specs.Pieces.{subject_piece, subject_form, sequence_form, property_form, piece_form, subject_rank, sequence_rank, property_rank, rank, over_both, Heavy, SubjectFits, SequenceFits, PropertyFits, Fits, Stepped}
use Rattle.pieces.specs.Steps.{times_step, range_step, delay_step, sequence_step, property_step}

module _ (F : ℕ → Form) (s : List ℕ) (n : ℕ) where
  abbrev Steps : Form → ℕ → Step → Type 0
  Steps = Stepped F s n

  -- a higher rank will do
  pub raised : {f : Form} {i j : ℕ} {r : Step} → Steps f i r → i ≤ j → Steps f j r
  raised h l = record {
    form = h.form;
    falls_x = let a = h.falls_x in omega arith;
    falls_y = let a = h.falls_y in omega arith;
    fits_x = h.fits_x;
    fits_y = h.fits_y;
  }

  -- ---- what is repeated

  subject_form_lem : (o : Subject) → piece_form F (subject_piece o) ≡ subject_form F o
  unfolding piece_form subject_piece subject_form sequence_form
  subject_form_lem (Whole x) = refl
  subject_form_lem (OneLetter c) = refl
  subject_form_lem (Group c b) = refl

  subject_falls : (o : Subject) → rank (subject_piece o) < subject_rank o + 5
  unfolding rank subject_piece subject_rank sequence_rank
  subject_falls (Whole x) = omega arith
  subject_falls (OneLetter c) = omega arith
  subject_falls (Group c b) = omega arith

  subject_fits : (o : Subject) → SubjectFits s n o → Fits s n (subject_piece o)
  unfolding Fits subject_piece SubjectFits SequenceFits
  subject_fits (Whole x) h = h
  subject_fits (OneLetter c) h = tt
  subject_fits (Group c b) h = tt

  module _ (o : Subject) (h : SubjectFits s n o) where
    pub times_steps : (m : ℕ) → Steps (times (subject_form F o) m) (subject_rank o + m + 5) (times_step o m)
    unfolding times times_step piece_form sequence_form rank sequence_rank Fits SequenceFits
    times_steps zero = record {
      form = λ i. node 20 (sym (subject_form_lem o) i) (piece_form F (Byte 0));
      falls_x = let l = subject_falls o in omega arith;
      falls_y = omega arith;
      fits_x = subject_fits o h;
      fits_y = tt;
    }
    times_steps (suc m) =
        rw (ne_eqb (suc m) 0 (λ e. omega arith), sub-one (suc m))
        (record {
          form = λ i. node 17 (times (subject_form F o) m) (sym (subject_form_lem o) i);
          falls_x = omega arith;
          falls_y = let l = subject_falls o in omega arith;
          fits_x = h;
          fits_y = subject_fits o h;
        })

    pub range_steps : (m k : ℕ) → Steps (range (subject_form F o) m k) (subject_rank o + m + k + 6) (range_step o m k)
    unfolding range range_step piece_form sequence_form rank sequence_rank Fits SequenceFits
    range_steps m zero = rw (le-ltb m 0 (omega arith)) (raised (times_steps m) (omega arith))
    range_steps m (suc k) =
        ⊎_elim
        (λ (l : m < suc k).
        rw (lt-ltb m (suc k) l, sub-one (suc k))
        (record { form = refl; falls_x = omega arith; falls_y = omega arith; fits_x = h; fits_y = h }))
        (λ (l : suc k ≤ m). rw (le-ltb m (suc k) l) (raised (times_steps m) (omega arith)))
        (side m (suc k))

  -- ---- x ##[m:n] y

  module _ (x y : ℕ) (hx : Heavy s n x) (hy : Heavy s n y) where
    -- the bound of both
    left : 64 * x + 63 < over_both x y
    left = let l = le-max_left x y in omega arith

    right : 64 * y + 63 < over_both x y
    right = let l = le-max_right x y in omega arith

    over_left : 64 * suc x ≤ over_both x y
    over_left = let l = le-max_left x y in omega arith

    over_right : 64 * suc y ≤ over_both x y
    over_right = let l = le-max_right x y in omega arith

    pub delay_steps : (c m k : ℕ) → Steps (delay c (F x) (F y) m k) (over_both x y + m + k + 8) (delay_step x y c m k)
    unfolding delay delay_step piece_form sequence_form rank sequence_rank Fits SequenceFits
    delay_steps c m zero = record {
      form = refl;
      falls_x = let l = left in omega arith;
      falls_y = let l = right in omega arith;
      fits_x = hx;
      fits_y = hy;
    }
    delay_steps c zero (suc k) =
        rw (ne_eqb (suc k) 0 (λ e. omega arith), sub-one (suc k))
        (record { form = refl; falls_x = omega arith; falls_y = omega arith; fits_x = (hx, hy); fits_y = (hx, hy) })
    delay_steps c (suc m) (suc k) =
        rw (ne_eqb (suc k) 0 (λ e. omega arith), ne_eqb (suc m) 0 (λ e. omega arith), sub-one (suc k), sub-one (suc m))
        (record { form = refl; falls_x = let l = over_left in omega arith; falls_y = let l = right in omega arith; fits_x = hx; fits_y = hy })

  -- ---- each piece

  pub sequence_steps : (q : SequencePiece) → SequenceFits s n q → Steps (sequence_form F q) (sequence_rank q) (sequence_step q)
  unfolding sequence_step piece_form sequence_form subject_form rank sequence_rank subject_rank Fits SequenceFits SubjectFits
  sequence_steps (LetterOf b) h = record { form = refl; falls_x = omega arith; falls_y = omega arith; fits_x = tt; fits_y = tt }
  sequence_steps (NoLetter b) h = record { form = refl; falls_x = omega arith; falls_y = omega arith; fits_x = tt; fits_y = tt }
  sequence_steps (Letters b) h = record { form = refl; falls_x = omega arith; falls_y = omega arith; fits_x = tt; fits_y = tt }
  sequence_steps (AnyLetters b) h = record { form = refl; falls_x = omega arith; falls_y = omega arith; fits_x = tt; fits_y = tt }
  sequence_steps (GroupOf c b) h = record { form = refl; falls_x = omega arith; falls_y = omega arith; fits_x = tt; fits_y = tt }
  sequence_steps (Times o m) h = times_steps o h m
  sequence_steps (Range o m k) h = range_steps o h m k
  sequence_steps (Meeting x y) (hx, hy) =
      record { form = refl; falls_x = left x y hx hy; falls_y = right x y hx hy; fits_x = hx; fits_y = hy }
  sequence_steps (Delay x c m k) h = record { form = refl; falls_x = omega arith; falls_y = omega arith; fits_x = h; fits_y = tt }
  sequence_steps (Later x y c m k) (hx, hy) =
      let a = over_left x y hx hy in
      let b = right x y hx hy in
      record { form = refl; falls_x = omega arith; falls_y = omega arith; fits_x = hx; fits_y = hy }
  sequence_steps (NextLetter x c) h = record { form = refl; falls_x = omega arith; falls_y = omega arith; fits_x = h; fits_y = tt }

  pub property_steps : (p : PropertyPiece) → PropertyFits s n p → Steps (property_form F p) (property_rank p) (property_step p)
  unfolding property_step piece_form sequence_form property_form rank sequence_rank property_rank Fits SequenceFits PropertyFits
  property_steps (NotOf x) h = record { form = refl; falls_x = omega arith; falls_y = omega arith; fits_x = h; fits_y = tt }
  property_steps (ImpliesNot x y) (hx, hy) =
      let a = left x y hx hy in
      let b = over_right x y hx hy in
      record { form = refl; falls_x = omega arith; falls_y = omega arith; fits_x = hx; fits_y = hy }
  property_steps (ImpliesNextNot x y c) (hx, hy) =
      let a = over_left x y hx hy in
      let b = over_right x y hx hy in
      record { form = refl; falls_x = omega arith; falls_y = omega arith; fits_x = hx; fits_y = hy }
  property_steps (WeakOf c) h = record { form = refl; falls_x = omega arith; falls_y = omega arith; fits_x = tt; fits_y = tt }
  property_steps (Never x c) h = record { form = refl; falls_x = omega arith; falls_y = omega arith; fits_x = h; fits_y = tt }
  property_steps (UntilOf x y) (hx, hy) =
      record { form = refl; falls_x = left x y hx hy; falls_y = right x y hx hy; fits_x = hx; fits_y = hy }
  property_steps (EventuallyOf x c) h = record { form = refl; falls_x = omega arith; falls_y = omega arith; fits_x = h; fits_y = tt }
  property_steps (NextNot x) h = record { form = refl; falls_x = omega arith; falls_y = omega arith; fits_x = h; fits_y = tt }
