-- A sequence's row while it is made, from the last start down, and when it is made. Assumes nothing.
use mathlib.Core.Path.{◌≡◌, refl, ap, ap₂, ◌∙◌}
use mathlib.Core.Bool.{Bool, true, false, ◌||◌, ◌&&◌, and-true, and-false, or-false}
use mathlib.Core.List.{List, ◌++◌}
use mathlib.Core.Logic.{◌⊎◌, inl, inr, ⊎_elim}
use Prim.Native.Nat.{ℕ, ◌+◌, ◌*◌, ◌^◌, ◌<◌, ◌≤◌}
use native.Mathlib.Nat.{eq-or-lt_of_le, le_of_suc-le-suc}
use Rattle.std.proofs.Math.Nat.{zero-add}
use native.Mathlib.Omega.{arith}
use lib.Dec.{eqb, leb}
use lib.ListN.{length, get_or, take, drop, set, length-set}
use Rattle.std.proofs.lemmas.List.{append_assoc}
use lib.Seq.{get_or-set_same, get_or-set_other, drop-drop}
use borrow.Author.Tests.{le-leb, lt-leb, leb-true, eqb-true, eqb-false, ne_eqb}
use Rattle.telling.proofs.Telling.{side, leb_same}
use Rattle.positions.specs.Member.{has, Is}
use Rattle.nodes.specs.declared.SequenceOp.{SequenceOp}
use Rattle.matches.specs.declared.Found.{Found}
use Rattle.cells.specs.Shares.{share, top_word, longest}
use Rattle.cells.specs.Bits.{sequence_bit, goes_on, starts_open, top_bit}
use Rattle.matches.specs.Shapes.{Finds}
use Rattle.cells.specs.Stored.{tab, with_row, None, Stored}
use Rattle.sequences.specs.Made.{sequence_word, EndsOf, Above}
use Rattle.cells.proofs.Laying.{word_is, with_row_is}

-- ---- a set whose places n, n - 1, .. are decided one after the other: those from i to n are

decided_none : (f : ℕ → Bool) (n j : ℕ) → false ≡ ((leb (n + 1) j && leb j n) && f j)
decided_none f n j = go (leb (n + 1) j) refl
  where
    go : (t : Bool) → leb (n + 1) j ≡ t → false ≡ ((t && leb j n) && f j)
    go true e = rw (lt-leb j n (omega (arith, leb-true (n + 1) j e)))
    go false e = refl

decided_more : (f : ℕ → Bool) (i o n j : ℕ) (t : Bool) → i ≤ n → o ≡ i + 1 → t ≡ f i
    → (((leb o j && leb j n) && f j) || (t && eqb j i)) ≡ ((leb i j && leb j n) && f j)
decided_more f i o n j t h eo et = go (eqb j i) refl
  where
    go : (e : Bool) → eqb j i ≡ e → (((leb o j && leb j n) && f j) || (t && e)) ≡ ((leb i j && leb j n) && f j)
    go true p =
        let q = eqb-true j i p in
        rw (et, ← q, lt-leb o j (omega arith), le-leb j j (omega arith), le-leb j n (omega arith)) (and-true (f j))
    go false p =
        rw (and-false t, or-false)
        (ap (λ b. (b && leb j n) && f j) (leb_same o j i j (λ u. omega arith) (λ u. omega (arith, eqb-false j i p))))

-- all are decided, and those of g up to n are joined
decided_all : (f g : ℕ → Bool) (i n j : ℕ) → i ≡ 0 → (((leb i j && leb j n) && f j) || (g j && leb j n)) ≡ (leb j n && (f j || g j))
decided_all f g i n j e = rw (le-leb i j (omega arith)) (go (leb j n) (f j) (g j))
  where
    go : (b x y : Bool) → ((b && x) || (y && b)) ≡ (b && (x || y))
    go true x y = ap (λ z. x || z) (and-true y)
    go false x y = and-false y

-- ---- a row while it is made: the words i to n of `own`, which was `old`, are stored, and the starts i to n are decided

-- the match goes on from start j
abbrev pub on : List ℕ → ℕ → SequenceOp → ℕ → Bool
on rows n op j = goes_on rows op (sequence_bit rows n op j) j

pub record Down (rows old : List ℕ) (n : ℕ) (op : SequenceOp) (i tops : ℕ) (own : List ℕ) : Type 0 where
  pub short : n ≤ longest
  pub fits : share ≤ length old
  pub upto : i ≤ n + 1
  pub long : length own ≡ length old
  pub words : (m : ℕ) → i ≤ m → m ≤ n → EndsOf rows n op m (get_or own m 0)
  pub later : (m : ℕ) → n < m → get_or own m 0 ≡ get_or old m 0
  pub decided : Is tops (λ j. (leb i j && leb j n) && on rows n op j)

pub down_none : {rows old : List ℕ} {n : ℕ} (op : SequenceOp) (tops : ℕ) → n ≤ longest → share ≤ length old → Is tops (λ j. false)
    → Down rows old n op (n + 1) tops old
down_none {rows = rows} {n = n} op tops short fits h =
    record {
      short = short;
      fits = fits;
      upto = omega arith;
      long = refl;
      words = λ m u v. absurd (omega arith);
      later = λ m u. refl;
      decided = λ j. h j ∙ decided_none (on rows n op) n j;
    }

module _ {rows old own : List ℕ} {n i tops : ℕ} {op : SequenceOp} (u : Down rows old n op i tops own) where
  -- word h is made of what is found from h, and its start is decided
  pub down_one : (h to tops' : ℕ) (r : Found) → i ≡ h + 1 → to ≡ h → r.ends.bits < 2 ^ 64 → Finds rows n op h r
      → Is tops' (λ j. has tops j || (r.on && eqb j h)) → Down rows old n op to tops' (set own h r.ends.bits)
  down_one h to tops' r e there small finds added =
      rw there (record {
        short = u.short;
        fits = u.fits;
        upto = omega (arith, u.upto);
        long = length-set own h r.ends.bits ∙ u.long;
        words = λ m a b. ⊎_elim (λ (q : h ≡ m). rw (← q, get_or-set_same own h r.ends.bits 0 (omega (arith, u.long, u.fits, u.short, u.upto))) (small, finds.ends)) (λ (q : h < m). rw (get_or-set_other own h m r.ends.bits 0 (λ z. omega arith)) (u.words m (omega arith) b)) (eq-or-lt_of_le a);
        later = λ m a. get_or-set_other own h m r.ends.bits 0 (λ z. omega (arith, u.upto)) ∙ u.later m a;
        decided = λ j. added j ∙ ap (λ b. b || (r.on && eqb j h)) (u.decided j) ∙ decided_more (on rows n op) h i n j r.on (omega (arith, u.upto)) e finds.on;
      })

  -- what is known where it is asked what is found from h
  pub above : (h : ℕ) → i ≡ h + 1 → Above rows n op h own
  above h e = record { upto = omega (arith, u.upto); long = rw u.long u.fits; there = λ m a b. (u.words m (omega arith) b).1 }

  -- the finished row: its last word is written, and the words between are cleared
  pub row_made : (opened cut t : ℕ) (out : List ℕ) → i ≡ 0 → t < 2 ^ 64 → Is opened (starts_open rows n op) → Is cut (λ j. has opened j && leb j n)
      → Is t (λ j. has tops j || has cut j) → Stored None (set own top_word t) 0 (n + 1) top_word out
      → out ≡ with_row old 0 (tab (sequence_word rows n op) share)
  row_made opened cut t out z small opens cuts joined c =
      with_row_is old out 0 (sequence_word rows n op) u.fits (c.long ∙ length-set own top_word t ∙ u.long) (λ j l. rw zero-add (row j l)) others
    where
      last : Is t (top_bit rows n op)
      last j =
          joined j
          ∙ ap₂ ◌||◌ (u.decided j) (cuts j ∙ ap (λ b. b && leb j n) (opens j))
          ∙ decided_all (on rows n op) (starts_open rows n op) i n j z

      others : (j : ℕ) → (j < 0) ⊎ (share ≤ j) → get_or out j 0 ≡ get_or old j 0
      others j v =
          let g : share ≤ j = ⊎_elim (λ (g : j < 0). absurd (omega arith)) (λ g. g) v in
          c.stay j (inr (omega arith)) ∙ get_or-set_other own top_word j t 0 (λ z. omega arith) ∙ u.later j (omega arith)

      between : (j : ℕ) → n < j → j < share → (j ≡ top_word) ⊎ (j < top_word) → get_or out j 0 ≡ sequence_word rows n op j
      between j v l (inl q) =
          rw (lt-leb j n v, q, c.stay top_word (inr (omega arith)), get_or-set_same own top_word t 0 (omega (arith, u.long, u.fits, u.short, u.upto)))
          (word_is t _ small last)
      between j v l (inr q) = rw (lt-leb j n v, ne_eqb j top_word (λ z. omega arith)) (rw zero-add at (c.there j (omega arith) q))

      row : (j : ℕ) → j < share → get_or out j 0 ≡ sequence_word rows n op j
      row j l =
          ⊎_elim
          (λ (v : n < j). between j v l (eq-or-lt_of_le (le_of_suc-le-suc l)))
          (λ (v : j ≤ n). let w = u.words j (omega arith) v in rw (le-leb j n v) (c.stay j (inl (omega arith)) ∙ get_or-set_other own top_word j t 0 (λ z. omega arith) ∙ word_is (get_or own j 0) _ w.0 w.1))
          (side n j)

-- ---- the row in its share

in_place : (m s : ℕ) (d r : List ℕ) → take m d ++ (r ++ drop s (drop m d)) ≡ (take m d ++ r) ++ drop (m + s) d
in_place m s d r = rw (drop-drop, append_assoc) refl

pub row_in : (d rows own out : List ℕ) (k n : ℕ) (op : SequenceOp) → rows ≡ take (share * k) d → own ≡ drop (share * k) d
    → out ≡ with_row own 0 (tab (sequence_word rows n op) share) → rows ++ out ≡ with_row d k (tab (sequence_word (take (share * k) d) n op) share)
unfolding with_row
row_in d rows own out k n op r o e = rw (e, r, o) (in_place (share * k) share d (tab (sequence_word (take (share * k) d) n op) share))
