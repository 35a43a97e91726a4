-- What a set of positions says of a boolean, of a clock and of a property, on the letters xs. Assumes nothing.
use Rattle.std.specs.Prelude.{◌≡◌, Bool, true, false, List, ℕ, ◌<◌, ◌≤◌, length}
use Rattle.telling.specs.Tells.{Tells}
use Rattle.meaning.specs.Syntax.{Bexp, Prop, Clock, free, on}
use Rattle.meaning.specs.Words.{word, Tail, none}
use Rattle.meaning.specs.Meaning.{satisfies, counts, Sat}
use Rattle.meaning.specs.Tested.{Tested}

-- whether there is a clock
abbrev pub is_on : {A : Type 0} → Clock A → Bool
is_on free = false
is_on (on c) = true

module _ {A S : Type 0} (reads : A → S → Bool) (xs : List S) where
  -- B has the letters that satisfy b
  pub record Valued (b : Bexp A) (B : ℕ → Bool) : Type 0 where
    pub bits : (i : ℕ) → i < length xs → B i ≡ satisfies reads (word xs none i) b
    pub past : (i : ℕ) → length xs ≤ i → B i ≡ false

  module _ (κ : Clock A) where
    -- T has the letters that count under the clock: its ticks and, with no clock, all of them
    pub record TicksOf (T : ℕ → Bool) : Type 0 where
      pub bits : (i : ℕ) → i < length xs → T i ≡ counts reads κ (word xs none i)
      pub past : (i : ℕ) → length xs ≤ i → T i ≡ false

    -- f has, for each tail, the suffixes 0 to n that satisfy the property
    pub record Says (P : Prop A) (f : Tail → ℕ → Bool) : Type 0 where
      pub answers : (t : Tail) (i : ℕ) → i ≤ length xs → Tells (f t i) (Sat reads κ P (word xs t) i)
      pub past : (t : Tail) (i : ℕ) → length xs < i → f t i ≡ false

    -- X has the positions 0 to n from which the property is tested
    pub record TestedBy (P : Prop A) (X : ℕ → Bool) : Type 0 where
      pub tells : (i : ℕ) → i ≤ length xs → Tells (X i) (Tested reads κ P (word xs none) i)
      pub past : (i : ℕ) → length xs < i → X i ≡ false
