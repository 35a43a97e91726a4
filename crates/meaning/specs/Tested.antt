-- Document 02, "Tested was too kind": source 000's non-vacuity, clause by clause. `Tested κ P w i` is "P, under the clock κ, is tested from position i of w";
-- a record tests an assertion where that holds of the clocked tree from position 0 on the record with no tail. Assumes nothing.
use Rattle.std.specs.Prelude.{Bool, ◌⊎◌, List, ℕ, zero, suc, ◌≤◌, ◌<◌, T}
use Rattle.meaning.specs.Syntax.{Prop, strong, weak, neg, either, both, implies, next, until, under, Clock, free, on}
use Rattle.meaning.specs.Words.{Word, inside, word, none}
use Rattle.meaning.specs.Meaning.{Match, counts, Second, Sat}

module _ {A S : Type 0} (reads : A → S → Bool) where
  -- of P until Q, from i on: j is a position inside the word (under a clock, positions are the ticks), and at each earlier one the left holds and the right
  -- does not
  unfoldable pub UpTo : Clock A → Prop A → Prop A → Word S → ℕ → ℕ → Type 0
  UpTo κ P Q w i j =
      (i ≤ j) × T (inside (w j)) × T (counts reads κ (w j))
      × ((k : ℕ) → i ≤ k → k < j → T (counts reads κ (w k)) → Sat reads κ P w k × (¬ Sat reads κ Q w k))

  unfoldable pub Tested : Clock A → Prop A → Word S → ℕ → Type 0
  -- strong and weak are tested
  Tested κ (strong r) w i = Unit {0}
  Tested κ (weak r) w i = Unit {0}
  -- not follows its operand; and, or need either operand
  Tested κ (neg P) w i = Tested κ P w i
  Tested κ (either P Q) w i = Tested κ P w i ⊎ Tested κ Q w i
  Tested κ (both P Q) w i = Tested κ P w i ⊎ Tested κ Q w i
  -- `R |-> P` needs a match, which is not empty, with P tested from its last letter
  Tested κ (implies r P) w i = (p : ℕ) × (i ≤ p) × Match reads κ r w i (suc p) × Tested κ P w p
  -- nexttime needs a non-empty word and P tested on suffix 1; under a clock a second tick with P tested there
  Tested free (next P) w i = T (inside (w i)) × Tested free P w (suc i)
  Tested (on c) (next P) w i = (k : ℕ) × Second reads c w i k × Tested (on c) P w k
  -- until needs a position with either side tested, and at each earlier one the left holding and the right not
  Tested κ (until P Q) w i = (j : ℕ) × UpTo κ P Q w i j × (Tested κ P w j ⊎ Tested κ Q w j)
  Tested κ (under c P) w i = Tested (on c) P w i

  -- the record tests the assertion: from position 0, with no tail
  abbrev pub Tests : List S → Prop A → Type 0
  Tests xs P = Tested free P (word xs none) zero
