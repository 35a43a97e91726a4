-- What the parts of the code ask of each other, and what each gives to a pass. Assumes nothing.
use Rattle.std.specs.Prelude.{◌≡◌, Bool, true, false, List, ℕ, ◌+◌, ◌*◌, ◌≤◌, length, Option}
use Rattle.refusal.specs.Heading.{count}
use Rattle.nodes.specs.declared.Raw.{Raw}
use Rattle.nodes.specs.NodeClock.{Ref}
use Rattle.clocks.specs.Computed.{clock_by}
use Rattle.numbers.specs.Numbers.{is_boolean, is_other, length_of, taken, start_of}
use Rattle.writing.specs.Tables.{laid}

-- ---- the two passes: of the booleans and of the others

unfoldable pub of_pass : List ℕ → Bool → ℕ → Bool
of_pass s true k = is_boolean s k
of_pass s false k = is_other s k

-- the number of the first node of a pass
unfoldable pub pass_start : List ℕ → (ℕ → Ref) → Bool → ℕ
pass_start s clock true = 0
pass_start s clock false = taken s clock (is_boolean s) (count s)

-- ---- room

-- m nodes are no more than 120, and d has room for a table of them
abbrev pub TableFits : ℕ → List ℕ → Type 0
TableFits m d = (m ≤ 120) × (4 * m + 6 ≤ length d)

-- ---- of a table s with an array of clocks

module _ (s : List ℕ) (clocks : List (Option ℕ)) where
  -- what all nodes below k give to a pass
  abbrev pub given_below : Bool → ℕ → List Raw
  given_below pass k = laid s (clock_by clocks) (of_pass s pass) k

  -- the block of node k goes to node `at` on, and there is room for it in d
  abbrev pub BlockFits : ℕ → ℕ → List ℕ → Type 0
  BlockFits k at d =
      (at ≡ start_of s (clock_by clocks) k)
      × (at + length_of s (clock_by clocks) k ≤ 120)
      × (4 * (at + length_of s (clock_by clocks) k) + 6 ≤ length d)
