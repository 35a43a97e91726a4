-- The positions from which each node of a clocked table is tested, place by place, from the rows of the rewritten table and the sets of the nodes below.
-- `rowmeaning/proofs` shows that each rule is what document 02 says. n is the number of samples. A derived operator is expanded before: no table here has one.
-- Assumes nothing.
use Rattle.std.specs.Prelude.{Bool, Option, Some, None, false, not, cond, ◌||◌, ◌&&◌, List, [], ◌∷◌, ◌++◌, ℕ, zero, suc, ◌+◌, ◌*◌, ◌-◌, ◌<◌, ◌≤◌, leb, ltb, length, get_or}
use Rattle.std.specs.Option.{option_map, is_none}
use Rattle.telling.specs.Tells.{some}
use Rattle.positions.specs.Member.{has}
use Rattle.refusal.specs.Heading.{count}
use Rattle.nodes.specs.declared.Raw.{Raw}
use Rattle.nodes.specs.declared.Node.{Node}
use Rattle.nodes.specs.declared.Node.TheVariants.{Boolean, Sequence, Property}
use Rattle.nodes.specs.declared.SequenceOp.{SequenceOp}
use Rattle.nodes.specs.declared.SequenceOp.TheVariants.{Letter, Then, Fused, Either, Empty, Repeat, Clocked, Derived}
use Rattle.nodes.specs.declared.PropertyOp.{PropertyOp}
use Rattle.nodes.specs.declared.PropertyOp.TheVariants.{Strong, Weak, Negated, AnyOf, BothOf, Implies, Next, Until, Ticked, Defined}
use Rattle.nodes.specs.Nodes.{raw_at, node_at}
use Rattle.nodes.specs.Computed.{named_by}
use Rattle.cells.specs.Shares.{longest, bit_in, HasRow}
use Rattle.cells.specs.Bits.{starts_into}
use Rattle.cells.specs.Stored.{set64}
use Rattle.ticking.specs.Ticks.{tick_run, second_tick}

-- what a node names, by the rows that stand for it: that of its clock's condition, if it has a clock, and those of its operands
pub record Standing : Type 0 where
  pub clock : Option ℕ
  pub a : ℕ
  pub b : ℕ

-- the row of a clock's condition
abbrev pub clock_row : List ℕ → Option ℕ → Option ℕ
clock_row numbers clock = option_map (λ c. get_or numbers (named_by c) 0) clock

abbrev pub standing : List ℕ → Option ℕ → Raw → Standing
standing numbers clock v = record {
  clock = clock_row numbers clock;
  a = get_or numbers (named_by v.x) 0;
  b = get_or numbers (named_by v.y) 0;
}

-- the set of the node that a byte names
abbrev pub set_of : List ℕ → ℕ → ℕ → Bool
set_of sets v = has (get_or sets (named_by v) 0)

-- ---- a node's set, where X and Y are those of its operands

-- the positions at which it looks: with no clock every sample, else those that satisfy the condition of row c
abbrev pub is_tick : List ℕ → ℕ → Option ℕ → ℕ → Bool
is_tick rows n None i = ltb i n
is_tick rows n (Some c) i = bit_in rows c 0 i

abbrev pub next_tested : List ℕ → ℕ → Option ℕ → (ℕ → Bool) → ℕ → Bool
next_tested rows n None P i = P (suc i)
next_tested rows n (Some c) P i = second_tick (is_tick rows n (Some c)) n false P i

-- T: the ticks; a and b: the rows of the two sides; E: either side is tested
abbrev pub until_tested : List ℕ → ℕ → (ℕ → Bool) → ℕ → ℕ → (ℕ → Bool) → ℕ → Bool
until_tested rows n T a b E = tick_run T n false (λ k. bit_in rows a 0 k && not (bit_in rows b 0 k)) E

-- R, where it has a place, is the set of a letter
abbrev pub implies_tested : List ℕ → ℕ → ℕ → (ℕ → Bool) → (ℕ → Bool) → ℕ → Bool
implies_tested rows n a R P i = cond (some R 0 64) (R i && P i) (starts_into rows n a P i)

abbrev pub property_tested : List ℕ → ℕ → Standing → (ℕ → Bool) → (ℕ → Bool) → PropertyOp → ℕ → Bool
property_tested rows n at X Y (Strong r) i = leb i n
property_tested rows n at X Y (Weak r) i = leb i n
property_tested rows n at X Y (Negated p) i = X i
property_tested rows n at X Y (AnyOf p q) i = X i || Y i
property_tested rows n at X Y (BothOf p q) i = X i || Y i
property_tested rows n at X Y (Implies r p) i = implies_tested rows n at.a X Y i
property_tested rows n at X Y (Next p) i = next_tested rows n at.clock X i
property_tested rows n at X Y (Until p q) i = until_tested rows n (is_tick rows n at.clock) at.a at.b (λ k. X k || Y k) i
property_tested rows n at X Y (Ticked c p) i = Y i
property_tested rows n at X Y (Defined o) i = false

-- the samples that a letter with no clock matches
abbrev pub letter_matches : List ℕ → Standing → SequenceOp → ℕ → Bool
letter_matches rows at (Letter b) i = bit_in rows at.a 0 i && is_none at.clock
letter_matches rows at (Then r s) i = false
letter_matches rows at (Fused r s) i = false
letter_matches rows at (Either r s) i = false
letter_matches rows at (Empty r) i = false
letter_matches rows at (Repeat r) i = false
letter_matches rows at (Clocked c r) i = false
letter_matches rows at (Derived o) i = false

abbrev pub node_tested : List ℕ → ℕ → Standing → (ℕ → Bool) → (ℕ → Bool) → Node → ℕ → Bool
node_tested rows n at X Y (Boolean o) i = false
node_tested rows n at X Y (Sequence o) i = letter_matches rows at o i
node_tested rows n at X Y (Property o) i = property_tested rows n at X Y o i

-- ---- the sets of a table's nodes

module _ (s : List ℕ) (clocks : List (Option ℕ)) (numbers : List ℕ) where
  -- what node k names
  abbrev pub standing_of : ℕ → Standing
  standing_of k = standing numbers (get_or clocks k None) (raw_at s k)

  module _ (rows : List ℕ) (n : ℕ) where
    -- the set of node k, from the sets of the nodes below it
    abbrev pub set_from : List ℕ → ℕ → ℕ
    set_from sets k =
        set64 (node_tested rows n (standing_of k) (set_of sets (raw_at s k).x) (set_of sets (raw_at s k).y) (node_at s k))

    -- the sets of the nodes below k
    unfoldable pub sets_below : ℕ → List ℕ
    sets_below zero = []
    sets_below (suc k) = sets_below k ++ (set_from (sets_below k) k ∷ [])

    -- the root is tested from position 0
    unfoldable pub tested_in : Bool
    tested_in = has (get_or (sets_below (count s)) (count s - 1) 0) 0

-- ---- what the code asks: the rows that a node's rule reads lie within the first w words

abbrev pub clock_there : ℕ → Option ℕ → Type 0
clock_there w None = Unit {0}
clock_there w (Some c) = HasRow w c

abbrev pub sequence_there : ℕ → Standing → SequenceOp → Type 0
sequence_there w at (Letter b) = HasRow w at.a
sequence_there w at (Then r s) = Unit {0}
sequence_there w at (Fused r s) = Unit {0}
sequence_there w at (Either r s) = Unit {0}
sequence_there w at (Empty r) = Unit {0}
sequence_there w at (Repeat r) = Unit {0}
sequence_there w at (Clocked c r) = Unit {0}
sequence_there w at (Derived o) = Unit {0}

abbrev pub property_there : ℕ → Standing → PropertyOp → Type 0
property_there w at (Strong r) = Unit {0}
property_there w at (Weak r) = Unit {0}
property_there w at (Negated p) = Unit {0}
property_there w at (AnyOf p q) = Unit {0}
property_there w at (BothOf p q) = Unit {0}
property_there w at (Implies r p) = HasRow w at.a
property_there w at (Next p) = clock_there w at.clock
property_there w at (Until p q) = HasRow w at.a × HasRow w at.b × clock_there w at.clock
property_there w at (Ticked c p) = Unit {0}
property_there w at (Defined o) = Unit {0}

abbrev pub node_there : ℕ → Standing → Node → Type 0
node_there w at (Boolean o) = Unit {0}
node_there w at (Sequence o) = sequence_there w at o
node_there w at (Property o) = property_there w at o

pub record Testing (s : List ℕ) (clocks : List (Option ℕ)) (numbers rows : List ℕ) (n : ℕ) : Type 0 where
  pub bytes : 4 * count s + 6 ≤ length s
  pub some : 1 ≤ count s
  pub few : count s ≤ 120
  pub ready : (k : ℕ) → k < count s → node_there (length rows) (standing_of s clocks numbers k) (node_at s k)
  pub short : n ≤ longest
