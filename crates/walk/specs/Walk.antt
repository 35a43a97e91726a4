-- What a call of the plain engine answers, for a node of a table s on the samples xs: what the page says of the tree that the node stands for, under the clock
-- that it is asked under. Assumes nothing.
use Rattle.std.specs.Prelude.{◌≡◌, List, ℕ, get_or}
use Rattle.positions.specs.Member.{has}
use Rattle.meaning.specs.Syntax.{Seq, Prop, Clock}
use Rattle.meaning.specs.Pairs.{Atom, reading, pairs}
use Rattle.nodes.specs.Nodes.{node_at}
use Rattle.table.specs.Trees.{SequenceAt, PropertyAt}
use Rattle.properties.specs.Shapes.{told}
use Rattle.ticking.specs.declared.Ticks.{Ticks}
use Rattle.steps.specs.declared.Told.{Told}
use Rattle.rowmeaning.specs.Rows.{SequenceRow}
use Rattle.rowmeaning.specs.Sets.{is_on, TicksOf, Says, TestedBy}
use Rattle.conditions.specs.Conditions.{Shaped, Conditions}

-- what a call needs: a table and a record that were not refused, and the sets of the booleans
pub record Known (s xs sets : List ℕ) : Type 0 where
  pub shaped : Shaped s xs
  pub conditions : Conditions s xs sets

-- t stands for the clock κ: whether there is one, and the samples that count
pub record Ticking (xs : List ℕ) (κ : Clock Atom) (t : Ticks) : Type 0 where
  pub clocked : t.clocked ≡ is_on κ
  pub ticks : TicksOf reading (pairs xs) κ (has t.at.bits)

-- the row of a sequence
pub record SequenceMeans (s xs : List ℕ) (t : Ticks) (k : ℕ) (row : List ℕ) : Type 0 where
  pub means : (r : Seq Atom) → SequenceAt (node_at s) k r → (κ : Clock Atom) → Ticking xs κ t → SequenceRow reading (pairs xs) κ (λ i. get_or row i 0) r

-- of a property, the suffixes that satisfy it and the positions from which it is tested
pub record PropertyMeans (s xs : List ℕ) (t : Ticks) (k : ℕ) (r : Told) : Type 0 where
  pub says : (P : Prop Atom) → PropertyAt (node_at s) k P → (κ : Clock Atom) → Ticking xs κ t → Says reading (pairs xs) κ P (told r.holds)
  pub tested : (P : Prop Atom) → PropertyAt (node_at s) k P → (κ : Clock Atom) → Ticking xs κ t → TestedBy reading (pairs xs) κ P (has r.tested.bits)
