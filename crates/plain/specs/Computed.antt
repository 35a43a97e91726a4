-- What the parts of the code ask of each other. Assumes nothing.
use Rattle.std.specs.Prelude.{List, ℕ}
use Rattle.positions.specs.Member.{has}
use Rattle.meaning.specs.Syntax.{Prop, free}
use Rattle.meaning.specs.Levels.{level_of}
use Rattle.meaning.specs.Pairs.{Atom, reading, pairs}
use Rattle.table.specs.Trees.{RootP}
use Rattle.properties.specs.Shapes.{told}
use Rattle.steps.specs.declared.Told.{Told}
use Rattle.rowmeaning.specs.Sets.{Says, TestedBy}

-- the level of the answers from position 0
abbrev pub root_level : Told → ℕ
root_level r = level_of (has r.holds.strong.bits 0) (has r.holds.neutral.bits 0) (has r.holds.weak.bits 0)

-- what the property at the root answers, if it is one
pub record RootTold (s xs : List ℕ) (r : Told) : Type 0 where
  pub says : (P : Prop Atom) → RootP s P → Says reading (pairs xs) free P (told r.holds)
  pub tested : (P : Prop Atom) → RootP s P → TestedBy reading (pairs xs) free P (has r.tested.bits)
