-- What an acceptance means, of the table s and the samples xs: the level is that of the property at the root of s, clocks and all, on the pairs of the samples,
-- and tested is yes exactly if they test that property. Assumes nothing.
use Rattle.std.specs.Prelude.{List, ℕ}
use Rattle.telling.specs.Tells.{Tells}
use Rattle.meaning.specs.Syntax.{Prop}
use Rattle.meaning.specs.Meaning.{Level}
use Rattle.meaning.specs.Tested.{Tests}
use Rattle.meaning.specs.Pairs.{Atom, reading, pairs}
use Rattle.table.specs.Trees.{RootP}
use Rattle.judgement.specs.declared.Judgement.{Judgement}

pub record Meant (s xs : List ℕ) (r : Judgement) : Type 0 where
  pub level : (P : Prop Atom) × RootP s P × Level reading P (pairs xs) r.level.number
  pub tested : (P : Prop Atom) × RootP s P × Tells r.tested (Tests reading (pairs xs) P)
