-- The same of a table of version 1, over samples and signals, with no pair: document 01's meaning. Assumes nothing.
use Rattle.std.specs.Prelude.{List, ℕ}
use Rattle.telling.specs.Tells.{Tells}
use Rattle.meaning.specs.Syntax.{Prop}
use Rattle.meaning.specs.Meaning.{Level}
use Rattle.meaning.specs.Tested.{Tests}
use Rattle.meaning.specs.Signal.{signal}
use Rattle.meaning.specs.Renaming.{signals_p}
use Rattle.table.specs.Trees.{RootP}
use Rattle.judgement.specs.declared.Judgement.{Judgement}

pub record MeantBySamples (s xs : List ℕ) (r : Judgement) : Type 0 where
  pub level : (P : Prop ℕ) × RootP s (signals_p P) × Level signal P xs r.level.number
  pub tested : (P : Prop ℕ) × RootP s (signals_p P) × Tells r.tested (Tests signal xs P)
