-- What is said of a table of version 1 over samples and signals, with no pairs: `rowmeaning`'s rows and Judges.antt with `signal` for `reading`.
-- `proofs/VersionOne.antt` shows it of every accepted call. Assumes nothing.
use Rattle.std.specs.Prelude.{◌≡◌, List, ℕ, ◌<◌}
use Rattle.telling.specs.Tells.{Tells}
use Rattle.refusal.specs.Heading.{count}
use Rattle.meaning.specs.Syntax.{Bexp, Seq, Prop, free}
use Rattle.meaning.specs.Meaning.{Level, Ends}
use Rattle.meaning.specs.Tested.{Tests}
use Rattle.meaning.specs.Signal.{signal}
use Rattle.meaning.specs.Pairs.{Atom}
use Rattle.meaning.specs.Renaming.{signals_b, signals_s, signals_p}
use Rattle.nodes.specs.Nodes.{node_at}
use Rattle.table.specs.Trees.{BooleanAt, SequenceAt, PropertyAt, RootS, RootP}
use Rattle.writing.specs.Tables.{new_table}
use Rattle.rewrite.specs.Rewrites.{OfClocks}
use Rattle.cells.specs.Shares.{word_in}
use Rattle.rowmeaning.specs.Rows.{Onward, BooleanRow, SequenceRow, PropertyRow}
use Rattle.judgement.specs.declared.Judgement.{Judgement}
use Rattle.judge.specs.declared.MatchEnds.{MatchEnds}

-- each node of t stands for a tree of signals alone, and its row in the workspace is that tree's on the samples xs
pub record RowsBySamples (t xs d' : List ℕ) : Type 0 where
  pub booleans : (k : ℕ) → k < count t → (b : Bexp Atom) → BooleanAt (node_at t) k b
      → (c : Bexp ℕ) × (b ≡ signals_b c) × BooleanRow signal xs (word_in d' k) c
  pub sequences : (k : ℕ) → k < count t → (r : Seq Atom) → SequenceAt (node_at t) k r
      → (q : Seq ℕ) × (r ≡ signals_s q) × SequenceRow signal xs free (word_in d' k) q
  pub properties : (k : ℕ) → k < count t → (P : Prop Atom) → PropertyAt (node_at t) k P
      → (Q : Prop ℕ) × (P ≡ signals_p Q) × PropertyRow signal xs free (word_in d' k) Q

-- the judge's answer: the level of the property at the root, the flag, the rows
pub record JudgedBySamples (s xs : List ℕ) (r : Judgement) (d' : List ℕ) : Type 0 where
  pub level : (P : Prop ℕ) × RootP s (signals_p P) × Level signal P xs r.level.number
  pub tested : (P : Prop ℕ) × RootP s (signals_p P) × Tells r.tested (Tests signal xs P)
  pub rows : OfClocks s (λ clock. RowsBySamples (new_table s clock) xs d')

-- the answer of match ends
pub record EndedBySamples (s xs : List ℕ) (start : ℕ) (r : MatchEnds) (d' : List ℕ) : Type 0 where
  pub ends : (q : Seq ℕ) × RootS s (signals_s q) × Ends signal q xs start r.mask.bits × Tells r.top (Onward signal xs free q start)
  pub rows : OfClocks s (λ clock. RowsBySamples (new_table s clock) xs d')
