-- What the judge and match ends answer, and what they leave in the workspace: of the table s, the samples xs and the words d lent, the answer r and the words
-- d' left. Assumes nothing.
use Rattle.std.specs.Prelude.{◌≡◌, false, List, ℕ, length}
use Rattle.telling.specs.Tells.{Tells}
use Rattle.refusal.specs.First.{Answers}
use Rattle.meaning.specs.Syntax.{Seq, Prop, free}
use Rattle.meaning.specs.Meaning.{Level, Ends}
use Rattle.meaning.specs.Tested.{Tests}
use Rattle.meaning.specs.Pairs.{Atom, reading, pairs}
use Rattle.table.specs.Trees.{RootS, RootP}
use Rattle.writing.specs.Tables.{new_table}
use Rattle.rewrite.specs.Rewrites.{OfClocks}
use Rattle.settling.specs.Refusals.{judge_refusals, ends_refusals}
use Rattle.judgement.specs.declared.Judgement.{Judgement}
use Rattle.judge.specs.declared.MatchEnds.{MatchEnds}
use Rattle.rowmeaning.specs.Rows.{Onward}
use Rattle.judge.specs.Rows.{Filled}

-- the workspace has the rows of the rewritten table
abbrev pub Rowed : List ℕ → List ℕ → List ℕ → List ℕ → Type 0
Rowed s xs d d' = OfClocks s (λ clock. Filled (new_table s clock) xs d d')

-- an acceptance: the level is that of the property at the root of s, clocks and all, on the pairs of the samples; tested is yes exactly if they test that
-- property; and the rows
pub record Judged (s xs d : List ℕ) (r : Judgement) (d' : List ℕ) : Type 0 where
  pub level : (P : Prop Atom) × RootP s P × Level reading P (pairs xs) r.level.number
  pub tested : (P : Prop Atom) × RootP s P × Tells r.tested (Tests reading (pairs xs) P)
  pub rows : Rowed s xs d d'

-- the statement of the judge. No second answer and no second workspace fit (`proofs/Unique.antt`, `judge_unique`)
pub record Judges (s xs d : List ℕ) (r : Judgement) (d' : List ℕ) : Type 0 where
  -- the first refusal that applies
  pub answer : Answers (judge_refusals s (length xs) (length d)) r.verdict
  pub accepted : r.verdict.number ≡ 0 → Judged s xs d r d'
  -- with level 0, not tested; changes nothing lent
  pub refused : ¬ (r.verdict.number ≡ 0) → (r.level.number ≡ 0) × (r.tested ≡ false) × (d' ≡ d)

-- an acceptance of match ends: bit j of the mask is set where samples start to j - 1 match the sequence at the root of s, clocks and all; `top` is yes
-- exactly if the samples from start on, followed by one or more ⊤, match it; and the rows
pub record Ended (s xs d : List ℕ) (start : ℕ) (r : MatchEnds) (d' : List ℕ) : Type 0 where
  pub ends : (q : Seq Atom) × RootS s q × Ends reading q (pairs xs) start r.mask.bits × Tells r.top (Onward reading (pairs xs) free q start)
  pub rows : Rowed s xs d d'

-- the statement of match ends. No second answer and no second workspace fit (`proofs/Unique.antt`, `ends_unique`)
pub record EndsMatches (s xs d : List ℕ) (start : ℕ) (r : MatchEnds) (d' : List ℕ) : Type 0 where
  pub answer : Answers (ends_refusals s (length xs) start (length d)) r.verdict
  pub accepted : r.verdict.number ≡ 0 → Ended s xs d start r d'
  -- with an empty mask; changes nothing lent
  pub refused : ¬ (r.verdict.number ≡ 0) → (r.mask.bits ≡ 0) × (r.top ≡ false) × (d' ≡ d)
