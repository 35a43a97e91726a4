-- The three demands of the judge and of match ends on tables of versions 1 to 3, as judge/proofs/Demands.antt has them of tables with base operators: where a
-- call accepts, it is the base call on the expansion, whose root stands for the same tree. Assumes nothing.
use mathlib.Core.Path.{◌≡◌}
use mathlib.Core.Bool.{false}
use mathlib.Core.Logic.{◌⊎◌, ◌↔◌}
use mathlib.Core.List.{List, [], ◌∷◌, ◌++◌}
use Prim.Native.Nat.{ℕ, zero, ◌*◌, ◌-◌, ◌≤◌}
use lib.Dec.{T}
use lib.ListN.{length}
use Rattle.telling.specs.Tells.{Tells}
use Rattle.refusal.specs.First.{Refusal, NotGiven, FirstGiven}
use Rattle.refusal.proofs.Given.{numbered, given_refused, answered_given, none_answered}
use Rattle.meaning.specs.Syntax.{Seq, Prop, free}
use Rattle.meaning.specs.Words.{Tail, none, tops, bots, word}
use Rattle.meaning.specs.Meaning.{Sat, Level, Ends}
use Rattle.meaning.specs.Tested.{Tests}
use Rattle.meaning.specs.Pairs.{Atom, reading, pairs}
use Rattle.nodes.specs.NodeClock.{Ref}
use Rattle.table.specs.Trees.{RootS, RootP}
use Rattle.expansion.specs.Expansion.{expansion}
use Rattle.clocks.specs.Clocks.{Clocks}
use Rattle.numbers.specs.Numbers.{new_count}
use Rattle.writing.specs.Tables.{new_table}
use Rattle.cells.specs.Shares.{share, longest, top_word, word_in, bit_in, word_of}
use Rattle.rowmeaning.specs.Rows.{Onward}
use Rattle.judgement.specs.declared.Judgement.{Judgement}
use Rattle.judge.specs.declared.MatchEnds.{MatchEnds}
use Rattle.judge.specs.Rows.{Filled}
use Rattle.judge.specs.Judges as Base
use Rattle.judge.proofs.Demands as Judge
use Rattle.calls.specs.Refusals.{judge_refusals, ends_refusals}
use Rattle.calls.specs.Judges.{Judges, EndsMatches}
use Rattle.calls.specs.Taken.{Opened, expanded}
use Rattle.calls.proofs.Taking.{same_property, same_sequence, rewritten_taken}
use Rattle.calls.proofs.Carrying.{judge_opened, ends_opened, judge_taken, ends_taken}
use Rattle.calls.proofs.Unique.{judge_singles, ends_singles}

-- ---- demand 1: bad input is refused with exactly the page's number, and nothing lent is changed

module _ (s xs d : List ℕ) (r : Judgement) (d' : List ℕ) (j : Judges s xs d r d') where
  numbers : T (numbered (judge_refusals s (length xs) (length d)))
  unfolding judge_refusals
  numbers = tt

  -- where x of the judge's refusals is given, at node k, and none before it, it is answered, with level 0, not tested, and no word is changed
  pub judge_refuses : (before : List Refusal) (x : Refusal) (after : List Refusal) → judge_refusals s (length xs) (length d) ≡ before ++ (x ∷ after)
      → NotGiven before → (k : ℕ) → x.given k
      → (r.verdict.number ≡ x.number) × (r.verdict.node ≡ k) × (r.level.number ≡ 0) × (r.tested ≡ false) × (d' ≡ d)
  judge_refuses before x after e n k g =
      let (a, b, z) = given_refused (judge_refusals s (length xs) (length d)) (judge_singles s (length xs) (length d)) numbers before x after e n k g r.verdict j.answer in
      let (l, t, w) = j.refused z in
      (a, b, l, t, w)

  -- what is answered is given, and none before it
  pub judge_refused_rightly : ¬ (r.verdict.number ≡ 0) → FirstGiven (judge_refusals s (length xs) (length d)) r.verdict
  judge_refused_rightly z = answered_given (judge_refusals s (length xs) (length d)) r.verdict j.answer z

  -- with none given the judge accepts
  pub judge_accepts : NotGiven (judge_refusals s (length xs) (length d)) → (r.verdict.number ≡ 0) × (r.verdict.node ≡ 0)
  judge_accepts n = none_answered (judge_refusals s (length xs) (length d)) n r.verdict j.answer

-- the same of match ends, with an empty mask
module _ (s xs d : List ℕ) (start : ℕ) (r : MatchEnds) (d' : List ℕ) (j : EndsMatches s xs d start r d') where
  ends_numbers : T (numbered (ends_refusals s (length xs) start (length d)))
  unfolding ends_refusals
  ends_numbers = tt

  pub ends_refuses : (before : List Refusal) (x : Refusal) (after : List Refusal) → ends_refusals s (length xs) start (length d) ≡ before ++ (x ∷ after)
      → NotGiven before → (k : ℕ) → x.given k
      → (r.verdict.number ≡ x.number) × (r.verdict.node ≡ k) × (r.mask.bits ≡ 0) × (r.top ≡ false) × (d' ≡ d)
  ends_refuses before x after e n k g =
      let (a, b, z) = given_refused (ends_refusals s (length xs) start (length d)) (ends_singles s (length xs) start (length d)) ends_numbers before x after e n k g r.verdict j.answer in
      let (l, t, w) = j.refused z in
      (a, b, l, t, w)

  pub ends_refused_rightly : ¬ (r.verdict.number ≡ 0) → FirstGiven (ends_refusals s (length xs) start (length d)) r.verdict
  ends_refused_rightly z = answered_given (ends_refusals s (length xs) start (length d)) r.verdict j.answer z

  pub ends_accepts : NotGiven (ends_refusals s (length xs) start (length d)) → (r.verdict.number ≡ 0) × (r.verdict.node ≡ 0)
  ends_accepts n = none_answered (ends_refusals s (length xs) start (length d)) n r.verdict j.answer

-- ---- demand 2: the level is the one that the published meaning gives on the clocked table; match ends and the rows are fixed too

module _ (s xs d : List ℕ) (r : Judgement) (d' : List ℕ) (j : Judges s xs d r d') (z : r.verdict.number ≡ 0) where
  opened : Opened s
  opened = judge_opened s r.verdict z (length xs) (length d) j.answer

  -- the base call on the expansion
  judged : Base.Judges (expansion s) xs d r d'
  judged = (judge_taken s (expansion s) (expanded opened) xs d r d').1 j

  -- the level of the property at the root, clocks and all, and no other number
  pub level_meant : (P : Prop Atom) → RootP s P → Level reading P (pairs xs) r.level.number
  level_meant P a = Judge.level_meant (expansion s) xs d r d' judged z P ((same_property s opened P).0 a)

  pub level_only : (P : Prop Atom) → RootP s P → (m : ℕ) → Level reading P (pairs xs) m → r.level.number ≡ m
  level_only P a m l = Judge.level_only (expansion s) xs d r d' judged z P ((same_property s opened P).0 a) m l

  -- the flag is yes exactly if the samples test that property
  pub tested_meant : (P : Prop Atom) → RootP s P → Tells r.tested (Tests reading (pairs xs) P)
  tested_meant P a = Judge.tested_meant (expansion s) xs d r d' judged z P ((same_property s opened P).0 a)

  module _ (clock : ℕ → Ref) (right : Clocks (expansion s) clock) where
    -- the rows of the expansion, every bit
    pub rows_meant : Filled (new_table (expansion s) clock) xs d d'
    rows_meant = Judge.rows_meant (expansion s) xs d r d' judged z clock right

module _ (s xs d : List ℕ) (start : ℕ) (r : MatchEnds) (d' : List ℕ) (j : EndsMatches s xs d start r d') (z : r.verdict.number ≡ 0) where
  ends_open : Opened s
  ends_open = ends_opened s r.verdict z (length xs) start (length d) j.answer

  ended : Base.EndsMatches (expansion s) xs d start r d'
  ended = (ends_taken s (expansion s) (expanded ends_open) xs d start r d').1 j

  -- the ends of the matches of the sequence at the root, clocks and all, and whether it matches on into letters ⊤
  pub ends_meant : (q : Seq Atom) → RootS s q → Ends reading q (pairs xs) start r.mask.bits × Tells r.top (Onward reading (pairs xs) free q start)
  ends_meant q a = Judge.ends_meant (expansion s) xs d start r d' ended z q ((same_sequence s ends_open q).0 a)

  module _ (clock : ℕ → Ref) (right : Clocks (expansion s) clock) where
    -- the rows of the expansion, every bit
    pub ends_rows_meant : Filled (new_table (expansion s) clock) xs d d'
    ends_rows_meant = Judge.ends_rows_meant (expansion s) xs d start r d' ended z clock right

    -- the root's word at the start, and bit start of word 64
    pub ends_in_the_rows : (r.mask.bits ≡ word_in d' (new_count (expansion s) clock - 1) start) × (r.top ≡ bit_in d' (new_count (expansion s) clock - 1) top_word start)
    ends_in_the_rows = Judge.ends_in_the_rows (expansion s) xs d start r d' ended z clock right

-- ---- demand 3: a longer record never overturns a 3 or a 0; strong implies neutral implies weak; the rewritten table gives the same three answers

-- the judge is given xs, which it accepts, and then xs and more samples
module _ (s xs ys d e : List ℕ) (r q : Judgement) (d' e' : List ℕ) (j : Judges s xs d r d') (k : Judges s (xs ++ ys) e q e') (z : r.verdict.number ≡ 0) where
  shorter : Base.Judges (expansion s) xs d r d'
  shorter = judged s xs d r d' j z

  longer : Base.Judges (expansion s) (xs ++ ys) e q e'
  longer = (judge_taken s (expansion s) (expanded (opened s xs d r d' j z)) (xs ++ ys) e q e').1 k

  -- it accepts these too, where they are 63 at most and the workspace is large enough
  pub longer-accepted : length (xs ++ ys) ≤ longest → ((clock : ℕ → Ref) → Clocks (expansion s) clock → share * new_count (expansion s) clock ≤ length e) → q.verdict.number ≡ 0
  longer-accepted = Judge.longer-accepted (expansion s) xs ys d e r q d' e' shorter longer z

  module _ (y : q.verdict.number ≡ 0) where
    pub held_stays : r.level.number ≡ 3 → q.level.number ≡ 3
    held_stays = Judge.held_stays (expansion s) xs ys d e r q d' e' shorter longer z y

    pub broken_stays : r.level.number ≡ 0 → q.level.number ≡ 0
    broken_stays = Judge.broken_stays (expansion s) xs ys d e r q d' e' shorter longer z y

module _ (s xs d : List ℕ) (r : Judgement) (d' : List ℕ) (j : Judges s xs d r d') (z : r.verdict.number ≡ 0) (clock : ℕ → Ref) (right : Clocks (expansion s) clock) where
  -- the root's row in the workspace, and what it says of the root of s
  abbrev root_of : ℕ
  root_of = new_count (expansion s) clock - 1

  pub answers_meant : (P : Prop Atom) → RootP s P → (t : Tail) (i : ℕ) → i ≤ length xs → Tells (bit_in d' root_of (word_of t) i) (Sat reading free P (word (pairs xs) t) i)
  answers_meant P a = Judge.answers_meant (expansion s) xs d r d' (judged s xs d r d' j z) z clock right P ((same_property s (opened s xs d r d' j z) P).0 a)

  -- in the workspace as in the meaning: strong implies neutral implies weak
  pub answers_ordered : (T (bit_in d' root_of (word_of bots) 0) → T (bit_in d' root_of (word_of none) 0)) × (T (bit_in d' root_of (word_of none) 0) → T (bit_in d' root_of (word_of tops) 0))
  answers_ordered = Judge.answers_ordered (expansion s) xs d r d' (judged s xs d r d' j z) z clock right

  -- the rewritten table's own answers are those of the table,
  pub rewritten_answers : (P Q : Prop Atom) → RootP s P → RootP (new_table (expansion s) clock) Q → (t : Tail) → Sat reading free P (word (pairs xs) t) zero ↔ Sat reading free Q (word (pairs xs) t) zero
  rewritten_answers P Q a b t = Judge.rewritten_answers (expansion s) xs d r d' (judged s xs d r d' j z) z clock right P Q ((same_property s (opened s xs d r d' j z) P).0 a) b t

  -- and the judge, given the rewritten table and the same samples,
  module _ (e : List ℕ) (q : Judgement) (e' : List ℕ) (k : Judges (new_table (expansion s) clock) xs e q e') where
    again : Base.Judges (new_table (expansion s) clock) xs e q e'
    again = (judge_taken (new_table (expansion s) clock) (new_table (expansion s) clock) (rewritten_taken s (opened s xs d r d' j z) clock right) xs e q e').1 k

    -- accepts it, where the workspace is large enough,
    pub rewritten_accepted : share * new_count (expansion s) clock ≤ length e → q.verdict.number ≡ 0
    rewritten_accepted = Judge.rewritten_accepted (expansion s) xs d r d' (judged s xs d r d' j z) z clock right e q e' again

    -- and gives it the same level
    pub rewritten_level : q.verdict.number ≡ 0 → r.level.number ≡ q.level.number
    rewritten_level = Judge.rewritten_level (expansion s) xs d r d' (judged s xs d r d' j z) z clock right e q e' again

-- ---- the empty record leaves every accepted property open

pub empty_open : (s d : List ℕ) (r : Judgement) (d' : List ℕ) → Judges s [] d r d' → r.verdict.number ≡ 0 → (r.level.number ≡ 1) ⊎ (r.level.number ≡ 2)
empty_open s d r d' j z = Judge.empty_open (expansion s) d r d' (judged s [] d r d' j z) z
