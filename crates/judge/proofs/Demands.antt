-- The three demands, as theorems about what the judge and match ends answer. A call is told by its statement: `Judges s xs d r d'` says that of the table s,
-- the samples xs and the workspace d the answer is r and the workspace left is d'. Assumes nothing.
use native.Mathlib.Omega.{arith}
use native.Mathlib.Nat.{le_of_suc-le-suc, lt_of_not-le}
use mathlib.Core.Path.{◌≡◌, refl, sym, subst}
use mathlib.Core.Bool.{false}
use mathlib.Core.Logic.{◌⊎◌, ◌↔◌}
use mathlib.Core.List.{List, [], ◌∷◌, ◌++◌}
use Prim.Native.Nat.{ℕ, zero, ◌*◌, ◌-◌, ◌≤◌}
use lib.Dec.{T}
use lib.ListN.{length, drop}
use Rattle.telling.specs.Tells.{Tells}
use Rattle.telling.proofs.Telling.{is_map, is_like, same_test}
use Rattle.positions.proofs.Laws.{ext}
use Rattle.refusal.specs.First.{Refusal, NotGiven, FirstGiven}
use Rattle.refusal.specs.Heading.{count}
use Rattle.refusal.specs.Computed.{accepted}
use Rattle.refusal.proofs.Given.{numbered, given_refused, answered_given, none_answered, not_given-append, not_given_join}
use Rattle.meaning.specs.Syntax.{Seq, Prop, free}
use Rattle.meaning.specs.Words.{Tail, none, tops, bots, word}
use Rattle.meaning.specs.Meaning.{Sat, Accepted, Level, Ends}
use Rattle.meaning.specs.Tested.{Tests}
use Rattle.meaning.specs.Pairs.{Atom, reading, pairs_after, pairs}
use Rattle.meaning.proofs.Pairing.{length_pairs}
use Rattle.meaning.specs.Rewriting.{rew_s, rew_p}
use Rattle.meaning.proofs.Theorems as Meaning
use Rattle.nodes.specs.Operators.{sequence, property}
use Rattle.nodes.specs.Nodes.{root}
use Rattle.nodes.specs.NodeClock.{Ref}
use Rattle.table.specs.Trees.{RootS, RootP}
use Rattle.table.specs.Check as Check
use Rattle.table.specs.Check.{Checks}
use Rattle.table.proofs.Reading.{unique_s}
use Rattle.table.proofs.Checking.{sound, checks_given, accepted_root}
use Rattle.table.proofs.Standing.{sequence_in}
use Rattle.table.proofs.Within.{not_both}
use Rattle.rewrite.proofs.Clockless.{same_count}
use Rattle.clocks.specs.Clocks.{Clocks}
use Rattle.numbers.specs.Numbers.{new_count}
use Rattle.writing.specs.Tables.{new_table}
use Rattle.rewrite.specs.Rewrites.{too_many}
use Rattle.cells.specs.Shares.{share, longest, top_word, word_in, bit_in, word_of}
use Rattle.judgement.specs.declared.Judgement.{Judgement}
use Rattle.judge.specs.declared.MatchEnds.{MatchEnds}
use Rattle.rowmeaning.specs.Rows.{Onward}
use Rattle.rowmeaning.proofs.Stepping.{ends_inside}
use Rattle.judge.specs.Rows.{Filled}
use Rattle.judgement.specs.Refusals.{wrong_root}
use Rattle.settling.specs.Refusals.{judge_refusals, ends_refusals}
use Rattle.judge.specs.Judges.{Judges, EndsMatches}
use Rattle.settling.proofs.Passing.{judge_rest, ends_rest, judge_passes, ends_passes, own_parts, table_checks, same_clocks, new_keeps, new_accepted, count_is_new, few_nodes}
use Rattle.judgement.proofs.Lasting.{level_is, tested_is, no_other_level, meant-held_stays, meant_broken_stays}
use Rattle.judge.proofs.Unique.{judge_singles, ends_singles, meant}

-- ---- demand 1: bad input is refused with exactly the page's number, and nothing lent is changed

module _ (s xs d : List ℕ) (r : Judgement) (d' : List ℕ) (j : Judges s xs d r d') where
  numbers : T (numbered (judge_refusals s (length xs) (length d)))
  unfolding judge_refusals Check.refusals
  numbers = tt

  -- where x of the judge's refusals is given, at node k, and none before it, it is answered, with level 0, not tested, and no word is changed
  pub judge_refuses : (before : List Refusal) (x : Refusal) (after : List Refusal) → judge_refusals s (length xs) (length d) ≡ before ++ (x ∷ after)
      → NotGiven before → (k : ℕ) → x.given k
      → (r.verdict.number ≡ x.number) × (r.verdict.node ≡ k) × (r.level.number ≡ 0) × (r.tested ≡ false) × (d' ≡ d)
  judge_refuses before x after e n k g =
      let (a, b, z) = given_refused (judge_refusals s (length xs) (length d)) (judge_singles s (length xs) (length d)) numbers before x after e n k g r.verdict j.answer in
      let (l, t, w) = j.refused z in
      (a, b, l, t, w)

  -- what is answered is given, and none before it
  pub judge_refused_rightly : ¬ (r.verdict.number ≡ 0) → FirstGiven (judge_refusals s (length xs) (length d)) r.verdict
  judge_refused_rightly z = answered_given (judge_refusals s (length xs) (length d)) r.verdict j.answer z

  -- with none given the judge accepts
  pub judge_accepts : NotGiven (judge_refusals s (length xs) (length d)) → (r.verdict.number ≡ 0) × (r.verdict.node ≡ 0)
  judge_accepts n = none_answered (judge_refusals s (length xs) (length d)) n r.verdict j.answer

-- the same of match ends, with an empty mask
module _ (s xs d : List ℕ) (start : ℕ) (r : MatchEnds) (d' : List ℕ) (j : EndsMatches s xs d start r d') where
  ends_numbers : T (numbered (ends_refusals s (length xs) start (length d)))
  unfolding ends_refusals Check.refusals
  ends_numbers = tt

  pub ends_refuses : (before : List Refusal) (x : Refusal) (after : List Refusal) → ends_refusals s (length xs) start (length d) ≡ before ++ (x ∷ after)
      → NotGiven before → (k : ℕ) → x.given k
      → (r.verdict.number ≡ x.number) × (r.verdict.node ≡ k) × (r.mask.bits ≡ 0) × (r.top ≡ false) × (d' ≡ d)
  ends_refuses before x after e n k g =
      let (a, b, z) = given_refused (ends_refusals s (length xs) start (length d)) (ends_singles s (length xs) start (length d)) ends_numbers before x after e n k g r.verdict j.answer in
      let (l, t, w) = j.refused z in
      (a, b, l, t, w)

  pub ends_refused_rightly : ¬ (r.verdict.number ≡ 0) → FirstGiven (ends_refusals s (length xs) start (length d)) r.verdict
  ends_refused_rightly z = answered_given (ends_refusals s (length xs) start (length d)) r.verdict j.answer z

  pub ends_accepts : NotGiven (ends_refusals s (length xs) start (length d)) → (r.verdict.number ≡ 0) × (r.verdict.node ≡ 0)
  ends_accepts n = none_answered (ends_refusals s (length xs) start (length d)) n r.verdict j.answer

-- ---- demand 2: the level is the one that the published meaning gives on the clocked table; match ends and the rows are fixed too

module _ (s xs d : List ℕ) (r : Judgement) (d' : List ℕ) (j : Judges s xs d r d') (z : r.verdict.number ≡ 0) where
  passes : NotGiven (Check.refusals s ++ (wrong_root s sequence ∷ too_many s ∷ judge_rest s (length xs) (length d)))
  passes = judge_passes s (length xs) (length d) r.verdict z j.answer

  pub table-accepted : Checks s accepted
  table-accepted = table_checks s (wrong_root s sequence) (judge_rest s (length xs) (length d)) passes

  root_accepted : (P : Prop Atom) → RootP s P → Accepted reading free P
  root_accepted P a = accepted_root s accepted table-accepted refl P a

  -- the level of the property at the root, clocks and all, and no other number
  pub level_meant : (P : Prop Atom) → RootP s P → Level reading P (pairs xs) r.level.number
  level_meant P a = level_is s xs r (meant s xs d r d' (j.accepted z)) P a

  pub level_only : (P : Prop Atom) → RootP s P → (m : ℕ) → Level reading P (pairs xs) m → r.level.number ≡ m
  level_only P a m l = no_other_level s xs r (meant s xs d r d' (j.accepted z)) P a table-accepted m l

  -- the flag is yes exactly if the samples test that property
  pub tested_meant : (P : Prop Atom) → RootP s P → Tells r.tested (Tests reading (pairs xs) P)
  tested_meant P a = tested_is s xs r (meant s xs d r d' (j.accepted z)) P a

  module _ (clock : ℕ → Ref) (right : Clocks s clock) where
    same : (other : ℕ → Ref) → Clocks s other → other ≡ clock
    same other right' = same_clocks s (wrong_root s sequence) (judge_rest s (length xs) (length d)) passes other clock right' right

    -- the rows, every bit
    pub rows_meant : Filled (new_table s clock) xs d d'
    rows_meant = let (other, right', f) = (j.accepted z).rows in subst (λ (κ : ℕ → Ref). Filled (new_table s κ) xs d d') (same other right') f

module _ (s xs d : List ℕ) (start : ℕ) (r : MatchEnds) (d' : List ℕ) (j : EndsMatches s xs d start r d') (z : r.verdict.number ≡ 0) where
  ends_pass : NotGiven (Check.refusals s ++ (wrong_root s property ∷ too_many s ∷ ends_rest s (length xs) start (length d)))
  ends_pass = ends_passes s (length xs) start (length d) r.verdict z j.answer

  -- the ends of the matches of the sequence at the root, clocks and all, and whether it matches on into letters ⊤
  pub ends_meant : (q : Seq Atom) → RootS s q → Ends reading q (pairs xs) start r.mask.bits × Tells r.top (Onward reading (pairs xs) free q start)
  ends_meant q a =
      let (p, b, m, t) = (j.accepted z).ends in
      subst (λ (q : Seq Atom). Ends reading q (pairs xs) start r.mask.bits × Tells r.top (Onward reading (pairs xs) free q start)) (unique_s b a) (m, t)

  module _ (clock : ℕ → Ref) (right : Clocks s clock) where
    -- the rows, every bit
    pub ends_rows_meant : Filled (new_table s clock) xs d d'
    ends_rows_meant =
        let (other, right', f) = (j.accepted z).rows in
        let e = same_clocks s (wrong_root s property) (ends_rest s (length xs) start (length d)) ends_pass other clock right' right in
        subst (λ (κ : ℕ → Ref). Filled (new_table s κ) xs d d') e f

    -- the root's word at the start, and bit start of word 64
    pub ends_in_the_rows : (r.mask.bits ≡ word_in d' (new_count s clock - 1) start) × (r.top ≡ bit_in d' (new_count s clock - 1) top_word start)
    unfolding ends_refusals Check.refusals
    ends_in_the_rows =
        let x = wrong_root s property in
        let rest = ends_rest s (length xs) start (length d) in
        let keeps = new_keeps s x rest ends_pass clock right in
        let upto : start ≤ length xs = le_of_suc-le-suc (lt_of_not-le (λ g. (own_parts s x rest ends_pass).1.1.1.0 0 (refl, g))) in
        let within : start ≤ length (pairs xs) = let n = length_pairs xs in omega arith in
        let (q, a, m, t) = (j.accepted z).ends in
        let b = keeps.sequence q a in
        let l = (sound (new_table s clock) accepted (new_accepted s x rest ends_pass clock right) refl).formed.some in
        let row = ends_rows_meant.sequences (root (new_table s clock)) (omega arith) (rew_s free q) b in
        let same = keeps.matches q (rew_s free q) a b in
        subst (λ (n : ℕ). (r.mask.bits ≡ word_in d' (n - 1) start) × (r.top ≡ bit_in d' (n - 1) top_word start)) (count_is_new s x rest ends_pass clock right) (
          ext r.mask.bits (word_in d' (root (new_table s clock)) start)
              (λ i. same_test (record { to = λ h. (same (word (pairs xs) none) start i).0 ((m i).0 h).1; from = λ h. let g = (same (word (pairs xs) none) start i).1 h in (m i).1 (ends_inside reading (pairs xs) free q start i within g, g) }) (row.ends start within i)),
          same_test (is_map t (λ h. (h.0, h.1, (same (word (pairs xs) tops) start h.0).0 h.2)) (λ h. (h.0, h.1, (same (word (pairs xs) tops) start h.0).1 h.2))) (row.on start within),
        )

-- ---- demand 3: a longer record never overturns a 3 or a 0; strong implies neutral implies weak; the rewritten table gives the same three answers

-- the judge is given xs, which it accepts, and then xs and more samples
module _ (s xs ys d e : List ℕ) (r q : Judgement) (d' e' : List ℕ) (j : Judges s xs d r d') (k : Judges s (xs ++ ys) e q e') (z : r.verdict.number ≡ 0) where
  -- it accepts these too, where they are 63 at most and the workspace is large enough
  pub longer-accepted : length (xs ++ ys) ≤ longest → ((clock : ℕ → Ref) → Clocks s clock → share * new_count s clock ≤ length e) → q.verdict.number ≡ 0
  unfolding judge_refusals
  longer-accepted short room =
      let n = passes s xs d r d' j z in
      let own = own_parts s (wrong_root s sequence) (judge_rest s (length xs) (length d)) n in
      (judge_accepts s (xs ++ ys) e q e' k
      (not_given_join (Check.refusals s) _ (not_given-append (Check.refusals s) _ n).0 (own.0, (own.1.0, (λ i g. let l = g.1 in omega arith, (λ i g. let (clock, right, l) = g.1 in let h = room clock right in omega arith, tt)))))).0

  module _ (y : q.verdict.number ≡ 0) where
    pub held_stays : r.level.number ≡ 3 → q.level.number ≡ 3
    held_stays = meant-held_stays s xs ys (table-accepted s xs d r d' j z) r q (meant s xs d r d' (j.accepted z)) (meant s (xs ++ ys) e q e' (k.accepted y))

    pub broken_stays : r.level.number ≡ 0 → q.level.number ≡ 0
    broken_stays = meant_broken_stays s xs ys (table-accepted s xs d r d' j z) r q (meant s xs d r d' (j.accepted z)) (meant s (xs ++ ys) e q e' (k.accepted y))

module _ (s xs d : List ℕ) (r : Judgement) (d' : List ℕ) (j : Judges s xs d r d') (z : r.verdict.number ≡ 0) (clock : ℕ → Ref) (right : Clocks s clock) where
  -- the root's row in the workspace, and what it says of the root of s
  abbrev root_of : ℕ
  root_of = new_count s clock - 1

  pub answers_meant : (P : Prop Atom) → RootP s P → (t : Tail) (i : ℕ) → i ≤ length xs → Tells (bit_in d' root_of (word_of t) i) (Sat reading free P (word (pairs xs) t) i)
  answers_meant P a t i h =
      let n = passes s xs d r d' j z in
      let w = wrong_root s sequence in
      let rest = judge_rest s (length xs) (length d) in
      let keeps = new_keeps s w rest n clock right in
      let c = count_is_new s w rest n clock right in
      let l = (sound (new_table s clock) accepted (new_accepted s w rest n clock right) refl).formed.some in
      let b = keeps.property P a in
      let row = (rows_meant s xs d r d' j z clock right).properties (root (new_table s clock)) (omega arith) (rew_p free P) b in
      is_like (subst (λ (m : ℕ). Tells (bit_in d' (m - 1) (word_of t) i) (Sat reading free (rew_p free P) (word (pairs xs) t) i)) c (row.answers t i (let n = length_pairs xs in omega arith))) (keeps.answers P (rew_p free P) a b (pairs xs) t i)

  -- in the workspace as in the meaning: strong implies neutral implies weak
  pub answers_ordered : (T (bit_in d' root_of (word_of bots) 0) → T (bit_in d' root_of (word_of none) 0)) × (T (bit_in d' root_of (word_of none) 0) → T (bit_in d' root_of (word_of tops) 0))
  answers_ordered =
      let (P, a, _) = (j.accepted z).level in
      let c = root_accepted s xs d r d' j z P a in (
        λ h. (answers_meant P a none 0 (omega arith)).from (Meaning.strong_implies_neutral reading P c (pairs xs) ((answers_meant P a bots 0 (omega arith)).to h)),
        λ h. (answers_meant P a tops 0 (omega arith)).from (Meaning.neutral_implies_weak reading P c (pairs xs) ((answers_meant P a none 0 (omega arith)).to h)),
      )

  -- the rewritten table's own answers are those of the clocked table,
  pub rewritten_answers : (P Q : Prop Atom) → RootP s P → RootP (new_table s clock) Q → (t : Tail) → Sat reading free P (word (pairs xs) t) zero ↔ Sat reading free Q (word (pairs xs) t) zero
  rewritten_answers P Q a b t = (new_keeps s (wrong_root s sequence) (judge_rest s (length xs) (length d)) (passes s xs d r d' j z) clock right).answers P Q a b (pairs xs) t zero

  -- and the judge, given the rewritten table and the same samples,
  module _ (e : List ℕ) (q : Judgement) (e' : List ℕ) (k : Judges (new_table s clock) xs e q e') where
    -- accepts it, where the workspace is large enough,
    pub rewritten_accepted : share * new_count s clock ≤ length e → q.verdict.number ≡ 0
    unfolding judge_refusals Check.refusals
    rewritten_accepted room =
        let t = new_table s clock in
        let x = wrong_root s sequence in
        let rest = judge_rest s (length xs) (length d) in
        let n = passes s xs d r d' j z in
        let keeps = new_keeps s x rest n clock right in
        let c = new_accepted s x rest n clock right in
        let built = (sound t accepted c refl).formed in
        let few = few_nodes s x rest n clock right in
        let m = count_is_new s x rest n clock right in
        let same = same_count t built keeps.clockless in
        let (P, a, _) = (j.accepted z).level in
        (judge_accepts t xs e q e' k
        (not_given_join (Check.refusals t) (drop 9 (judge_refusals t (length xs) (length e))) (checks_given t accepted c refl) (
          λ i g. let some = built.some in let (q, f) = sequence_in t (count t) built.fit (count t) (root t) (omega arith) (omega arith) g.1 in not_both f (keeps.property P a),
          (λ i g. let (other, right', l) = g.1 in let h = same other right' in omega arith, (λ i g. (own_parts s x rest n).1.1.0 0 (refl, g.1), (λ i g. let (other, right', l) = g.1 in let h = same other right' in omega arith, tt))),
        ))).0

    -- and gives it the same level
    pub rewritten_level : q.verdict.number ≡ 0 → r.level.number ≡ q.level.number
    rewritten_level y =
        let (P, a, l) = (j.accepted z).level in
        let keeps = new_keeps s (wrong_root s sequence) (judge_rest s (length xs) (length d)) (passes s xs d r d' j z) clock right in
        let b = keeps.property P a in
        sym (level_only (new_table s clock) xs e q e' k y (rew_p free P) b r.level.number ((keeps.levels P (rew_p free P) a b (pairs xs) r.level.number).0 l))

-- ---- the empty record leaves every accepted property open

pub empty_open : (s d : List ℕ) (r : Judgement) (d' : List ℕ) → Judges s [] d r d' → r.verdict.number ≡ 0 → (r.level.number ≡ 1) ⊎ (r.level.number ≡ 2)
unfolding pairs_after
empty_open s d r d' j z = let (P, a, l) = (j.accepted z).level in Meaning.empty_open reading P (root_accepted s [] d r d' j z P a) l
