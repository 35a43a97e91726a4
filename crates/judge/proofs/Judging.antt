-- Where nothing is refused: what is known of the rewritten table, and what is read off its rows. Assumes nothing.
use native.Mathlib.Omega.{arith}
use native.Mathlib.Nat.{le_of_suc-le-suc, lt_of_not-le}
use mir.Syntax.{w64}
use mir.Val as M
use mathlib.Core.Path.{◌≡◌, refl, ◌∙◌, sym, ap, subst}
use mathlib.Core.Logic.{inl, inr, ⊎_elim}
use mathlib.Core.Bool.{Bool}
use mathlib.Core.List.{List, ◌∷◌, ◌++◌}
use Prim.Native.Nat.{ℕ, ◌+◌, ◌*◌, ◌-◌, ◌<◌, ◌≤◌}
use lib.ListN.{length, take, drop}
use Rattle.telling.specs.Tells.{Tells}
use Rattle.telling.proofs.Telling.{is_map, is_as}
use Rattle.positions.specs.declared.PositionSet.{PositionSet}
use Rattle.positions.specs.Member.{has}
use Rattle.refusal.specs.declared.Verdict.{Verdict}
use Rattle.refusal.specs.First.{Refusal, Answers, NotGiven}
use Rattle.refusal.specs.Heading.{count}
use Rattle.refusal.specs.Computed.{accepted}
use Rattle.refusal.proofs.Given.{none_given, answers_after}
use Rattle.meaning.specs.declared.Level.{Level}
use Rattle.meaning.specs.Syntax.{Seq, Prop, free}
use Rattle.meaning.specs.Words.{word, none, tops, bots}
use Rattle.meaning.specs.Meaning as Meaning
use Rattle.meaning.specs.Tested.{Tests}
use Rattle.meaning.specs.Pairs.{Atom, reading, pairs}
use Rattle.meaning.proofs.Pairing.{length_pairs}
use Rattle.meaning.specs.Rewriting.{rew_s, rew_p}
use Rattle.meaning.proofs.Leveling.{level_from}
use Rattle.nodes.specs.Operators.{sequence, property}
use Rattle.nodes.specs.Nodes.{sort_at, root}
use Rattle.nodes.specs.NodeClock.{Ref}
use Rattle.table.specs.Trees.{RootS, RootP}
use Rattle.table.specs.Check as Check
use Rattle.table.specs.Check.{Checks}
use Rattle.nodes.proofs.Built.{Built}
use Rattle.table.proofs.Standing.{sequence_in, property_in}
use Rattle.table.proofs.Checking.{sound}
use Rattle.table.proofs.CheckingTo.{sorts}
use Rattle.clocks.specs.Clocks.{Clocks}
use Rattle.clocks.specs.Computed.{clock_by}
use Rattle.clocks.proofs.Timing.{clocks_unique}
use Rattle.numbers.specs.Numbers.{new_count}
use Rattle.writing.specs.Tables.{new_table}
use Rattle.rewrite.specs.Rewrites.{too_many}
use Rattle.rewrite.specs.Keeps.{Keeps}
use Rattle.rewrite.specs.Computed.{Renumbered}
use Rattle.cells.specs.Shares.{share, longest, top_word, word_in, bit_in, HasRow}
use Rattle.rows.specs.Rows.{filled, Fits}
use Rattle.readout.specs.Computed.{level_in}
use Rattle.tested.specs.Computed.{tested_in, Testing}
use Rattle.rowmeaning.specs.Rows.{Onward}
use Rattle.rowmeaning.proofs.Stepping.{ends_inside}
use Rattle.judge.specs.Rows.{Filled}
use Rattle.judgement.specs.declared.Judgement.{Judgement}
use Rattle.judgement.specs.Refused.{Refused}
use Rattle.judgement.specs.Refusals.{wrong_root}
use Rattle.settling.specs.Refusals.{judge_refusals, ends_refusals}
use Rattle.settling.specs.Computed.{own_refusals, settling, Settles}
use Rattle.judge.specs.Judges.{Rowed, Judges, EndsMatches}
use Rattle.judge.specs.declared.MatchEnds.{MatchEnds}
use Rattle.judge.specs.Computed.{NoEnds, Lays}
use Rattle.settling.proofs.Passing.{ends_rest, own_parts, table_built, few_nodes, count_is_new, new_keeps, new_accepted}
use Rattle.judge.proofs.Meaning.{rows_ready, rows_mean}
use Rattle.judge.proofs.TestedSets.{tested_means, testing}

-- ---- the verdict

-- a start of 0 is not above n: 14 is not given
judge_answer : (s : List ℕ) (n words : ℕ) (v : Verdict) → Answers (settling s sequence n 0 words) v → Answers (judge_refusals s n words) v
unfolding settling judge_refusals ends_refusals Check.refusals Answers
judge_answer s n words v = answers_after (Check.refusals s) (own_refusals s sequence n 0 words) (drop 9 (judge_refusals s n words)) v (λ _. own)
  where
    own : Answers (own_refusals s sequence n 0 words) v → Answers (drop 9 (judge_refusals s n words)) v
    own (inl a) = inl a
    own (inr (root, inl a)) = inr (root, inl a)
    own (inr (root, inr (few, inl a))) = inr (root, inr (few, inl a))
    own (inr (root, inr (few, inr (short, inl (_, (_, l)))))) = absurd (omega arith)
    own (inr (root, inr (few, inr (short, inr (_, a))))) = inr (root, inr (few, inr (short, a)))

ends_answer : (s : List ℕ) (n start words : ℕ) (v : Verdict) → Answers (settling s property n start words) v → Answers (ends_refusals s n start words) v
unfolding settling ends_refusals Check.refusals
ends_answer s n start words v a = a

-- a refusal: nothing is changed
pub judge_refused : (s xs d lent : List ℕ) (r : Renumbered) (new d' : List ℕ) → Lays s sequence xs 0 d lent r new d' → ¬ (r.verdict.number ≡ 0)
    → (q : Judgement) → Refused r.verdict q → Judges s xs d q d'
judge_refused s xs d lent r new d' w z q h = record {
  answer = rw h.verdict (judge_answer s (length xs) (length d) r.verdict w.settles.answer);
  accepted = λ y. absurd (z (ap (λ (v : Verdict). v.number) (sym h.verdict) ∙ y));
  refused = λ _. (h.level, h.tested, w.stays z);
}

pub ends_refused : (s xs d : List ℕ) (start : ℕ) (lent : List ℕ) (r : Renumbered) (new d' : List ℕ) → Lays s property xs start d lent r new d' → ¬ (r.verdict.number ≡ 0)
    → (q : MatchEnds) → NoEnds r.verdict q → EndsMatches s xs d start q d'
ends_refused s xs d start lent r new d' w z q h = record {
  answer = rw h.verdict (ends_answer s (length xs) start (length d) r.verdict w.settles.answer);
  accepted = λ y. absurd (z (ap (λ (v : Verdict). v.number) (sym h.verdict) ∙ y));
  refused = λ _. (h.mask, h.top, w.stays z);
}

-- ---- an acceptance

module _ (s : List ℕ) (wrong n start words : ℕ) (lent : List ℕ) (r : Renumbered) (new : List ℕ) (w : Settles s wrong n start words lent r new) (z : r.verdict.number ≡ 0) where
  abbrev rest : List Refusal
  rest = ends_rest s n start words

  -- the rewritten table
  abbrev t : List ℕ
  t = take (4 * r.count + 6) new

  abbrev clock : ℕ → Ref
  clock = (w.accepted z).0

  right : Clocks s clock
  right = (w.accepted z).1

  counted : r.count ≡ new_count s clock
  counted = (w.accepted z).2.0

  table_is : t ≡ new_table s clock
  table_is = (w.accepted z).2.1

  -- no refusal is given: of each, the contrary holds
  none_applies : NotGiven (Check.refusals s ++ (wrong_root s wrong ∷ too_many s ∷ rest))
  unfolding settling ends_refusals Check.refusals
  none_applies = (none_given (settling s wrong n start words) tt r.verdict z w.answer).0

  own : NotGiven (wrong_root s wrong ∷ too_many s ∷ rest)
  own = own_parts s (wrong_root s wrong) rest none_applies

  built : Built s
  built = table_built s (wrong_root s wrong) rest none_applies

  other_root : ¬ (sort_at s (root s) ≡ wrong)
  other_root e = own.0 0 (refl, e)

  pub few : r.count ≤ 120
  few = rw counted (few_nodes s (wrong_root s wrong) rest none_applies clock right)

  not_long : n ≤ longest
  unfolding ends_refusals Check.refusals
  not_long = le_of_suc-le-suc (lt_of_not-le (λ g. own.1.1.0 0 (refl, g)))

  not_above : start ≤ n
  unfolding ends_refusals Check.refusals
  not_above = le_of_suc-le-suc (lt_of_not-le (λ g. own.1.1.1.0 0 (refl, g)))

  pub start_short : start ≤ longest
  start_short = let l = not_long in let h = not_above in omega arith

  not_small : share * r.count ≤ words
  unfolding ends_refusals Check.refusals
  not_small = le_of_suc-le-suc (lt_of_not-le (λ g. own.1.1.1.1.0 0 (refl, (clock, right, rw (← counted) g))))

  -- the new table is accepted too, has no clocks and says the same
  keeps : Keeps s t
  keeps = subst (Keeps s) (sym table_is) (new_keeps s (wrong_root s wrong) rest none_applies clock right)

  count_is : count t ≡ r.count
  count_is = ap count table_is ∙ count_is_new s (wrong_root s wrong) rest none_applies clock right ∙ sym counted

  new_checks : Checks t accepted
  new_checks = subst (λ (u : List ℕ). Checks u accepted) (sym table_is) (new_accepted s (wrong_root s wrong) rest none_applies clock right)

  new_built : Built t
  new_built = (sound t accepted new_checks refl).formed

  pub some : 1 ≤ r.count
  some = let c = count_is in let l = new_built.some in omega arith

  pub used_bytes : 4 * r.count + 6 ≡ length t
  used_bytes = let c = count_is in let l = new_built.long in omega arith

  pub four_fit : M.Fits w64 (4 * r.count)
  four_fit = let l = few in record { fits = omega arith }

  pub used_fit : M.Fits w64 (4 * r.count + 6)
  used_fit = let l = few in record { fits = omega arith }

  pub used_within : 4 * r.count + 6 ≤ 486
  used_within = let l = few in omega arith

  -- its last node is the root
  last_is : r.count - 1 ≡ root t
  last_is = ap (λ (m : ℕ). m - 1) (sym count_is)

  in_root : root t < count t
  in_root = let l = new_built.some in omega arith

  -- the root of s is of the other sort
  sequence_at_root : wrong ≡ property → (q : Seq Atom) × RootS s q
  sequence_at_root e =
      let l : root s < count s = let h = built.some in omega arith in
      ⊎_elim (sequence_in s (count s) built.fit (count s) (root s) l l) (λ (f : sort_at s (root s) ≡ property). absurd (other_root (f ∙ sym e)))
      (sorts s (root s) (built.fit (root s) l) built.rooted)

  property_at_root : wrong ≡ sequence → (P : Prop Atom) × RootP s P
  property_at_root e =
      let l : root s < count s = let h = built.some in omega arith in
      ⊎_elim (λ (f : sort_at s (root s) ≡ sequence). absurd (other_root (f ∙ sym e))) (property_in s (count s) built.fit (count s) (root s) l l)
      (sorts s (root s) (built.fit (root s) l) built.rooted)

  -- the record xs, and the workspace d that is lent
  module _ (xs d : List ℕ) (en : length xs ≡ n) (ew : length d ≡ words) where
    short : length xs ≤ longest
    short = let l = not_long in omega arith

    within : start ≤ length (pairs xs)
    within = let l = not_above in let n = length_pairs xs in omega arith

    enough : share * count t ≤ length d
    enough = let l = not_small in let c = count_is in omega arith

    pub fits : Fits t xs d r.count
    fits =
        let c = count_is in
        let l = new_built.long in
        let h = enough in
        record {
          bytes = omega arith;
          ready = λ k h. rows_ready t xs new_checks keeps.clockless short k (omega arith);
          short = short;
          words = omega arith;
        }

    module _ (d' : List ℕ) (e : d' ≡ filled t xs d r.count) where
      rows : Filled t xs d d'
      rows = rows_mean t xs new_checks keeps.clockless short d d' enough (e ∙ ap (filled t xs d) (sym count_is))

      rowed : Rowed s xs d d'
      rowed = (clock, right, subst (λ (u : List ℕ). Filled u xs d d') table_is rows)

      root_row : HasRow (length d') (r.count - 1)
      root_row = let l = rows.long in let h = enough in let c = some in let k = count_is in omega arith

      -- the clocks that are handed on are those of the table
      same : clock ≡ clock_by r.clocks
      same = clocks_unique s built clock (clock_by r.clocks) right (w.numbered z).timed.right

      sets_there : Testing s r.clocks r.numbers d' (length xs)
      sets_there =
          let l = rows.long in
          let h = enough in
          let c = count_is in
          let e = ap (new_count s) same in
          let k = counted in
          testing s r.clocks r.numbers built (w.numbered z) d' (omega arith) (length xs) short

      -- what the root's row says of the root of s, clocks and all
      level_right : wrong ≡ sequence → (P : Prop Atom) × RootP s P × Meaning.Level reading P (pairs xs) (level_in d' (r.count - 1))
      unfolding level_in
      level_right g =
          let (P, a) = property_at_root g in
          let b = keeps.property P a in
          let row = rows.properties (root t) in_root (rew_p free P) b in
          (P, a, (keeps.levels P (rew_p free P) a b (pairs xs) _).1 (rw last_is (level_from reading (row.answers bots 0 (omega arith)) (row.answers none 0 (omega arith)) (row.answers tops 0 (omega arith)))))

      -- and what its set says
      tested_right : wrong ≡ sequence → (b : Bool) → b ≡ tested_in s r.clocks r.numbers d' (length xs) → (P : Prop Atom) × RootP s P × Tells b (Tests reading (pairs xs) P)
      tested_right g b eb =
          let (P, a) = property_at_root g in
          let e = same in
          let laid = subst (λ (κ : ℕ → Ref). Filled (new_table s κ) xs d d') e (subst (λ (u : List ℕ). Filled u xs d d') table_is rows) in
          let many = subst (λ (κ : ℕ → Ref). count (new_table s κ) ≡ new_count s κ) e (count_is_new s (wrong_root s wrong) rest none_applies clock right) in
          let few : length (pairs xs) ≤ longest = let n = length_pairs xs in let l = short in omega arith in
          (P, a, is_as eb (tested_means s r.clocks r.numbers built (w.numbered z) xs d d' laid many few P a))

      ends_right : wrong ≡ property → (q : Seq Atom) × RootS s q × Meaning.Ends reading q (pairs xs) start (word_in d' (r.count - 1) start)
          × Tells (bit_in d' (r.count - 1) top_word start) (Onward reading (pairs xs) free q start)
      ends_right g =
          let (q, a) = sequence_at_root g in
          let b = keeps.sequence q a in
          let row = rows.sequences (root t) in_root (rew_s free q) b in
          let same = keeps.matches q (rew_s free q) a b in (
            q,
            a,
            rw last_is (λ j. (
              λ h. let m = (row.ends start within j).to h in (ends_inside reading (pairs xs) free (rew_s free q) start j within m, (same (word (pairs xs) none) start j).1 m),
              λ m. (row.ends start within j).from ((same (word (pairs xs) none) start j).0 m.1),
            )),
            rw last_is (is_map (row.on start within) (λ m. (m.0, m.1, (same (word (pairs xs) tops) start m.0).1 m.2)) (λ m. (m.0, m.1, (same (word (pairs xs) tops) start m.0).0 m.2))),
          )

-- what the judge and match ends ask of the rows that are laid, and what they answer

module _ (s : List ℕ) (wrong : ℕ) (xs : List ℕ) (start : ℕ) (d lent : List ℕ) (r : Renumbered) (new d' : List ℕ) (w : Lays s wrong xs start d lent r new d') (z : r.verdict.number ≡ 0) where
  pub root_there : HasRow (length d') (r.count - 1)
  root_there = root_row s wrong (length xs) start (length d) lent r new w.settles z xs d refl refl d' (w.rows z)

  pub tested_there : Testing s r.clocks r.numbers d' (length xs)
  tested_there = sets_there s wrong (length xs) start (length d) lent r new w.settles z xs d refl refl d' (w.rows z)

pub judge_accepted : (s xs d lent : List ℕ) (r : Renumbered) (new d' : List ℕ) → Lays s sequence xs 0 d lent r new d' → r.verdict.number ≡ 0
    → (level : Level) → level.number ≡ level_in d' (r.count - 1) → (b : Bool) → b ≡ tested_in s r.clocks r.numbers d' (length xs)
    → Judges s xs d (record { verdict = r.verdict; level = level; tested = b }) d'
judge_accepted s xs d lent r new d' w z level el b eb = record {
  answer = judge_answer s (length xs) (length d) r.verdict w.settles.answer;
  accepted = λ _. record {
    level = let (P, a, l) = level_right s sequence (length xs) 0 (length d) lent r new w.settles z xs d refl refl d' (w.rows z) refl in (P, a, rw el l);
    tested = tested_right s sequence (length xs) 0 (length d) lent r new w.settles z xs d refl refl d' (w.rows z) refl b eb;
    rows = rowed s sequence (length xs) 0 (length d) lent r new w.settles z xs d refl refl d' (w.rows z);
  };
  refused = λ y. absurd (y z);
}

pub ends_accepted : (s xs d : List ℕ) (start : ℕ) (lent : List ℕ) (r : Renumbered) (new d' : List ℕ) → Lays s property xs start d lent r new d' → r.verdict.number ≡ 0
    → (mask : PositionSet) → mask.bits ≡ word_in d' (r.count - 1) start → (w : ℕ) → w ≡ word_in d' (r.count - 1) top_word → (top : Bool) → top ≡ has w start
    → EndsMatches s xs d start (record { verdict = r.verdict; mask = mask; top = top }) d'
ends_accepted s xs d start lent r new d' w z mask em v ev top et = record {
  answer = ends_answer s (length xs) start (length d) r.verdict w.settles.answer;
  accepted = λ _. record {
    ends = let (q, a, m, t) = ends_right s property (length xs) start (length d) lent r new w.settles z xs d refl refl d' (w.rows z) refl in (q, a, rw em m, is_as (et ∙ ap (λ (x : ℕ). has x start) ev) t);
    rows = rowed s property (length xs) start (length d) lent r new w.settles z xs d refl refl d' (w.rows z);
  };
  refused = λ y. absurd (y z);
}

-- ---- laying

pub lays_refused : (s : List ℕ) (wrong : ℕ) (xs : List ℕ) (start : ℕ) (d lent : List ℕ) (r : Renumbered) (new : List ℕ) → Settles s wrong (length xs) start (length d) lent r new
    → ¬ (r.verdict.number ≡ 0) → Lays s wrong xs start d lent r new d
lays_refused s wrong xs start d lent r new w z = record { settles = w; rows = λ y. absurd (z y); stays = λ _. refl }

pub lays_rows : (s : List ℕ) (wrong : ℕ) (xs : List ℕ) (start : ℕ) (d lent : List ℕ) (r : Renumbered) (new d' : List ℕ) → Settles s wrong (length xs) start (length d) lent r new
    → r.verdict.number ≡ 0 → d' ≡ filled (take (4 * r.count + 6) new) xs d r.count → Lays s wrong xs start d lent r new d'
lays_rows s wrong xs start d lent r new d' w z e = record { settles = w; rows = λ _. e; stays = λ y. absurd (y z) }
