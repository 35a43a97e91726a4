-- Version 1 answers stay: on a table of version 1, what the judge and match ends answer and leave by pairs is what document 01 says by samples.
-- Assumes nothing.
use native.Mathlib.Omega.{arith}
use mathlib.Core.Path.{◌≡◌, refl, ◌∙◌, subst}
use mathlib.Core.Logic.{◌↔◌}
use mathlib.Core.Bool.{Bool}
use mathlib.Core.List.{List, ◌∷◌, ◌++◌}
use Prim.Native.Nat.{ℕ, ◌<◌}
use lib.ListN.{length}
use Rattle.telling.specs.Tells.{Tells}
use Rattle.telling.proofs.Telling.{is_map}
use Rattle.refusal.specs.First.{Refusal, NotGiven}
use Rattle.refusal.specs.Heading.{version, count}
use Rattle.refusal.specs.Computed.{accepted}
use Rattle.meaning.specs.Syntax.{Bexp, Seq, Prop, free}
use Rattle.meaning.specs.Words.{none, tops}
use Rattle.meaning.specs.Meaning.{Ends}
use Rattle.meaning.specs.Signal.{signal}
use Rattle.meaning.specs.Pairs.{Atom, reading, pairs}
use Rattle.meaning.specs.Renaming.{rename_c, signals_b, signals_s, signals_p}
use Rattle.meaning.proofs.Pairing.{length_pairs}
use Rattle.meaning.proofs.Samples.{satisfies_by_samples, match_by_samples, sat_by_samples, ends_by_samples}
use Rattle.nodes.specs.NodeClock.{Ref}
use Rattle.nodes.specs.Nodes.{root}
use Rattle.nodes.proofs.Built.{Built}
use Rattle.table.specs.Trees.{RootS}
use Rattle.table.specs.Check as Check
use Rattle.table.proofs.Checking.{sound}
use Rattle.table.proofs.VersionOne.{signals_boolean, signals_sequence, signals_property}
use Rattle.clocks.specs.Clocks.{Clocks}
use Rattle.writing.specs.Tables.{new_table}
use Rattle.rewrite.specs.Rewrites.{OfClocks, too_many}
use Rattle.settling.proofs.Passing.{judge_passes, ends_passes, judge_rest, ends_rest, table_checks, table_built, new_accepted, new_keeps}
use Rattle.nodes.specs.Operators.{sequence, property}
use Rattle.judgement.specs.Refusals.{wrong_root}
use Rattle.judgement.specs.declared.Judgement.{Judgement}
use Rattle.judgement.proofs.VersionOne.{meant_by_samples}
use Rattle.judge.specs.declared.MatchEnds.{MatchEnds}
use Rattle.rowmeaning.specs.Rows.{Onward, BooleanRow, SequenceRow, PropertyRow}
use Rattle.judge.specs.Rows.{Filled}
use Rattle.judge.specs.Judges.{Rowed, Judges, EndsMatches}
use Rattle.judge.proofs.Unique.{meant}
use Rattle.judge.specs.BySamples.{RowsBySamples, JudgedBySamples, EndedBySamples}

-- what tells the one tells the other
is_as_well : {b : Bool} {P Q : Type 0} → Tells b P → P ↔ Q → Tells b Q
is_as_well t e = is_map t e.0 e.1

-- ---- a row over pairs is the row over samples

module _ (xs : List ℕ) where
  onward_by_samples : (q : Seq ℕ) (i : ℕ) → Onward reading (pairs xs) free (signals_s q) i ↔ Onward signal xs free q i
  unfolding rename_c
  onward_by_samples q i =
      let n = length_pairs xs in (
        λ m. let l = m.1 in (m.0, omega arith, (match_by_samples free q xs tops i m.0).0 m.2),
        λ m. let l = m.1 in (m.0, omega arith, (match_by_samples free q xs tops i m.0).1 m.2),
      )

  module _ (row : ℕ → ℕ) where
    boolean_row : (b : Bexp ℕ) → BooleanRow reading (pairs xs) row (signals_b b) → BooleanRow signal xs row b
    boolean_row b r =
        let n = length_pairs xs in
        record {
          bits = λ i l. r.bits i (omega arith) ∙ satisfies_by_samples b xs none i;
          past = λ i l. r.past i (omega arith);
          zero = r.zero;
        }

    sequence_row : (q : Seq ℕ) → SequenceRow reading (pairs xs) free row (signals_s q) → SequenceRow signal xs free row q
    unfolding rename_c
    sequence_row q r =
        let n = length_pairs xs in
        record {
          ends = λ i l j. is_as_well (r.ends i (omega arith) j) (match_by_samples free q xs none i j);
          on = λ i l. is_as_well (r.on i (omega arith)) (onward_by_samples q i);
          past = λ i l. r.past i (omega arith);
          zero = λ w l u. r.zero w (omega arith) u;
        }

    property_row : (P : Prop ℕ) → PropertyRow reading (pairs xs) free row (signals_p P) → PropertyRow signal xs free row P
    unfolding rename_c
    property_row P r =
        let n = length_pairs xs in
        record {
          answers = λ t i l. is_as_well (r.answers t i (omega arith)) (sat_by_samples free P xs t i);
          past = λ t i l. r.past t i (omega arith);
          zero = r.zero;
        }

-- ---- the rows of a table t of version 1 that is accepted

module _ (t xs : List ℕ) (ok : Built t) (first : version t ≡ 1) where
  rows_by_samples : (d d' : List ℕ) → Filled t xs d d' → RowsBySamples t xs d'
  rows_by_samples d d' f = record {
    booleans = λ k h b a.
        let (c, e) = signals_boolean t (count t) ok.fit first a h in
        (c, e, boolean_row xs _ c (subst (BooleanRow reading (pairs xs) _) e (f.booleans k h b a)));
    sequences = λ k h r a.
        let (q, e) = signals_sequence t (count t) ok.fit first a h in
        (q, e, sequence_row xs _ q (subst (SequenceRow reading (pairs xs) free _) e (f.sequences k h r a)));
    properties = λ k h P a.
        let (Q, e) = signals_property t (count t) ok.fit first a h in
        (Q, e, property_row xs _ Q (subst (PropertyRow reading (pairs xs) free _) e (f.properties k h P a)));
  }

-- ---- the answers

-- none of a call's refusals is given, the table's first
module _ (s xs : List ℕ) (first : version s ≡ 1) (x : Refusal) (rest : List Refusal) (n : NotGiven (Check.refusals s ++ (x ∷ too_many s ∷ rest))) where
  built : Built s
  built = table_built s x rest n

  root_in : root s < count s
  root_in = let l = built.some in omega arith

  new_built : (clock : ℕ → Ref) → Clocks s clock → Built (new_table s clock)
  new_built clock right = (sound (new_table s clock) accepted (new_accepted s x rest n clock right) refl).formed

  new_first : (clock : ℕ → Ref) → Clocks s clock → version (new_table s clock) ≡ 1
  new_first clock right = (new_keeps s x rest n clock right).copied ∙ first

  rowed : (d d' : List ℕ) → Rowed s xs d d' → OfClocks s (λ clock. RowsBySamples (new_table s clock) xs d')
  rowed d d' (clock, right, f) = (clock, right, rows_by_samples (new_table s clock) xs (new_built clock right) (new_first clock right) d d' f)

-- the judge's
module _ (s xs d : List ℕ) (r : Judgement) (d' : List ℕ) (j : Judges s xs d r d') (z : r.verdict.number ≡ 0) (first : version s ≡ 1) where
  judge_none : NotGiven (Check.refusals s ++ (wrong_root s sequence ∷ too_many s ∷ judge_rest s (length xs) (length d)))
  judge_none = judge_passes s (length xs) (length d) r.verdict z j.answer

  pub version_one_judged : JudgedBySamples s xs r d'
  version_one_judged =
      let x = wrong_root s sequence in
      let rest = judge_rest s (length xs) (length d) in
      let m = meant_by_samples s xs (table_checks s x rest judge_none) first r (meant s xs d r d' (j.accepted z)) in
      record {
        level = m.level;
        tested = m.tested;
        rows = rowed s xs first x rest judge_none d d' (j.accepted z).rows;
      }

-- those of match ends
module _ (s xs d : List ℕ) (start : ℕ) (r : MatchEnds) (d' : List ℕ) (j : EndsMatches s xs d start r d') (z : r.verdict.number ≡ 0) (first : version s ≡ 1) where
  ends_none : NotGiven (Check.refusals s ++ (wrong_root s property ∷ too_many s ∷ ends_rest s (length xs) start (length d)))
  ends_none = ends_passes s (length xs) start (length d) r.verdict z j.answer

  pub version_one_ended : EndedBySamples s xs start r d'
  version_one_ended =
      let x = wrong_root s property in
      let rest = ends_rest s (length xs) start (length d) in
      record {
        ends =
            let (p, a, m, t) = (j.accepted z).ends in
            let (q, e) = signals_sequence s (count s) (built s xs first x rest ends_none).fit first a (root_in s xs first x rest ends_none) in (
              q,
              subst (RootS s) e a,
              (ends_by_samples q xs start _).0 (subst (λ (p : Seq Atom). Ends reading p (pairs xs) start r.mask.bits) e m),
              is_as_well (subst (λ (p : Seq Atom). Tells r.top (Onward reading (pairs xs) free p start)) e t) (onward_by_samples xs q start),
            );
        rows = rowed s xs first x rest ends_none d d' (j.accepted z).rows;
      }
