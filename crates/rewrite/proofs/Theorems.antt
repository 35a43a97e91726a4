-- The theorems of rewriting. Assumes nothing.
use native.Mathlib.Omega.{arith}
use mathlib.Core.Path.{◌≡◌, refl, sym, subst}
use mathlib.Core.Logic.{◌⊎◌, ◌↔◌}
use mathlib.Core.List.{List, ◌++◌}
use Prim.Native.Nat.{ℕ, ◌+◌, ◌*◌, ◌≤◌}
use lib.ListN.{length, take, drop}
use lib.Seq.{take_at}
use Rattle.telling.specs.Tells.{Tells}
use Rattle.refusal.specs.declared.Verdict.{Verdict}
use Rattle.refusal.specs.Heading.{count}
use Rattle.refusal.specs.Computed.{accepted}
use Rattle.meaning.specs.Syntax.{Seq, Prop, free}
use Rattle.meaning.specs.Words.{word}
use Rattle.meaning.specs.Meaning.{Match, Sat, Level}
use Rattle.meaning.specs.Rewriting.{rew_s, rew_p}
use Rattle.meaning.specs.Pairs.{Atom, reading}
use Rattle.meaning.proofs.Rewriting.{match_rew, sat_rew, level_rew}
use Rattle.nodes.specs.Nodes.{raw_at, sort_at, WellFormed}
use Rattle.nodes.specs.NodeClock.{Ref}
use Rattle.table.specs.Trees.{RootS, RootP}
use Rattle.table.specs.Check.{Checks}
use Rattle.table.proofs.Reading.{unique_s, unique_p}
use Rattle.table.proofs.Checking.{Sound, sound}
use Rattle.clocks.specs.Clocks.{Clocks, is_clock}
use Rattle.clocks.proofs.Timing.{clock_op}
use Rattle.numbers.specs.Numbers.{new_count}
use Rattle.numbers.proofs.Numbering.{count_bound}
use Rattle.writing.specs.Tables.{new_table}
use Rattle.writing.proofs.Lengths.{length-table}
use Rattle.rewrite.specs.declared.Rewriting.{Rewriting}
use Rattle.rewrite.specs.Rewrites.{Rewrites}
use Rattle.rewrite.specs.Keeps.{Keeps}
use Rattle.rewrite.proofs.Deciding.{table-accepted, few_new}
use Rattle.rewrite.proofs.Forming.{new_clockless}
use Rattle.rewrite.proofs.Cells.{version_new}
use Rattle.rewrite.proofs.Accepting.{count_new, new_checks, sequence_root, property_root}

-- m is at most 14 times the count, whatever the clocks
pub at_most_fourteen : (s : List ℕ) (clock : ℕ → Ref) → new_count s clock ≤ 14 * count s
at_most_fourteen = count_bound

-- of the nodes of a table the clock nodes alone, 22 and 40, have no block
pub clock-nodes : (s : List ℕ) (k : ℕ) → WellFormed s k → Tells (is_clock s k) (((raw_at s k).op ≡ 22) ⊎ ((raw_at s k).op ≡ 40))
unfolding is_clock sort_at
clock-nodes s k w = clock_op (raw_at s k).op w.known

-- the table that an accepted table is rewritten to
module _ (s : List ℕ) (v : Verdict) (c : Checks s v) (z : v.number ≡ 0) (clock : ℕ → Ref) (right : Clocks s clock) where
  ok : Sound s
  ok = sound s v c z

  same_sequence : (r q : Seq Atom) → RootS s r → RootS (new_table s clock) q → rew_s free r ≡ q
  same_sequence r q d e = unique_s (sequence_root s ok clock right r d) e

  same_property : (P Q : Prop Atom) → RootP s P → RootP (new_table s clock) Q → rew_p free P ≡ Q
  same_property P Q d e = unique_p (property_root s ok clock right P d) e

  -- is itself accepted, has no clock node and says the same
  pub rewriting_keeps : Keeps s (new_table s clock)
  rewriting_keeps = record {
    checks = λ l. new_checks s ok clock right (let e = count_new s ok clock right in omega arith);
    copied = version_new s clock (let l = ok.formed.long in omega arith);
    clockless = λ k l. new_clockless s ok.formed ok.known clock right k (let e = count_new s ok clock right in omega arith);
    sequence = sequence_root s ok clock right;
    property = property_root s ok clock right;
    matches = λ r q d e w i j. subst (λ (q : Seq Atom). Match reading free r w i j ↔ Match reading free q w i j) (same_sequence r q d e) (match_rew reading free r w i j);
    answers = λ P Q d e xs t i.
        subst (λ (Q : Prop Atom). Sat reading free P (word xs t) i ↔ Sat reading free Q (word xs t) i) (same_property P Q d e) (sat_rew reading free P xs t i);
    levels = λ P Q d e xs m. subst (λ (Q : Prop Atom). Level reading P xs m ↔ Level reading Q xs m) (same_property P Q d e) (level_rew reading P xs m);
  }

-- ---- what `rewrite` leaves in the first 6 + 4m bytes lent, where it accepts

module _ (s d : List ℕ) (r : Rewriting) (d' : List ℕ) (w : Rewrites s d r d') (z : r.verdict.number ≡ 0) where
  abbrev pub output : List ℕ
  output = take (6 + 4 * r.count) d'

  input_checks : Checks s accepted
  input_checks = table-accepted s (length d) r.verdict w.answer z

  pub output_is : (clock : ℕ → Ref) → (r.count ≡ new_count s clock) × (d' ≡ new_table s clock ++ drop (6 + 4 * new_count s clock) d) → new_table s clock ≡ output
  output_is clock (e, f) =
      let l = length-table s clock (sound s accepted input_checks refl).formed.fit in
      sym (rw (e, f) (take_at (new_table s clock) (drop (6 + 4 * new_count s clock) d) (6 + 4 * new_count s clock) (omega arith)))

  pub output_keeps : Keeps s output
  output_keeps = let (clock, right, q) = w.accepted z in subst (Keeps s) (output_is clock q) (rewriting_keeps s accepted input_checks refl clock right)

  pub output_checks : Checks output accepted
  output_checks =
      let (clock, right, q) = w.accepted z in
      subst (λ (t : List ℕ). Checks t accepted) (output_is clock q)
      (new_checks s (sound s accepted input_checks refl) clock right (few_new s (length d) r.verdict w.answer z clock right))
