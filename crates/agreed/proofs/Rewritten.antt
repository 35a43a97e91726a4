-- Demand 3, last sentence, of the plain judge: given the rewritten table, where that has at most 120 nodes, it gives the same level. Assumes nothing.
use mathlib.Core.Path.{◌≡◌, refl, sym, subst}
use mathlib.Core.List.{List, [], ◌∷◌}
use Prim.Native.Nat.{ℕ, ◌≤◌}
use native.Mathlib.Omega.{arith}
use lib.ListN.{length}
use Rattle.refusal.specs.Heading.{count}
use Rattle.refusal.specs.Computed.{accepted}
use Rattle.refusal.proofs.Given.{none_given, not_given-append, not_given_join}
use Rattle.meaning.specs.Syntax.{free}
use Rattle.meaning.specs.Rewriting.{rew_p}
use Rattle.meaning.specs.Pairs.{pairs}
use Rattle.nodes.specs.Operators.{sequence}
use Rattle.nodes.specs.Nodes.{root}
use Rattle.nodes.specs.NodeClock.{Ref}
use Rattle.table.specs.Check as Check
use Rattle.table.specs.Check.{Checks}
use Rattle.table.proofs.Checking.{sound, checks_given}
use Rattle.table.proofs.Standing.{sequence_in}
use Rattle.table.proofs.Within.{not_both}
use Rattle.clocks.specs.Clocks.{Clocks}
use Rattle.numbers.specs.Numbers.{new_count}
use Rattle.writing.specs.Tables.{new_table}
use Rattle.rewrite.specs.Keeps.{Keeps}
use Rattle.rewrite.proofs.Theorems.{rewriting_keeps}
use Rattle.rewrite.proofs.Accepting.{count_new}
use Rattle.judgement.specs.declared.Judgement.{Judgement}
use Rattle.judgement.specs.Refusals.{wrong_root, too_long}
use Rattle.plain.specs.Judges.{plain_refusals, PlainJudges}
use Rattle.plain.proofs.Demands.{plain_accepts, plain_table-accepted, plain_level_only}

module _ (s xs : List ℕ) (r : Judgement) (j : PlainJudges s xs r) (z : r.verdict.number ≡ 0) (clock : ℕ → Ref) (right : Clocks s clock) (few : new_count s clock ≤ 120) where
  ok : Checks s accepted
  ok = plain_table-accepted s xs r j z

  keeps : Keeps s (new_table s clock)
  keeps = rewriting_keeps s accepted ok refl clock right

  new_ok : Checks (new_table s clock) accepted
  new_ok = keeps.checks (subst (λ (m : ℕ). m ≤ 120) (sym (count_new s (sound s accepted ok refl) clock right)) few)

  module _ (q : Judgement) (k : PlainJudges (new_table s clock) xs q) where
    pub plain_rewritten_accepted : q.verdict.number ≡ 0
    unfolding plain_refusals Check.refusals
    plain_rewritten_accepted =
        let t = new_table s clock in
        let built = (sound t accepted new_ok refl).formed in
        let (_, own) = not_given-append (Check.refusals s) (wrong_root s sequence ∷ too_long (length xs) ∷ []) (none_given (plain_refusals s (length xs)) tt r.verdict z j.answer).0 in
        let (P, a, _) = (j.accepted z).level in
        (plain_accepts t xs q k
        (not_given_join (Check.refusals t) (wrong_root t sequence ∷ too_long (length xs) ∷ []) (checks_given t accepted new_ok refl) (
          λ i g. let some = built.some in let (p, f) = sequence_in t (count t) built.fit (count t) (root t) (omega arith) (omega arith) g.1 in not_both f (keeps.property P a),
          (own.1.0, tt),
        ))).0

    pub plain_rewritten_level : r.level.number ≡ q.level.number
    plain_rewritten_level =
        let (P, a, l) = (j.accepted z).level in
        let b = keeps.property P a in
        sym (plain_level_only (new_table s clock) xs q k plain_rewritten_accepted (rew_p free P) b r.level.number ((keeps.levels P (rew_p free P) a b (pairs xs) r.level.number).0 l))
