-- What an acceptance says of the table, whichever the entry point: after the refusals of a table both ask the root, and then the count of new nodes.
-- Assumes nothing.
use native.Mathlib.Nat.{le_of_suc-le-suc, lt_of_not-le}
use mathlib.Core.Path.{◌≡◌, refl, sym, subst}
use mathlib.Core.List.{List, ◌∷◌, ◌++◌}
use Prim.Native.Nat.{ℕ, ◌≤◌}
use lib.ListN.{drop}
use Rattle.refusal.specs.declared.Verdict.{Verdict}
use Rattle.refusal.specs.First.{Refusal, Answers, NotGiven}
use Rattle.refusal.specs.Heading.{count}
use Rattle.refusal.specs.Computed.{accepted}
use Rattle.refusal.proofs.Given.{none_given, not_given-append}
use Rattle.nodes.specs.Operators.{sequence, property}
use Rattle.nodes.specs.NodeClock.{Ref}
use Rattle.table.specs.Check as Check
use Rattle.table.specs.Check.{Checks}
use Rattle.nodes.proofs.Built.{Built}
use Rattle.table.proofs.Checking.{checks_none, sound}
use Rattle.clocks.specs.Clocks.{Clocks}
use Rattle.numbers.specs.Numbers.{new_count}
use Rattle.writing.specs.Tables.{new_table}
use Rattle.rewrite.specs.Rewrites.{too_many}
use Rattle.rewrite.specs.Keeps.{Keeps}
use Rattle.clocks.proofs.Timing.{clocks_unique}
use Rattle.rewrite.proofs.Theorems.{rewriting_keeps}
use Rattle.rewrite.proofs.Accepting.{count_new}
use Rattle.judgement.specs.Refusals.{wrong_root}
use Rattle.settling.specs.Refusals.{judge_refusals, ends_refusals}

module _ (s : List ℕ) (x : Refusal) (rest : List Refusal) (n : NotGiven (Check.refusals s ++ (x ∷ too_many s ∷ rest))) where
  parts : NotGiven (Check.refusals s) × NotGiven (x ∷ too_many s ∷ rest)
  parts = not_given-append (Check.refusals s) (x ∷ too_many s ∷ rest) n

  pub own_parts : NotGiven (x ∷ too_many s ∷ rest)
  own_parts = parts.1

  pub table_checks : Checks s accepted
  table_checks = checks_none s parts.0

  pub table_built : Built s
  table_built = (sound s accepted table_checks refl).formed

  pub same_clocks : (clock other : ℕ → Ref) → Clocks s clock → Clocks s other → clock ≡ other
  same_clocks = clocks_unique s table_built

  module _ (clock : ℕ → Ref) (right : Clocks s clock) where
    pub few_nodes : new_count s clock ≤ 120
    few_nodes = le_of_suc-le-suc (lt_of_not-le (λ g. parts.1.1.0 0 (refl, (clock, right, g))))

    pub count_is_new : count (new_table s clock) ≡ new_count s clock
    count_is_new = count_new s (sound s accepted table_checks refl) clock right

    pub new_keeps : Keeps s (new_table s clock)
    new_keeps = rewriting_keeps s accepted table_checks refl clock right

    pub new_accepted : Checks (new_table s clock) accepted
    new_accepted = new_keeps.checks (subst (λ (m : ℕ). m ≤ 120) (sym count_is_new) few_nodes)

-- ---- the two entry points

abbrev pub judge_rest : List ℕ → ℕ → ℕ → List Refusal
judge_rest s n words = drop 11 (judge_refusals s n words)

abbrev pub ends_rest : List ℕ → ℕ → ℕ → ℕ → List Refusal
ends_rest s n start words = drop 11 (ends_refusals s n start words)

pub judge_passes : (s : List ℕ) (n words : ℕ) (v : Verdict) → v.number ≡ 0 → Answers (judge_refusals s n words) v
    → NotGiven (Check.refusals s ++ (wrong_root s sequence ∷ too_many s ∷ judge_rest s n words))
unfolding judge_refusals Check.refusals
judge_passes s n words v z a = (none_given (judge_refusals s n words) tt v z a).0

pub ends_passes : (s : List ℕ) (n start words : ℕ) (v : Verdict) → v.number ≡ 0 → Answers (ends_refusals s n start words) v
    → NotGiven (Check.refusals s ++ (wrong_root s property ∷ too_many s ∷ ends_rest s n start words))
unfolding ends_refusals Check.refusals
ends_passes s n start words v z a = (none_given (ends_refusals s n start words) tt v z a).0
