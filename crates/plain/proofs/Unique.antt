-- The statement of the plain judge leaves nothing open: two answers that fit are the same. Assumes nothing.
use mathlib.Core.Path.{◌≡◌}
use mathlib.Core.List.{List, [], ◌∷◌}
use Prim.Native.Nat.{ℕ}
use lib.ListN.{length}
use Rattle.refusal.specs.declared.Verdict.{Verdict}
use Rattle.refusal.specs.First.{Answers}
use Rattle.refusal.specs.Computed.{accepted}
use Rattle.refusal.proofs.Unique.{Singles, single_when, singles_append, by_verdict}
use Rattle.refusal.proofs.Given.{none_given, not_given-append}
use Rattle.nodes.specs.Operators.{sequence}
use Rattle.table.specs.Check as Check
use Rattle.table.specs.Check.{Checks}
use Rattle.table.proofs.Checking.{checks_none, table_singles}
use Rattle.judgement.specs.declared.Judgement.{Judgement}
use Rattle.judgement.specs.Refusals.{wrong_root, too_long}
use Rattle.judgement.proofs.Unique.{meant_unique, refused_unique}
use Rattle.plain.specs.Judges.{plain_refusals, PlainJudges}

pub plain_singles : (s : List ℕ) (n : ℕ) → Singles (plain_refusals s n)
unfolding plain_refusals
plain_singles s n = singles_append (Check.refusals s) _ (table_singles s) (single_when 12 _, (single_when 10 _, tt))

-- an acceptance is one of the table
pub plain_checks : (s : List ℕ) (n : ℕ) (v : Verdict) → v.number ≡ 0 → Answers (plain_refusals s n) v → Checks s accepted
unfolding plain_refusals Check.refusals
plain_checks s n v z a = checks_none s (not_given-append (Check.refusals s) (wrong_root s sequence ∷ too_long n ∷ []) (none_given (plain_refusals s n) tt v z a).0).0

pub plain_unique : (s xs : List ℕ) (r q : Judgement) → PlainJudges s xs r → PlainJudges s xs q → r ≡ q
plain_unique s xs r q a b =
    by_verdict (plain_refusals s (length xs)) (plain_singles s (length xs)) r.verdict q.verdict a.answer b.answer
    (λ v y z. meant_unique s xs (plain_checks s (length xs) r.verdict y a.answer) r q v (a.accepted y) (b.accepted z))
    (λ v y z. refused_unique r q v (a.refused y) (b.refused z))
