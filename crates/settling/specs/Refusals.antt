-- Document 01, "Numbers of refusal", for the judge and for match ends: those that both give, and the order of each. n is the number of samples, and `words`
-- that of the words lent. Assumes nothing.
use Rattle.std.specs.Prelude.{List, [], ◌∷◌, ◌++◌, ℕ, ◌*◌, ◌<◌}
use Rattle.refusal.specs.First.{Refusal, when}
use Rattle.nodes.specs.Operators.{sequence, property}
use Rattle.table.specs.Check as Check
use Rattle.numbers.specs.Numbers.{new_count}
use Rattle.rewrite.specs.Rewrites.{OfClocks, too_many}
use Rattle.cells.specs.Shares.{share}
use Rattle.judgement.specs.Refusals.{wrong_root, too_long}

-- start above n
abbrev pub start_above : ℕ → ℕ → Refusal
start_above n start = when 14 (n < start)

-- workspace below 65 times the rewritten count
abbrev pub too_small : List ℕ → ℕ → Refusal
too_small s words = when 11 (OfClocks s (λ clock. words < share * new_count s clock))

-- 1 to 9, 12, 13, 10, 11
unfoldable pub judge_refusals : List ℕ → ℕ → ℕ → List Refusal
judge_refusals s n words = Check.refusals s ++ (wrong_root s sequence ∷ too_many s ∷ too_long n ∷ too_small s words ∷ [])

-- 1 to 9, 12, 13, 10, 14, 11
unfoldable pub ends_refusals : List ℕ → ℕ → ℕ → ℕ → List Refusal
ends_refusals s n start words =
    Check.refusals s ++ (wrong_root s property ∷ too_many s ∷ too_long n ∷ start_above n start ∷ too_small s words ∷ [])
