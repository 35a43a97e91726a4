-- Document 02, request 4: the refusals of each call on tables of versions 1 to 3. 13 is given exactly when the expanded count passes 120, or the rewritten
-- one where a call rewrites; the plain engine answers it after 12. `room` and `words` are what is lent, n is the number of samples. Assumes nothing.
use Rattle.std.specs.Prelude.{List, [], ◌∷◌, ◌++◌, ℕ}
use Rattle.refusal.specs.First.{Refusal}
use Rattle.nodes.specs.Operators.{sequence, property, newest}
use Rattle.table.specs.Check.{refusals_to}
use Rattle.expansion.specs.Expansion.{expansion, too_large}
use Rattle.rewrite.specs.Rewrites.{too_many, no_room}
use Rattle.judgement.specs.Refusals.{wrong_root, too_long}
use Rattle.settling.specs.Refusals.{start_above, too_small}

-- 1 to 9, 13, 15
unfoldable pub rewrite_refusals : List ℕ → ℕ → List Refusal
rewrite_refusals s room = refusals_to newest s ++ (too_large s ∷ too_many (expansion s) ∷ no_room (expansion s) room ∷ [])

-- 1 to 9, 12, 13, 10, 11
unfoldable pub judge_refusals : List ℕ → ℕ → ℕ → List Refusal
judge_refusals s n words =
    refusals_to newest s ++ (wrong_root s sequence ∷ too_large s ∷ too_many (expansion s) ∷ too_long n ∷ too_small (expansion s) words ∷ [])

-- 1 to 9, 12, 13, 10, 14, 11
unfoldable pub ends_refusals : List ℕ → ℕ → ℕ → ℕ → List Refusal
ends_refusals s n start words =
    refusals_to newest s
    ++ (wrong_root s property ∷ too_large s ∷ too_many (expansion s) ∷ too_long n ∷ start_above n start ∷ too_small (expansion s) words ∷ [])

-- 1 to 9, 12, 13, 10
unfoldable pub plain_refusals : List ℕ → ℕ → List Refusal
plain_refusals s n = refusals_to newest s ++ (wrong_root s sequence ∷ too_large s ∷ too_long n ∷ [])
