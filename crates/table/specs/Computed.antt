-- The refusals of a table as tests that antt computes: what the code is held to. `proofs/Checking.antt` shows that they decide the refusals of Check.antt.
-- Assumes nothing.
use Rattle.std.specs.Prelude.{not, ◌||◌, List, [], ◌∷◌, ◌++◌, ℕ, ◌+◌, ◌*◌, ◌-◌, ltb, eqb, length}
use Rattle.refusal.specs.declared.Verdict.{Verdict}
use Rattle.refusal.specs.Computed.{Case, at0, at_first, first_case, heading_cases}
use Rattle.refusal.specs.Heading.{count}
use Rattle.nodes.specs.Operators.{boolean, base}
use Rattle.nodes.specs.Nodes.{sort_at}
use Rattle.faults.specs.Computed.{unfit, astray}
use Rattle.hollows.specs.Flags.{hollow}

-- 6 to 9, of the n nodes
unfoldable pub node_cases : List ℕ → ℕ → List Case
node_cases s n =
    at_first 6 n (unfit s) ∷ at_first 7 n (astray s n) ∷ at0 8 (eqb (sort_at s (n - 1)) boolean) ∷ at_first 9 n (hollow s) ∷ []

-- after the tests of the first six bytes
unfoldable pub later_cases : List ℕ → List Case
later_cases s =
    at0 4 (eqb (count s) 0 || ltb 120 (count s)) ∷ at0 5 (not (eqb (length s) (4 * count s + 6))) ∷ node_cases s (count s)

-- where the versions are 1 to v
abbrev pub cases_to : ℕ → List ℕ → List Case
cases_to v s = heading_cases 0x54 v s ++ later_cases s

unfoldable pub checked_to : ℕ → List ℕ → Verdict
checked_to v s = first_case (cases_to v s)

-- of a table with base operators alone
abbrev pub cases : List ℕ → List Case
cases s = cases_to base s

unfoldable pub checked : List ℕ → Verdict
checked s = first_case (cases s)
