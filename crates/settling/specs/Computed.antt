-- What the code is held to. Assumes nothing.
use Rattle.std.specs.Prelude.{◌≡◌, Bool, List, [], ◌∷◌, ◌++◌, ℕ, ◌+◌, ◌*◌, ltb, take, drop, Result, Ok, Err}
use Rattle.refusal.specs.First.{Refusal, Answers}
use Rattle.refusal.specs.Computed.{Case, at0, accepted}
use Rattle.refusal.specs.declared.Reason.{Reason}
use Rattle.refusal.specs.Reasons.{verdict_of}
use Rattle.table.specs.Check as Check
use Rattle.rewrite.specs.declared.Rewriting.{Rewriting}
use Rattle.numbers.specs.Numbers.{new_count}
use Rattle.numbers.specs.Computed.{Numbered}
use Rattle.writing.specs.Tables.{new_table}
use Rattle.rewrite.specs.Rewrites.{OfClocks, Rewrites}
use Rattle.rewrite.specs.Computed.{Renumbered}
use Rattle.cells.specs.Shares.{longest}
use Rattle.judgement.specs.Refusals.{wrong_root}
use Rattle.settling.specs.Refusals.{ends_refusals}
use Rattle.settling.specs.declared.Unsettled.{Unsettled}

-- after a table's own nine: 12, where `wrong` is the sort that the root must not have, and then as match ends
abbrev pub own_refusals : List ℕ → ℕ → ℕ → ℕ → ℕ → List Refusal
own_refusals s wrong n start words = wrong_root s wrong ∷ drop 10 (ends_refusals s n start words)

-- their tests, where `least` words are needed
unfoldable pub own_cases : Bool → Bool → ℕ → ℕ → ℕ → ℕ → List Case
own_cases other many n start words least = at0 12 other ∷ at0 13 many ∷ at0 10 (ltb longest n) ∷ at0 14 (ltb n start) ∷ at0 11 (ltb words least) ∷ []

-- 1 to 9, 12, 13, 10, 14, 11
unfoldable pub settling : List ℕ → ℕ → ℕ → ℕ → ℕ → List Refusal
settling s wrong n start words = Check.refusals s ++ own_refusals s wrong n start words

-- a reason with no count of nodes
abbrev pub uncounted : Reason → Unsettled
uncounted reason = record { reason = reason; count = 0 }

-- an acceptance or a refusal, each with the count of new nodes
abbrev pub settled_by : Result ℕ Unsettled → Rewriting
settled_by (Ok m) = record { verdict = accepted; count = m }
settled_by (Err unsettled) = record { verdict = verdict_of unsettled.reason; count = unsettled.count }

-- of the bytes d lent, the answer r and the bytes d' left
pub record Settles (s : List ℕ) (wrong n start words : ℕ) (d : List ℕ) (r : Renumbered) (d' : List ℕ) : Type 0 where
  -- the first that applies
  pub answer : Answers (settling s wrong n start words) r.verdict
  -- the count and the bytes are as rewriting answers and leaves them
  pub rewriting : Rewriting
  pub rewrites : Rewrites s d rewriting d'
  pub count : r.count ≡ rewriting.count
  -- with none, the rewritten table, and the clock and the new number of each node
  pub numbered : r.verdict.number ≡ 0 → Numbered s r.clocks r.numbers
  pub accepted : r.verdict.number ≡ 0 → OfClocks s (λ clock. (r.count ≡ new_count s clock) × (take (4 * r.count + 6) d' ≡ new_table s clock))
