-- What opening a version 3 table does, where `wrong` is the sort that its root must not have. Assumes nothing.
use Rattle.std.specs.Prelude.{◌≡◌, Bool, not, ◌&&◌, List, [], ◌∷◌, ◌++◌, ℕ, ◌<◌, ◌≤◌, eqb, ltb, length, Option, Some, None, Result, Ok, Err}
use Rattle.refusal.specs.First.{Refusal, when, Answers}
use Rattle.refusal.specs.Heading.{version}
use Rattle.refusal.specs.Computed.{accepted}
use Rattle.refusal.specs.declared.Reason.{Reason}
use Rattle.refusal.specs.Reasons.{verdict_of}
use Rattle.nodes.specs.Operators.{newest}
use Rattle.nodes.specs.Nodes.{sort_at, root}
use Rattle.table.specs.Check.{refusals_to}
use Rattle.encoding.specs.Encoding.{put}
use Rattle.expansion.specs.Expansion.{base_count, base_table, too_large}
use Rattle.expand.specs.declared.Expansion.{Expansion}

-- six bytes or more, and version 3
unfoldable pub has_version3 : List ℕ → Bool
has_version3 s = not (ltb (length s) 6) && eqb (version s) 3

-- the expansion of s is written into d, where it has at most 120 nodes; r is its count, none where it has more
pub record Unfolds (s d : List ℕ) (r : Option ℕ) (d' : List ℕ) : Type 0 where
  pub count : base_count s ≤ 120 → r ≡ Some (base_count s)
  pub bytes : base_count s ≤ 120 → d' ≡ put d 0 (base_table s)
  pub over : 120 < base_count s → r ≡ None

-- an acceptance with the count of nodes; a refusal with count 0
abbrev pub expansion_by : Result ℕ Reason → Expansion
expansion_by (Ok m) = record { verdict = accepted; count = m }
expansion_by (Err reason) = record { verdict = verdict_of reason; count = 0 }

-- 1 to 9, 12, 13
unfoldable pub open_refusals : List ℕ → ℕ → List Refusal
open_refusals s wrong = refusals_to newest s ++ (when 12 (sort_at s (root s) ≡ wrong) ∷ too_large s ∷ [])

pub record Opens (s : List ℕ) (wrong : ℕ) (d : List ℕ) (r : Expansion) (d' : List ℕ) : Type 0 where
  pub answer : Answers (open_refusals s wrong) r.verdict
  -- the expansion is in the first bytes lent
  pub count : r.verdict.number ≡ 0 → r.count ≡ base_count s
  pub few : r.verdict.number ≡ 0 → base_count s ≤ 120
  pub bytes : r.verdict.number ≡ 0 → d' ≡ put d 0 (base_table s)
  pub refused : ¬ (r.verdict.number ≡ 0) → r.count ≡ 0
  pub low : r.count ≤ 120
