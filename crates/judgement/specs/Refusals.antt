-- Document 01, "Numbers of refusal": those of a root and of a record, which more than one call gives. n is the number of samples. Assumes nothing.
use Rattle.std.specs.Prelude.{◌≡◌, List, ℕ, ◌<◌}
use Rattle.refusal.specs.First.{Refusal, when}
use Rattle.nodes.specs.Nodes.{sort_at, root}
use Rattle.cells.specs.Shares.{longest}

-- a root of the wrong sort
abbrev pub wrong_root : List ℕ → ℕ → Refusal
wrong_root s sort = when 12 (sort_at s (root s) ≡ sort)

-- more than 63 samples
abbrev pub too_long : ℕ → Refusal
too_long n = when 10 (longest < n)
