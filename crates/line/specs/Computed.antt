-- What the parts of the code ask of each other. Assumes nothing.
use Rattle.std.specs.Prelude.{◌≡◌, List, ℕ, take, drop}
use Rattle.line.specs.Program.{table_part, record_part}

-- at r the table part ends and the record begins
abbrev pub PartsAt : List ℕ → ℕ → Type 0
PartsAt s r = (take r s ≡ table_part s) × (drop r s ≡ record_part s)
