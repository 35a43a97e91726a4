-- Where the table part ends. Assumes nothing.
use native.Mathlib.Omega.{arith}
use mathlib.Core.Path.{◌≡◌, refl, ◌∙◌, sym}
use mathlib.Core.List.{List}
use mathlib.Core.Logic.{⊎_elim}
use Prim.Native.Nat.{ℕ, min, ◌+◌, ◌*◌, ◌<◌, ◌≤◌}
use lib.ListN.{length, drop_of_length-le}
use lib.Seq.{take_all, take-length, drop-length}
use Rattle.telling.proofs.Telling.{decide, is_lt}
use Rattle.refusal.specs.Heading.{count}
use Rattle.line.specs.Program.{table_part, record_part}
use Rattle.line.specs.Computed.{PartsAt}

-- where the bytes are fewer, all there is is the table part
ends_all : (s : List ℕ) → length s ≤ 6 + 4 * count s → PartsAt s (length s)
unfolding table_part record_part
ends_all s l = (take-length s ∙ sym (take_all (6 + 4 * count s) s l), drop-length s ∙ sym (drop_of_length-le s l))

pub ends_torn : (s : List ℕ) → length s < 6 → PartsAt s (length s)
ends_torn s l = ends_all s (omega arith)

-- n is the count as it is read
pub ends_there : (s : List ℕ) (n r : ℕ) → n ≡ count s → r ≡ min (length s) (4 * n + 6) → PartsAt s r
unfolding table_part record_part
ends_there s n r read at = ⊎_elim short long (decide (is_lt (length s) (6 + 4 * count s)))
  where
    short : length s < 6 + 4 * count s → PartsAt s r
    short l = let e : r ≡ length s = omega arith in rw e (ends_all s (omega arith))

    long : ¬ (length s < 6 + 4 * count s) → PartsAt s r
    long g = let e : r ≡ 6 + 4 * count s = omega arith in rw e (refl, refl)
