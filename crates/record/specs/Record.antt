-- Document 01, "Table file and record file" and "Numbers of refusal": reading a record, which is SVW, a 16-bit version 1, one byte n and n
-- samples. Assumes nothing.
use Rattle.std.specs.Prelude.{◌≡◌, List, [], ◌∷◌, ◌++◌, ℕ, zero, suc, ◌+◌, ◌*◌, ◌<◌, length, take, drop}
use Rattle.refusal.specs.First.{Refusal, when, Answers}
use Rattle.refusal.specs.Heading.{number, count, heading_refusals}
use Rattle.record.specs.declared.Reading.{Reading}

-- sample i: 8 bytes, little-endian
unfoldable pub sample_at : List ℕ → ℕ → ℕ
sample_at s i = number (take 8 (drop (6 + 8 * i) s))

-- the first n samples, in order
unfoldable pub samples : List ℕ → ℕ → List ℕ
samples s zero = []
samples s (suc n) = samples s n ++ (sample_at s n ∷ [])

-- 1 to 3, more than 63 samples, length disagrees with the count, output too small, in words
unfoldable pub refusals : List ℕ → ℕ → List Refusal
refusals s words =
    heading_refusals 0x57 1 s
    ++ (when 10 (63 < count s) ∷ when 5 (¬ (length s ≡ 6 + 8 * count s)) ∷ when 15 (words < count s) ∷ [])

-- the statement of reading: of the record s and the words d lent, the answer r and the words d' left
pub record Reads (s d : List ℕ) (r : Reading) (d' : List ℕ) : Type 0 where
  -- the first refusal that applies
  pub answer : Answers (refusals s (length d)) r.verdict
  -- writes its n samples in order, answers n and leaves later words
  pub accepted : r.verdict.number ≡ 0 → (r.count ≡ count s) × (d' ≡ samples s (count s) ++ drop (count s) d)
  -- answers count 0 and changes nothing lent
  pub refused : ¬ (r.verdict.number ≡ 0) → (r.count ≡ 0) × (d' ≡ d)
