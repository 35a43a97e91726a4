-- Document 01, "Table file and record file": both begin with a mark of three bytes, SV and a letter, and a 16-bit version; then comes one byte,
-- the count. Refusals 1, 2 and 3 are of these bytes. Assumes nothing.
use Rattle.std.specs.Prelude.{◌≡◌, List, [], ◌∷◌, ℕ, ◌+◌, ◌*◌, ◌<◌, ◌≤◌, length, get_or, take, drop}
use Rattle.refusal.specs.First.{Refusal, when}

-- numbers are little-endian: the first byte is the lowest
abbrev pub number : List ℕ → ℕ
number [] = 0
number (b ∷ bs) = b + 256 * number bs

abbrev pub version : List ℕ → ℕ
version s = number (take 2 (drop 3 s))

abbrev pub count : List ℕ → ℕ
count s = get_or s 5 0

abbrev pub mark : ℕ → List ℕ
mark letter = 0x53 ∷ 0x56 ∷ letter ∷ []

-- the versions that are known: 1 to the newest
abbrev pub Known : ℕ → ℕ → Type 0
Known newest v = (1 ≤ v) × (v ≤ newest)

-- fewer than 6 bytes, wrong mark, version not known
abbrev pub heading_refusals : ℕ → ℕ → List ℕ → List Refusal
heading_refusals letter newest s =
    when 1 (length s < 6)
    ∷ when 2 (¬ (take 3 s ≡ mark letter))
    ∷ when 3 (¬ Known newest (version s))
    ∷ []
