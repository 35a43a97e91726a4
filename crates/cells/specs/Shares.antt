-- How a workspace is shared out: the one place that says how many words a node owns and how many samples a record has at most. Assumes nothing.
use Rattle.std.specs.Prelude.{Bool, List, ℕ, ◌+◌, ◌*◌, ◌≤◌, get_or}
use Rattle.positions.specs.Member.{has}
use Rattle.meaning.specs.Words.{Tail, none, tops, bots}

-- the words that a node owns: node k has them from word 65k on
abbrev pub share : ℕ
share = 65

-- the word of a sequence that tells of the letters ⊤ after the record: the last of its share
abbrev pub top_word : ℕ
top_word = 64

-- the word of a property for each tail
abbrev pub word_of : Tail → ℕ
word_of none = 0
word_of tops = 1
word_of bots = 2

-- the samples of a record, at most
abbrev pub longest : ℕ
longest = 63

-- word i of row a
abbrev pub word_in : List ℕ → ℕ → ℕ → ℕ
word_in rows a i = get_or rows (share * a + i) 0

-- word i of row a has the place k
abbrev pub bit_in : List ℕ → ℕ → ℕ → ℕ → Bool
bit_in rows a i k = has (word_in rows a i) k

-- the words of node a lie within the first w, where each node has `stride`
abbrev pub HasWords : ℕ → ℕ → ℕ → Type 0
HasWords w stride a = stride * a + stride ≤ w

-- row a lies within the first w words
abbrev pub HasRow : ℕ → ℕ → Type 0
HasRow w a = HasWords w share a
