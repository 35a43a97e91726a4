-- The shapes of the walks along a sequence's matches: what a loop may rely on, and what is found. Assumes nothing.
use Rattle.std.specs.Prelude.{◌≡◌, Bool, false, List, ℕ, ◌<◌, ◌≤◌, T}
use Rattle.positions.specs.Member.{Is}
use Rattle.nodes.specs.declared.SequenceOp.{SequenceOp}
use Rattle.cells.specs.Shares.{bit_in}
use Rattle.cells.specs.Bits.{sequence_bit, goes_on}
use Rattle.matches.specs.declared.Found.{Found}

-- M chains on the places of s up to n: what it has from a place that it has from p, it has from p
pub record Chains (s : ℕ → Bool) (M : ℕ → ℕ → Bool) (n : ℕ) : Type 0 where
  pub on : (p m j : ℕ) → p ≤ n → m ≤ n → T (s p) → T (s m) → T (M p m) → T (M m j) → T (M p j)

-- no match of row a leads back: of its words up to n none has a place below its start
abbrev pub Forward : List ℕ → ℕ → ℕ → Type 0
Forward rows a n = (i j : ℕ) → i ≤ n → j < i → bit_in rows a i j ≡ false

-- what is found from i: the ends, and whether the match goes on
pub record Finds (rows : List ℕ) (n : ℕ) (op : SequenceOp) (i : ℕ) (r : Found) : Type 0 where
  pub ends : Is r.ends.bits (sequence_bit rows n op i)
  pub on : r.on ≡ goes_on rows op (sequence_bit rows n op i) i
