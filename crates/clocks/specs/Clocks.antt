-- Document 01, "Table file and record file": a node's clock is the condition of the nearest clock node above it, if any. Assumes nothing.
use Rattle.std.specs.Prelude.{Bool, List, ℕ, eqb}
use Rattle.nodes.specs.Nodes.{row_at}
use Rattle.nodes.specs.NodeClock.{Ref, free_r, ClockOf}

-- of the known operators the clocks alone, 22 and 40, have no block (`clock-nodes` in rewrite/proofs/Theorems.antt)
unfoldable pub is_clock : List ℕ → ℕ → Bool
is_clock s k = eqb (row_at s k).block 0

-- the clock of node k: the one that it has from above, or none where there is none above it. A boolean has none
pub data ClockIs (s : List ℕ) (k : ℕ) : Ref → Type 0 where
  from_above : {ρ : Ref} → ClockOf s k ρ → ClockIs s k ρ
  none_above : ((ρ : Ref) → ¬ ClockOf s k ρ) → ClockIs s k free_r

-- `clock` gives the clock of each node of s
abbrev pub Clocks : List ℕ → (ℕ → Ref) → Type 0
Clocks s clock = (k : ℕ) → ClockIs s k (clock k)
