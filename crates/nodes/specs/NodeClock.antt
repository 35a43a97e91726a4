-- Document 01, "a node's clock is the condition of the nearest clock node above it, if any": the parts of a node, and the clock of a node by the
-- number of its condition's node. Assumes nothing.
use Rattle.std.specs.Prelude.{◌≡◌, List, ℕ, ◌≤◌}
use Rattle.nodes.specs.declared.Node.{Node}
use Rattle.nodes.specs.declared.Node.TheVariants.{Boolean, Sequence, Property}
use Rattle.nodes.specs.declared.SequenceOp.TheVariants.{Letter, Then, Fused, Either, Empty, Repeat, Clocked, Derived}
use Rattle.nodes.specs.declared.PropertyOp.TheVariants.{Strong, Weak, Negated, AnyOf, BothOf, Implies, Next, Until, Ticked, Defined}
use Rattle.nodes.specs.Operators.{sequence}
use Rattle.nodes.specs.Nodes.{raw_at, row_at, node_at, root}

-- a clock by the number of its condition's node
pub data Ref : Type 0 where
  free_r : Ref
  on_r : ℕ → Ref

-- k stands in an operand place of p that is for a sequence or a property
pub data Part (s : List ℕ) (p k : ℕ) : Type 0 where
  at_x : sequence ≤ (row_at s p).x → (raw_at s p).x ≡ k → Part s p k
  at_y : sequence ≤ (row_at s p).y → (raw_at s p).y ≡ k → Part s p k

-- the clock that a node whose own is ρ hands down to its parts: a clock node its condition, any other its own
abbrev pub handed : Node → Ref → Ref
handed (Boolean o) ρ = ρ
handed (Sequence (Letter x)) ρ = ρ
handed (Sequence (Then x y)) ρ = ρ
handed (Sequence (Fused x y)) ρ = ρ
handed (Sequence (Either x y)) ρ = ρ
handed (Sequence (Empty x)) ρ = ρ
handed (Sequence (Repeat x)) ρ = ρ
handed (Sequence (Clocked c x)) ρ = on_r c
handed (Sequence (Derived o)) ρ = ρ
handed (Property (Strong x)) ρ = ρ
handed (Property (Weak x)) ρ = ρ
handed (Property (Negated x)) ρ = ρ
handed (Property (AnyOf x y)) ρ = ρ
handed (Property (BothOf x y)) ρ = ρ
handed (Property (Implies x y)) ρ = ρ
handed (Property (Next x)) ρ = ρ
handed (Property (Until x y)) ρ = ρ
handed (Property (Ticked c x)) ρ = on_r c
handed (Property (Defined o)) ρ = ρ

-- a node's clock is the condition of the nearest clock node above it, if any: the root has none, and each part has what is handed down to it
pub data ClockOf (s : List ℕ) : ℕ → Ref → Type 0 where
  c_root : ClockOf s (root s) free_r
  c_part : {p k : ℕ} {ρ : Ref} → ClockOf s p ρ → Part s p k → ClockOf s k (handed (node_at s p) ρ)
