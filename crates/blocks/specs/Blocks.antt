-- Document 01, "Rewriting, node by node": the block of each node, written out. Assumes nothing.
use Rattle.std.specs.Prelude.{cond, List, [], ◌∷◌, map, ℕ, zero, suc, ◌+◌, eqb}
use Rattle.nodes.specs.declared.Raw.{Raw}
use Rattle.nodes.specs.declared.Node.{Node}
use Rattle.nodes.specs.declared.Node.TheVariants.{Boolean, Sequence, Property}
use Rattle.nodes.specs.declared.BooleanOp.TheVariants.{Not, And}
use Rattle.nodes.specs.declared.SequenceOp.TheVariants.{Letter, Then, Either, Empty, Repeat}
use Rattle.nodes.specs.declared.PropertyOp.TheVariants.{Strong, Negated, BothOf, Next, Until}
use Rattle.nodes.specs.Operators.{row_of, bytes, bytes_of}
use Rattle.encoding.specs.Moved.{moved_node}
use Rattle.nodes.specs.NodeClock.{Ref, free_r, on_r}

-- 1st, 2nd, 3rd, .. node of the block whose 1st is number `at`
abbrev pub nth : ℕ → ℕ → ℕ
nth at zero = at
nth at (suc zero) = at
nth at (suc (suc i)) = at + suc i

-- letter b under c, 9 nodes, of which the 1st is number `at`; c and b are new numbers
abbrev pub letter_block : ℕ → ℕ → ℕ → List Node
letter_block at c b =
    Boolean (Not c)
    ∷ Boolean (And c b)
    ∷ Sequence (Letter (nth at 1))
    ∷ Sequence (Empty (nth at 3))
    ∷ Sequence (Letter (nth at 1))
    ∷ Sequence (Repeat (nth at 5))
    ∷ Sequence (Either (nth at 4) (nth at 6))
    ∷ Sequence (Letter (nth at 2))
    ∷ Sequence (Then (nth at 7) (nth at 8))
    ∷ []

-- nexttime p under c, 14 nodes
abbrev pub next_block : ℕ → ℕ → ℕ → List Node
next_block at c p =
    Boolean (Not c)
    ∷ Sequence (Letter (nth at 1))
    ∷ Property (Strong (nth at 2))
    ∷ Sequence (Letter c)
    ∷ Property (Strong (nth at 4))
    ∷ Property (BothOf (nth at 5) p)
    ∷ Property (Until (nth at 3) (nth at 6))
    ∷ Property (Next (nth at 7))
    ∷ Sequence (Letter c)
    ∷ Property (Strong (nth at 9))
    ∷ Property (BothOf (nth at 10) (nth at 8))
    ∷ Sequence (Letter (nth at 1))
    ∷ Property (Strong (nth at 12))
    ∷ Property (Until (nth at 13) (nth at 11))
    ∷ []

-- p until q under c, 9 nodes
abbrev pub until_block : ℕ → ℕ → ℕ → ℕ → List Node
until_block at c p q =
    Sequence (Letter c)
    ∷ Property (Strong (nth at 1))
    ∷ Property (Negated p)
    ∷ Property (BothOf (nth at 2) (nth at 3))
    ∷ Property (Negated (nth at 4))
    ∷ Sequence (Letter c)
    ∷ Property (Strong (nth at 6))
    ∷ Property (BothOf (nth at 7) q)
    ∷ Property (Until (nth at 5) (nth at 8))
    ∷ []

-- the block of op(x, y) under c, of which the 1st node is number `at`; c, x and y are new numbers. 16 is a letter, 38 nexttime and 39 until; any other is
-- one node
unfoldable pub under_block : ℕ → ℕ → ℕ → ℕ → ℕ → List Raw
under_block at c op x y =
    cond (eqb op 16) (map bytes_of (letter_block at c x))
    (cond (eqb op 38) (map bytes_of (next_block at c x))
    (cond (eqb op 39) (map bytes_of (until_block at c x y))
    (bytes op x y ∷ [])))

-- ν gives the new numbers
module _ (ν : ℕ → ℕ) where
  -- the block of a node that is no clock node: with no clock, and under c
  unfoldable pub moved_block : Ref → ℕ → Raw → List Raw
  moved_block free_r at r = moved_node ν r ∷ []
  moved_block (on_r c) at r = under_block at (ν c) r.op (moved_node ν r).x (moved_node ν r).y

  -- a clock node has no block
  unfoldable pub block_under : Ref → ℕ → Raw → List Raw
  block_under ρ at r = cond (eqb (row_of r.op).block 0) [] (moved_block ρ at r)
