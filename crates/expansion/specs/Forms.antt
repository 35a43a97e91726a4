-- A sequence or a property as it is written out: a form is a node over two operands, and an operand is a form of its own or a plain byte, the number of a
-- boolean or 0. Each form is written after its operands, the first before the second, so that its own node comes last. Assumes nothing.
use Rattle.std.specs.Prelude.{List, [], ◌∷◌, ◌++◌, ℕ, ◌+◌}
use Rattle.nodes.specs.declared.Raw.{Raw}
use Rattle.nodes.specs.Operators.{bytes}

pub data Form : Type 0 where
  byte : ℕ → Form
  node : ℕ → Form → Form → Form

-- how many nodes it has
unfoldable pub size : Form → ℕ
size (byte v) = 0
size (node op x y) = size x + size y + 1

-- the operand byte that names it, where it is written from number `at` on: the number of its last node, or the byte itself
unfoldable pub named : ℕ → Form → ℕ
named at (byte v) = v
named at (node op x y) = at + (size x + size y)

-- its nodes, written from number `at` on
unfoldable pub written : ℕ → Form → List Raw
written at (byte v) = []
written at (node op x y) = (written at x ++ written (at + size x) y) ++ (bytes op (named at x) (named (at + size x) y) ∷ [])
