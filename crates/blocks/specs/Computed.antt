-- What the code is held to: a node's block from the operator, its clock and new numbers. Assumes nothing.
use Rattle.std.specs.Prelude.{List, [], ◌∷◌, ℕ, Option, Some, None}
use Rattle.nodes.specs.declared.Raw.{Raw}
use Rattle.nodes.specs.Operators.{bytes}
use Rattle.blocks.specs.Blocks.{under_block}

-- the block of a node that is no clock node, under the condition of its clock, if any; the condition, x and y are new numbers
unfoldable pub kind_block : Option ℕ → ℕ → ℕ → ℕ → ℕ → List Raw
kind_block None at op x y = bytes op x y ∷ []
kind_block (Some c) at op x y = under_block at c op x y
