-- The boolean that a node gives the new table, if any, with its old operand numbers: what the code is held to. Assumes nothing.
use Rattle.std.specs.Prelude.{List, [], ◌∷◌, Option, Some, None}
use Rattle.nodes.specs.declared.Raw.{Raw}
use Rattle.nodes.specs.declared.BooleanOp.{BooleanOp}
use Rattle.nodes.specs.Operators.{node_of, boolean_bytes}
use Rattle.expansion.specs.Booleans.{given}

-- the first of a list, if any
unfoldable pub first_gift : List BooleanOp → Option Raw
first_gift [] = None
first_gift (o ∷ os) = Some (boolean_bytes o)

-- what the node with the bytes v gives
unfoldable pub gift_of : Raw → Option Raw
gift_of v = first_gift (given (node_of v))
