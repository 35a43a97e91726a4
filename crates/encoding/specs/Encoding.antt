-- Document 01, "Table file and record file": the bytes of a table, and bytes put into what is lent. Assumes nothing.
use Rattle.std.specs.Prelude.{List, [], ◌∷◌, ◌++◌, ℕ, ◌+◌, ◌*◌, length, take, drop}
use Rattle.refusal.specs.Heading.{mark}
use Rattle.nodes.specs.declared.Raw.{Raw}
use Rattle.nodes.specs.declared.Node.{Node}
use Rattle.nodes.specs.declared.Node.TheVariants.{Boolean}
use Rattle.nodes.specs.declared.BooleanOp.TheVariants.{Constant}
use Rattle.nodes.specs.Operators.{bytes_of}

-- the mark, the two bytes of the version, and the count
abbrev pub heading : ℕ → ℕ → ℕ → List ℕ
heading first second m = mark 0x54 ++ (first ∷ second ∷ m ∷ [])

-- 4 bytes a node
abbrev pub four_bytes : Raw → List ℕ
four_bytes r = r.op ∷ r.x ∷ r.y ∷ r.fourth ∷ []

unfoldable pub encoded : List Raw → List ℕ
encoded [] = []
encoded (r ∷ rs) = four_bytes r ++ encoded rs

-- what stands past the end of a list of nodes
abbrev pub blank_node : Node
blank_node = Boolean (Constant 0)

abbrev pub blank : Raw
blank = bytes_of blank_node

-- d with xs put in from byte `at` on
unfoldable pub put : List ℕ → ℕ → List ℕ → List ℕ
put d at xs = take at d ++ xs ++ drop (at + length xs) d

-- d with the nodes rs put in from node `at` on
abbrev pub put_nodes : List ℕ → ℕ → List Raw → List ℕ
put_nodes d at rs = put d (4 * at + 6) (encoded rs)
