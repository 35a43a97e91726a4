-- The rows of a table's nodes, and the workspace that holds them. Assumes nothing.
use Rattle.std.specs.Prelude.{cond, List, [], ◌++◌, ℕ, zero, suc, ◌+◌, ◌*◌, ◌<◌, ◌≤◌, eqb, length, drop}
use Rattle.meaning.specs.Words.{none, tops, bots}
use Rattle.nodes.specs.Nodes.{node_at}
use Rattle.nodes.specs.declared.Node.{Node}
use Rattle.nodes.specs.declared.Node.TheVariants.{Boolean, Sequence, Property}
use Rattle.nodes.specs.declared.BooleanOp.{BooleanOp}
use Rattle.nodes.specs.declared.PropertyOp.{PropertyOp}
use Rattle.cells.specs.Shares.{share, longest}
use Rattle.cells.specs.Bits.{boolean_bit, property_bit}
use Rattle.cells.specs.Ready.{ready_boolean, ready_sequence, ready_property}
use Rattle.cells.specs.Stored.{tab, set64}
use Rattle.properties.specs.declared.Suffixes.{Suffixes}
use Rattle.sequences.specs.Made.{sequence_word}

-- word i of a row of three words; all other bits are 0
abbrev pub three_words : ℕ → ℕ → ℕ → ℕ → ℕ
three_words u v w i = cond (eqb i 0) u (cond (eqb i 1) v (cond (eqb i 2) w 0))

-- the row of three sets
abbrev pub three_row : Suffixes → List ℕ
three_row r = tab (three_words r.neutral.bits r.weak.bits r.strong.bits) share

-- word i of a row, by the sort of its node
abbrev pub boolean_word : List ℕ → List ℕ → BooleanOp → ℕ → ℕ
boolean_word rows xs op = three_words (set64 (boolean_bit rows xs op)) 0 0

abbrev pub property_word : List ℕ → ℕ → PropertyOp → ℕ → ℕ
property_word rows n op =
    three_words (set64 (property_bit rows n op none)) (set64 (property_bit rows n op tops)) (set64 (property_bit rows n op bots))

abbrev pub node_word : List ℕ → List ℕ → Node → ℕ → ℕ
node_word rows xs (Boolean op) i = boolean_word rows xs op i
node_word rows xs (Sequence op) i = sequence_word rows (length xs) op i
node_word rows xs (Property op) i = property_word rows (length xs) op i

-- the row of a node, from the rows below it
unfoldable pub node_row : List ℕ → List ℕ → Node → List ℕ
node_row rows xs node = tab (node_word rows xs node) share

-- the rows of the nodes below k
unfoldable pub rows_of : List ℕ → List ℕ → ℕ → List ℕ
rows_of s xs zero = []
rows_of s xs (suc k) = rows_of s xs k ++ node_row (rows_of s xs k) xs (node_at s k)

-- the workspace d with the rows of the nodes below k laid in
unfoldable pub filled : List ℕ → List ℕ → List ℕ → ℕ → List ℕ
filled s xs d k = rows_of s xs k ++ drop (share * k) d

-- the operands' rows lie within the first w words
abbrev pub Ready : ℕ → Node → Type 0
Ready w (Boolean op) = ready_boolean w share op
Ready w (Sequence op) = ready_sequence w op
Ready w (Property op) = ready_property w op

-- what `fill` asks: the bytes of m nodes, each with its operands below it, their shares, and a record that is not too long
pub record Fits (s xs d : List ℕ) (m : ℕ) : Type 0 where
  pub bytes : 4 * m + 6 ≤ length s
  pub ready : (k : ℕ) → k < m → Ready (share * k) (node_at s k)
  pub short : length xs ≤ longest
  pub words : share * m ≤ length d
