-- What writing a piece leaves. Assumes nothing.
use Rattle.std.specs.Prelude.{◌≡◌, List, ℕ, ◌+◌, ◌-◌, ◌<◌, ◌≤◌, Option, Some, None}
use Rattle.encoding.specs.Encoding.{put_nodes}
use Rattle.expansion.specs.Forms.{Form, size, written}
use Rattle.pieces.specs.declared.Piece.{Piece}
use Rattle.pieces.specs.declared.Piece.TheVariants.{Byte, NodeOf, SequenceOf, PropertyOf}
use Rattle.pieces.specs.Pieces.{NoByte}

-- the operand byte of a piece, where `next` is the number after it
unfoldable pub placed_by : Piece → ℕ → ℕ
placed_by (Byte v) next = v
placed_by (NodeOf k) next = next - 1
placed_by (SequenceOf q) next = next - 1
placed_by (PropertyOf p) next = next - 1

-- the form f of the piece p is written into d from node `at` on, where it and the nodes that come later have room in 120; r is the number after it, none
-- where they have not
pub record Puts (d : List ℕ) (at later : ℕ) (p : Piece) (f : Form) (r : Option ℕ) (d' : List ℕ) : Type 0 where
  pub next : at + size f + later ≤ 120 → r ≡ Some (at + size f)
  pub bytes : at + size f + later ≤ 120 → d' ≡ put_nodes d at (written at f)
  pub grows : at + size f + later ≤ 120 → NoByte p → 1 ≤ size f
  pub over : 120 < at + size f + later → r ≡ None
