-- What the code has as enums, by the numbers of Operators.antt. Assumes nothing.
use Rattle.std.specs.Prelude.{ℕ, Option, Some, None}
use Rattle.nodes.specs.declared.operators.Sort.{Sort}
use Rattle.nodes.specs.declared.operators.Sort.TheVariants.{Boolean, Sequence, Property}
use Rattle.nodes.specs.declared.operators.Operand.{Operand}
use Rattle.nodes.specs.declared.operators.Operand.TheVariants.{Below, Node}
use Rattle.nodes.specs.declared.operators.FourthByte.{FourthByte}
use Rattle.nodes.specs.declared.operators.FourthByte.TheVariants.{Zero, Range, Count}
use Rattle.nodes.specs.declared.operators.Row.{Row as CodeRow}
use Rattle.nodes.specs.Operators.{none, boolean, sequence, property, zero_byte, range_byte, count_byte, Row}

-- a sort, none for none
abbrev pub sort_number : Option Sort → ℕ
sort_number None = none
sort_number (Some Boolean) = boolean
sort_number (Some Sequence) = sequence
sort_number (Some Property) = property

-- the sort of an operand, none for a plain number
abbrev pub operand_sort : Operand → ℕ
operand_sort (Below limit) = none
operand_sort (Node sort) = sort_number (Some sort)

-- the number that a plain operand is below
abbrev pub operand_limit : Operand → ℕ
operand_limit (Below limit) = limit
operand_limit (Node sort) = 0

abbrev pub fourth_number : FourthByte → ℕ
fourth_number Zero = zero_byte
fourth_number Range = range_byte
fourth_number Count = count_byte

abbrev pub row_numbers : CodeRow → Row
row_numbers r =
    record {
      first = r.first;
      last = r.last;
      own = sort_number r.own;
      x = operand_sort r.x;
      limit = operand_limit r.x;
      y = operand_sort r.y;
      fourth = fourth_number r.fourth;
      block = r.block;
    }
