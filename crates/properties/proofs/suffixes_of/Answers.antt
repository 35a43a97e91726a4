-- `properties::suffixes_of` meets its contract: the arm of `|->` is its words. Assumes nothing.
use Rattle.cells.specs.Bits.{implies_bit}
use Rattle.properties.proofs.Reading.{by_row_lem}
use Rattle.properties.proofs.suffixes_of.Goals as goal

pub returns-in-Implies : goal.returns-in-Implies
returns-in-Implies c =
    rw c.in-Implies.is (by_row_lem (implies_bit c.args.rows.now c.args.span.n _) _ _ _ _ c.three_at-in-Implies.ensures c.implies_of.ensures)
