-- `faults::formed::node_fits` meets its contract where all tests but the last pass. Assumes nothing.
use Rattle.faults.proofs.Fitting.{all_but_y}
use Rattle.faults.proofs.formed.node_fits.Goals as goal
use Rattle.faults.proofs.formed.node_fits.Goals.{then-is_some, else-is_some, then-known_in, else-known_in, then-fourth_fits, else-fourth_fits}

pub returns-then-operand : goal.returns-then-operand
returns-then-operand c =
    elim c.if-fourth_fits.branch [
      | else-fourth_fits w ↦ cc
      | then-fourth_fits w ↦
          elim c.if-known_in.branch [
            | else-known_in v ↦ cc
            | then-known_in v ↦
                elim c.if-is_some.branch [
                  | else-is_some u ↦ cc
                  | then-is_some u ↦
                      all_but_y _ _ _ _ c.node_at-n.ensures _ c.row_of-r.ensures.row c.row_of-r.ensures.unused_y _ _ _ _ _ c.is_some.ensures u.known_in.ensures
                      v.fourth_fits.ensures w.operand.ensures c.operand-then-operand.ensures (cc) (cc) (cc) (cc)
                ]
          ]
    ]
