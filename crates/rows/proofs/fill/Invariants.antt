-- The rows of the nodes below k are laid in. Assumes nothing.
use Rattle.std.proofs.Common.{◌≡◌}
use Rattle.rows.specs.Rows.{filled}
use Rattle.rows.proofs.fill.Given as goal

abbrev pub invariant-loop-k : goal.invariant-loop-k
invariant-loop-k l = l.ws ≡ filled l.table l.samples l.initial.ws l.k
