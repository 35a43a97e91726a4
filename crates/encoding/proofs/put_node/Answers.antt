-- `encoding::put_node` meets its contract. Assumes nothing.
use native.Mathlib.Omega.{arith}
use Rattle.encoding.proofs.Putting.{put_four}
use Rattle.encoding.proofs.put_node.Goals as goal

pub returns : goal.returns
returns c = put_four _ _ _ _ _ _ (omega arith)
