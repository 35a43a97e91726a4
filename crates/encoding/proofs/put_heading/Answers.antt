-- `encoding::put_heading` meets its contract. Assumes nothing.
use Rattle.encoding.specs.Encoding.{put}
use Rattle.encoding.proofs.put_heading.Goals as goal

pub returns : goal.returns
unfolding put
returns c = rw c.copy_from_slice.ensures.after
