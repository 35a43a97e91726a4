-- `casetext::output::put_bytes`: no more bytes are kept than came.
use Rattle.std.proofs.Common.{◌≤◌, length}
use Rattle.casetext.proofs.output.put_bytes.Given as goal

abbrev pub invariant-loop-byte : goal.invariant-loop-byte
invariant-loop-byte g l = l.kept ≤ length l.yielded
