-- `refusal::heading` meets its contract: each exit is the first of its tests that stops. Assumes nothing.
use Rattle.refusal.proofs.Headings.{few_bytes, wrong_mark, unknown_version, known_version}
use Rattle.refusal.proofs.heading.Goals as goal

pub returns-then-b-lt6 : goal.returns-then-b-lt6
returns-then-b-lt6 c = search few_bytes

pub returns-then-not-marked : goal.returns-then-not-marked
returns-then-not-marked c = search wrong_mark

pub returns-then-not-known : goal.returns-then-not-known
returns-then-not-known c = search unknown_version

pub returns : goal.returns
returns c = search known_version
