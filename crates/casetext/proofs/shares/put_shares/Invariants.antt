-- `casetext::shares::put_shares`: no more words are kept than came.
use Rattle.std.proofs.Common.{◌+◌, ◌≤◌, length}
use Rattle.casetext.proofs.shares.put_shares.Given as goal

abbrev pub invariant-loop-share : goal.invariant-loop-share
invariant-loop-share g l =
    (goal.iterator-loop-share g).can_next l.share-iterator
    × (goal.iterator-loop-share g).is_finite l.share-iterator
    × (l.kept + length l.share-iterator.a.rest.now ≤ length l.words)
