-- `record::read_samples` meets its contract: each exit is the first of its tests that stops. Assumes nothing.
use Prim.Native.Nat.{◌<◌}
use borrow.Author.Rules.{rules}
use lib.ListN.{length}
use Rattle.std.proofs.lemmas.Result.{err_from_is_err_and}
use Rattle.refusal.proofs.Errors.{six_bytes}
use Rattle.record.proofs.Deciding.{by_heading, many_samples, wrong_length, small_output, reads}
use Rattle.record.proofs.read_samples.Goals as goal

pub returns-in_err-heading : goal.returns-in_err-heading
returns-in_err-heading c =
    let p = err_from_is_err_and c.from_residual.result c.from_residual.ensures.1 in
    rw (p.1, p.2) (by_heading _ _ _ c.in_err-heading.ensures)

pub bounds-b-5 : goal.bounds-b-5
bounds-b-5 c = let h : 5 < length c.args.b.now = six_bytes 87 1 _ c.in_ok-heading.ensures in search rules

pub returns-then-n-gt-LONGEST : goal.returns-then-n-gt-LONGEST
returns-then-n-gt-LONGEST c = many_samples _ _ c.in_ok-heading.ensures _ c.from-n.ensures c.if-n-gt-LONGEST.true

pub returns-then-b-n : goal.returns-then-b-n
returns-then-b-n c = wrong_length _ _ c.in_ok-heading.ensures _ c.from-n.ensures c.if-n-gt-LONGEST.false c.if-b-n.true

pub returns-then-out-n : goal.returns-then-out-n
returns-then-out-n c = small_output _ _ c.in_ok-heading.ensures _ c.from-n.ensures c.if-n-gt-LONGEST.false c.if-b-n.false c.if-out-n.true

pub returns : goal.returns
returns c = reads _ _ c.in_ok-heading.ensures _ c.from-n.ensures c.if-n-gt-LONGEST.false c.if-b-n.false c.if-out-n.false _ c.put_samples.ensures
