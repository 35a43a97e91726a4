-- `linetext::put_number` meets its contract: hundreds and tens are put where there are any. Assumes nothing.
use borrow.Author.Tests.{lt-ltb, le-ltb}
use Prim.Native.Nat.{◌/◌, ◌%◌}
use lib.Dec.{ltb}
use Rattle.linetext.specs.Computed.{Puts}
use Rattle.linetext.proofs.Lines.{digit_if, puts_wanted, puts_unwanted, puts_number}
use Rattle.linetext.proofs.put_number.Goals as goal
use Rattle.linetext.proofs.put_number.Goals.{then-hundreds, else-hundreds, then-tens, else-tens}

pub returns : goal.returns
returns c =
    let n = c.args.n in
    let hundreds : Puts c.put_text-end.new.out c.put_text-end.result (digit_if (ltb 99 n) (n / 100)) c.if-hundreds.end c.if-hundreds.out =
    elim c.if-hundreds.branch [
      | then-hundreds w ↦ puts_wanted _ _ _ w.end-is w.out-is (lt-ltb 99 n w.if-hundreds.true) w.put_digit-end.ensures
      | else-hundreds w ↦ puts_unwanted _ _ _ w.end-is w.out-is (le-ltb 99 n w.if-hundreds.false)
    ] in
    let tens : Puts c.if-hundreds.out c.if-hundreds.end (digit_if (ltb 9 n) (n / 10 % 10)) c.if-tens.end c.if-tens.out =
    elim c.if-tens.branch [
      | then-tens w ↦ puts_wanted _ _ _ w.end-is w.out-is (lt-ltb 9 n w.if-tens.true) w.put_digit-end-then-tens.ensures
      | else-tens w ↦ puts_unwanted _ _ _ w.end-is w.out-is (le-ltb 9 n w.if-tens.false)
    ] in
    puts_number _ _ _ n c.requires.0 c.requires.1 _ _ _ _ _ _ _ _ c.put_text-end.ensures hundreds tens c.put_digit.ensures
