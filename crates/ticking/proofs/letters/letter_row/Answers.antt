-- `ticking::letters::letter_row` meets its contract. Assumes nothing.
use Prim.Native.Nat.{◌+◌}
use mathlib.Core.Path.{refl}
use native.Mathlib.Omega.{arith}
use borrow.Author.Rules.{rules}
use Rattle.ticking.proofs.LetterWords.{Lettered, lettered_none, lettered_more, letter_done}
use Rattle.ticking.proofs.letters.letter_row.Goals as goal
use Rattle.ticking.proofs.letters.letter_row.Goals.{else-loop-i-test, then-loop-i-test+else-i-i-end}

pub loop-i-init : goal.loop-i-init
loop-i-init c = lettered_none _ _ _ (search rules) c.empty-tops.ensures

pub loop-i-preserved : goal.loop-i-preserved
loop-i-preserved c =
    lettered_more _ _ _ _ _ _ _ _ _ _ c.loop-i.invariant (omega arith) refl c.letter_ends.ensures c.from.ensures c.is_empty.ensures (search rules) c.with_if-tops.ensures

pub returns : goal.returns
returns c =
    let made : Lettered c.args.b.bits c.args.ticks.bits (c.args.span.n + 1) c.loop-i-test.tops.bits c.loop-i-test.out =
    elim c.loop-i-test.branch [
      | else-loop-i-test w ↦ absurd (omega arith)
      | then-loop-i-test+else-i-i-end w ↦
          rw (w.out-is, w.tops-is)
          (lettered_more _ _ _ _ _ _ _ _ _ _ c.loop-i.invariant (omega arith) (omega arith) w.letter_ends.ensures w.from.ensures w.is_empty.ensures (search rules) w.with_if-tops.ensures)
    ] in
    letter_done _ _ _ _ _ c.args.span.short made
