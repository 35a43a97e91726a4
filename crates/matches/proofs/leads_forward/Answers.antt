-- `matches::leads_forward`: after the last turn all words up to n have been looked at.
use Rattle.std.proofs.Common.{◌+◌, ap, arith}
use Rattle.positions.specs.Member.{has}
use Rattle.cells.specs.Shares.{bit_in}
use Rattle.matches.proofs.Covering.{Behind, behind_last, behind_all}
use Rattle.matches.proofs.leads_forward.Goals as goal
use Rattle.matches.proofs.leads_forward.Goals.{else-loop-i-test, then-loop-i-test+else-i-i-end}

pub returns : goal.returns
returns c =
    let all : Behind (bit_in c.args.rows.now c.args.a) (c.args.span.n + 1) c.loop-i-test.back.bits = elim c.loop-i-test.branch [
      | else-loop-i-test w ↦ absurd (omega arith)
      | then-loop-i-test+else-i-i-end w ↦ rw w.back-is
          (behind_last (bit_in c.args.rows.now c.args.a) c.loop-i.i _ _ _ _ _ _ (omega arith) c.loop-i.invariant (λ k. ap (λ x. has x k) w.word_at-word.ensures) w.from.ensures w.without.ensures w.joined-back.ensures)
    ] in
    behind_all (bit_in c.args.rows.now c.args.a) c.args.span.n _ _ (omega arith) all c.is_empty.ensures
