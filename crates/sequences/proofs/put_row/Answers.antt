-- `sequences::put_row` meets its contract: word i is made of what is found from start i, and its start is decided. Assumes nothing.
use mathlib.Core.Path.{refl}
use native.Mathlib.Omega.{arith}
use borrow.Author.Rules.{rules}
use Rattle.sequences.proofs.Making.{Down, down_none, down_one, above, row_made}
use Rattle.sequences.proofs.put_row.Goals as goal
use Rattle.sequences.proofs.put_row.Goals.{else-loop-i-test, then-loop-i-test+else-i-gt0}

pub loop-i-init : goal.loop-i-init
loop-i-init g c = down_none _ _ c.args.span.short c.requires.within.1 c.empty-tops.ensures

pub find-found-requires : goal.find-found-requires
find-found-requires g c = c.requires.callable _ _ (above c.loop-i.invariant _ refl)

pub loop-i-preserved : goal.loop-i-preserved
loop-i-preserved g c =
    let u = c.loop-i.invariant in
    down_one u _ _ _ _ refl (omega arith) (search rules) (c.requires.finds _ _ _ (above u _ refl) c.find-found.ensures) c.with_if-tops.ensures

pub returns : goal.returns
returns g c =
    let u = c.loop-i.invariant in
    let made : Down c.args.rows.now c.args.own.now c.args.span.n c.args.op 0 c.loop-i-test.tops.bits c.loop-i-test.own =
    elim c.loop-i-test.branch [
      | else-loop-i-test w ↦ absurd (omega arith)
      | then-loop-i-test+else-i-gt0 w ↦
          rw (w.own-is, w.tops-is)
          (down_one u _ _ _ _ refl (omega arith) (search rules) (c.requires.finds _ _ _ (above u _ refl) w.find-found.ensures) w.with_if-tops.ensures)
    ] in
    row_made made _ _ _ _ refl (search rules) c.open_starts-open.ensures c.cut.ensures c.joined.ensures c.clear.ensures
