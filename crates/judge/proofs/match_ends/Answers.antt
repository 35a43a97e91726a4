-- `judge::match_ends` meets its contract: a law of Judging.antt at each goal. Assumes nothing.
use native.Mathlib.Omega.{arith}
use borrow.Author.Rules.{rules}
use mathlib.Core.Path.{refl}
use Rattle.refusal.proofs.Errors.{refused_by}
use Rattle.judge.proofs.Judging.{start_short, some, root_there, ends_refused, ends_accepted}
use Rattle.judge.proofs.match_ends.Goals as goal

pub returns-in-Err : goal.returns-in-Err
returns-in-Err c = ends_refused _ _ _ _ _ _ _ _ c.in-Err.ensures (refused_by c.in-Err.unsettled.reason) _ (rw c.from.ensures at c.refused.ensures)

pub overflow_sub-root : goal.overflow_sub-root
overflow_sub-root c = let w = c.in-Ok.ensures in some _ _ _ _ _ _ _ _ w.settles refl

pub word_at-requires : goal.word_at-requires
word_at-requires c =
    let w = c.in-Ok.ensures in
    let l = start_short _ _ _ _ _ _ _ _ w.settles refl in
    (root_there _ _ _ _ _ _ _ _ _ w refl, omega arith)

pub word_at-requires-2 : goal.word_at-requires-2
word_at-requires-2 c = (root_there _ _ _ _ _ _ _ _ _ c.in-Ok.ensures refl, search rules)

pub has-requires : goal.has-requires
has-requires c = let w = c.in-Ok.ensures in start_short _ _ _ _ _ _ _ _ w.settles refl

pub returns : goal.returns
returns c = ends_accepted _ _ _ _ _ _ _ _ c.in-Ok.ensures refl _ c.word_at.ensures _ c.word_at-2.ensures _ c.has.ensures
