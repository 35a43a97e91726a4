-- `matches::ends_along`: one turn takes out the lowest place; what is left is covered where the walk stops.
use Rattle.std.proofs.Common.{arith, refl}
use Rattle.matches.proofs.Covering.{some_left, going_at, going_turn, going_end}
use Rattle.matches.proofs.ends_along.Goals as goal

pub bounds-words-m : goal.bounds-words-m
bounds-words-m c =
    let at = going_at _ _ _ _ _ _ (omega arith) (some_left _ _ _ c.within.ensures c.loop-left-test.true) c.lowest-m.ensures c.loop-left.invariant in
    omega (arith, at.0)

pub rest-left-requires : goal.rest-left-requires
rest-left-requires c = omega (arith, some_left _ _ _ c.within.ensures c.loop-left-test.true)

pub loop-left-preserved : goal.loop-left-preserved
loop-left-preserved c =
    going_turn _ _ _ _ _ _ (omega arith) (some_left _ _ _ c.within.ensures c.loop-left-test.true) c.lowest-m.ensures c.loop-left.invariant _ _ _ (λ k. refl)
    c.joined-out.ensures (c.rest-left.ensures.without_lowest _ c.lowest-m.ensures)

pub returns : goal.returns
returns c =
    going_end _ _ _ _ _ _ c.cut-left.ensures c.loop-left.invariant _ _ _ (omega arith) c.requires.chains c.only_if.ensures c.within.ensures
    c.loop-left-test.false
