-- `firsts::put_booleans` meets its contract. Assumes nothing.
use borrow.Author.Rules.{rules}
use native.Mathlib.Omega.{arith}
use Rattle.firsts.proofs.Passing.{no_firsts, room, stored, more_firsts}
use Rattle.firsts.proofs.put_booleans.Goals as goal

pub loop-k-init : goal.loop-k-init
loop-k-init c = no_firsts _ _ _ (search rules)

pub overflow_cast-numbers : goal.overflow_cast-numbers
overflow_cast-numbers c = let r = room _ _ _ _ _ _ c.loop-k.invariant _ c.loop-k-test.true c.requires.0.few in omega arith

pub put_given-at-requires : goal.put_given-at-requires
put_given-at-requires c =
    let f = c.requires.0 in
    let l = f.few in
    let m = f.long in
    (f.fit _ c.loop-k-test.true, omega arith, search stored, omega arith, search room, search rules)

pub loop-k-preserved : goal.loop-k-preserved
loop-k-preserved c = search more_firsts
