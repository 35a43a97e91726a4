-- `properties::following` meets its contract: start i is asked, for each of the three sets. Assumes nothing.
use native.Mathlib.Omega.{arith}
use Prim.Native.Nat.{◌+◌}
use borrow.Author.Rules.{rules}
use Rattle.properties.proofs.Implying.{Asked, followed_more, asked_none, asked_all}
use Rattle.properties.proofs.following.Goals as goal
use Rattle.properties.proofs.following.Goals.{After-zip_with-out}

pub loop-i-init : goal.loop-i-init
loop-i-init c = asked_none _ _ _ _ c.none-out.ensures

-- one more is asked
asked : (c : After-zip_with-out) → Asked c.args.rows.now c.args.a (c.loop-i.i-counter + 1) c.args.p c.zip_with-out.result
asked c =
    let u = c.loop-i.invariant in
    let last = c.last_letters-last.ensures in
    record {
      neutral = followed_more _ _ _ _ _ _ _ u.neutral last (search rules);
      weak = followed_more _ _ _ _ _ _ _ u.weak last (search rules);
      strong = followed_more _ _ _ _ _ _ _ u.strong last (search rules);
    }

pub loop-i-preserved : goal.loop-i-preserved
loop-i-preserved c = asked (goal.at.loop-i-preserved c).After-zip_with-out

pub returns-2 : goal.returns-2
returns-2 c = asked_all _ _ _ _ _ _ (omega arith) (asked (goal.at.returns-2 c).After-zip_with-out)
