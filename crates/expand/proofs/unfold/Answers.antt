-- `expand::unfold` meets its contract. Assumes nothing.
use borrow.Author.Rules.{rules}
use native.Mathlib.Omega.{arith}
use Rattle.expand.proofs.Unfolding.{root_fits, ready, first_few, unfolds_over, unfolds}
use Rattle.expand.proofs.unfold.Goals as goal

pub put_piece-requires : goal.put_piece-requires
put_piece-requires c = (search ready, search root_fits, search first_few, omega arith, search rules)

pub returns-in_err-m : goal.returns-in_err-m
returns-in_err-m c = rw c.from_residual.ensures (unfolds_over _ _ c.requires.0 c.requires.1 c.requires.2 _ _ _ _ c.put_booleans-first.ensures _ c.in_err-m.ensures)

pub returns : goal.returns
returns c =
    unfolds _ _ c.requires.0 c.requires.1 c.requires.2 _ _ _ _ c.put_booleans-first.ensures _ _ c.in_ok-m.ensures (search rules) _ c.put_heading.ensures
