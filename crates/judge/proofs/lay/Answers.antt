-- `judge::lay` meets its contract: a law of Judging.antt at each goal. Assumes nothing.
use native.Mathlib.Omega.{arith}
use mathlib.Core.Path.{refl}
use Rattle.judge.proofs.Judging.{four_fit, used_fit, used_within, fits}
use Rattle.judge.proofs.lay.Goals as goal

pub overflow_mul-used : goal.overflow_mul-used
overflow_mul-used c = four_fit _ _ _ _ _ _ _ _ c.in_ok-m.ensures refl

pub overflow_add-used : goal.overflow_add-used
overflow_add-used c = used_fit _ _ _ _ _ _ _ _ c.in_ok-m.ensures refl

pub shared_ref_as_front-fill : goal.shared_ref_as_front-fill
shared_ref_as_front-fill c = let l = used_within _ _ _ _ _ _ _ _ c.in_ok-m.ensures refl in omega arith

pub fill-requires : goal.fill-requires
fill-requires c = fits _ _ _ _ _ _ _ _ c.in_ok-m.ensures refl _ _ refl refl
