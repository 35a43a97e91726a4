-- What tests until, from sets that are known by their places. Assumes nothing.
use mathlib.Core.Path.{ap₂, ◌∙◌, fun_ext}
use mathlib.Core.Bool.{false, not, ◌||◌, ◌&&◌}
use Prim.Native.Nat.{ℕ}
use Rattle.positions.specs.Member.{has, Is}
use Rattle.ticking.specs.Ticks.{tick_run}

pub until_tested_lem : (t n p q x y h e r : ℕ) → Is h (λ k. has p k && not (has q k)) → Is e (λ k. has x k || has y k) → Is r (tick_run (has t) n false (has h) (has e))
    → Is r (tick_run (has t) n false (λ k. has p k && not (has q k)) (λ k. has x k || has y k))
until_tested_lem t n p q x y h e r eh ee er k = er k ∙ ap₂ (λ f g. tick_run (has t) n false f g k) (fun_ext eh) (fun_ext ee)
