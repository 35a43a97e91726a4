-- Runs of ticks, from sets that are known by their places. Assumes nothing.
use mathlib.Core.Path.{ap, ap₂, ◌∙◌, fun_ext}
use mathlib.Core.Bool.{Bool, ◌||◌, ◌&&◌}
use Prim.Native.Nat.{ℕ}
use Rattle.positions.specs.Member.{has, Is}
use Rattle.cells.specs.Bits.{until_bit}
use Rattle.ticking.specs.Ticks.{idle, tick_run}

pub run_made : (t n : ℕ) (last : Bool) (h g i a b r : ℕ) → Is i (idle (has t) n) → Is a (λ k. has h k || has i k) → Is b (λ k. has g k && has t k)
    → Is r (until_bit (has a) (has b) last n) → Is r (tick_run (has t) n last (has h) (has g))
unfolding tick_run
run_made t n last h g i a b r ei ea eb e k =
    e k ∙ ap₂ (λ f g. until_bit f g last n k) (fun_ext (λ k. ea k ∙ ap (λ z. has h k || z) (ei k))) (fun_ext eb)
