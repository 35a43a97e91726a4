-- Runs of places that lead up to a place, and the doubling that finds them. Assumes nothing.
use Rattle.std.specs.Prelude.{Bool, ◌||◌, ◌&&◌, ℕ, ◌+◌, ◌-◌}
use Rattle.telling.specs.Tells.{some, every}
use Rattle.positions.specs.Member.{has, Is}
use Rattle.runs.specs.declared.Led.{Led}

-- some place of Q at a distance below 64 from i, with P from i up to it
unfoldable pub leads_up : (ℕ → Bool) → (ℕ → Bool) → ℕ → Bool
leads_up P Q i = some (λ j. Q j && every P i (j - i)) i 64

-- the places from which a run, possibly of none, leads up to a place of l
abbrev pub led : Led → ℕ → Bool
led l = leads_up (has l.runs.bits) (has l.out.bits)

-- runs of twice the length d
pub record Further (l : Led) (d : ℕ) (r : Led) : Type 0 where
  pub runs : Is r.runs.bits (λ k. has l.runs.bits k && has l.runs.bits (d + k))
  pub out : Is r.out.bits (λ k. has l.out.bits k || (has l.runs.bits k && has l.out.bits (d + k)))
