-- The test of a node decides that it is well formed. Assumes nothing.
use mathlib.Core.Path.{◌≡◌}
use mathlib.Core.Bool.{Bool, true, false, cond, ◌&&◌}
use mathlib.Core.List.{List}
use Prim.Native.Nat.{ℕ, ◌/◌, ◌%◌}
use lib.Dec.{eqb, ltb}
use Rattle.telling.specs.Tells.{Tells}
use Rattle.telling.proofs.Telling.{is_map, is_and, is_imp, is_not, is_eq, is_le, is_lt}
use Rattle.refusal.specs.Heading.{version}
use Rattle.nodes.specs.Operators.{none, zero_byte, range_byte, count_byte, Fourth}
use Rattle.nodes.specs.Nodes.{raw_at, row_at, sort_at, Operand, WellFormed}
use Rattle.faults.specs.Computed.{operand_fits, fourth_fits, node_fits}

operand_tells : (s : List ℕ) (k sort limit v : ℕ) → Tells (operand_fits s k sort limit v) (Operand s k sort limit v)
unfolding operand_fits
operand_tells s k sort limit v = go (is_eq sort none)
  where
    go : {b : Bool} → Tells b (sort ≡ none) → Tells (cond b (ltb v limit) (ltb v k && eqb (sort_at s v) sort)) (Operand s k sort limit v)
    go {b = true} h =
        is_map (is_lt v limit) (λ l. record { number = λ _. l; below = λ z. absurd (z (h.to tt)); sorted = λ z. absurd (z (h.to tt)) })
        (λ o. o.number (h.to tt))
    go {b = false} h =
        is_map (is_and (is_lt v k) (is_eq (sort_at s v) sort))
        (λ q. record { number = λ z. absurd (h.from z); below = λ _. q.0; sorted = λ _. q.1 }) (λ o. (o.below h.from, o.sorted h.from))

fourth_tells : (kind v : ℕ) → Tells (fourth_fits kind v) (Fourth kind v)
unfolding fourth_fits
fourth_tells kind v =
    is_map
    (is_and (is_imp (is_eq kind zero_byte) (is_eq v 0))
    (is_and (is_imp (is_eq kind range_byte) (is_le (v % 16) (v / 16))) (is_imp (is_eq kind count_byte) (is_le v 15))))
    (λ q. record { zero = q.0; range = q.1.0; count = q.1.1 })
    (λ f. (f.zero, (f.range, f.count)))

pub fits_tells : (s : List ℕ) (k : ℕ) → Tells (node_fits s (version s) k) (WellFormed s k)
unfolding node_fits
fits_tells s k =
    is_map
    (is_and (is_not (is_eq (sort_at s k) none))
    (is_and (is_and (is_le (row_at s k).first (version s)) (is_le (version s) (row_at s k).last))
    (is_and (fourth_tells (row_at s k).fourth (raw_at s k).fourth)
    (is_and (operand_tells s k (row_at s k).x (row_at s k).limit (raw_at s k).x) (operand_tells s k (row_at s k).y 1 (raw_at s k).y)))))
    (λ q. record { known = q.0; in_version = q.1.0; x = q.1.1.1.0; y = q.1.1.1.1; fourth = q.1.1.0 })
    (λ w. (w.known, (w.in_version, (w.fourth, (w.x, w.y)))))
