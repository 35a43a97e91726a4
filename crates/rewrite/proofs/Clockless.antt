-- A table that has no clock node: no node of it has a clock, and rewriting keeps its count. Assumes nothing.
use native.Mathlib.Omega.{arith}
use borrow.Author.Tests.{eqb-false}
use mathlib.Core.Path.{◌≡◌, refl, ◌∙◌, ap}
use mathlib.Core.Bool.{false}
use mathlib.Core.List.{List}
use Prim.Native.Nat.{ℕ, zero, suc, ◌<◌, min}
use Rattle.refusal.specs.Heading.{count}
use Rattle.nodes.specs.Nodes.{row_at}
use Rattle.nodes.specs.NodeClock.{Ref, free_r, ClockOf, c_root, c_part}
use Rattle.nodes.proofs.Built.{Built}
use Rattle.nodes.proofs.Clocking.{clock-inside}
use Rattle.clocks.specs.Clocks.{ClockIs, from_above, none_above, Clocks, is_clock}
use Rattle.clocks.proofs.Timing.{handed_by_row}
use Rattle.numbers.specs.Numbers.{sum, length_under, length_of, new_count}
use Rattle.numbers.proofs.Sums.{sum_same}

ones : (n : ℕ) → sum (λ k. 1) n ≡ n
unfolding sum
ones zero = refl
ones (suc n) = let e = ones n in omega arith

module _ (s : List ℕ) (ok : Built s) (plain : (k : ℕ) → k < count s → is_clock s k ≡ false) where
  free_above : {k : ℕ} {ρ : Ref} → ClockOf s k ρ → ρ ≡ free_r
  free_above c_root = refl
  free_above (c_part {p = p} {ρ = ρ} c a) =
      let h = clock-inside s ok c in
      handed_by_row s p (ok.fit p h) ρ ∙ rw (plain p h) (free_above c)

  free_is : {k : ℕ} {ρ : Ref} → ClockIs s k ρ → ρ ≡ free_r
  free_is (from_above c) = free_above c
  free_is (none_above n) = refl

  pub same_count : (clock : ℕ → Ref) → Clocks s clock → new_count s clock ≡ count s
  unfolding length_under is_clock
  same_count clock right = sum_same (length_of s clock) (λ k. 1) (count s) each ∙ ones (count s)
    where
      one : (block : ℕ) → ¬ (block ≡ 0) → min block 1 ≡ 1
      one block z = omega arith

      each : (k : ℕ) → k < count s → length_of s clock k ≡ 1
      each k h = ap (λ (ρ : Ref). length_under ρ (row_at s k).block) (free_is (right k)) ∙ one (row_at s k).block (eqb-false (row_at s k).block 0 (plain k h))
