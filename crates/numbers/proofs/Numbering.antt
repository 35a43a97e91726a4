-- Laws of the new numbers: how long a block may be, where it stands, and which node stands for a node. Assumes nothing.
use native.Mathlib.Omega.{arith}
use native.Mathlib.Nat.{not-suc-le-zero}
use mathlib.Core.Path.{◌≡◌, refl}
use mathlib.Core.Bool.{Bool, true, false, cond}
use mathlib.Core.List.{List}
use Prim.Native.Nat.{ℕ, zero, suc, ◌+◌, ◌*◌, ◌-◌, ◌<◌, ◌≤◌}
use lib.Dec.{leb}
use Rattle.telling.proofs.Telling.{is_le}
use Rattle.refusal.specs.Heading.{count}
use Rattle.nodes.specs.Operators.{operators, row_of}
use Rattle.nodes.specs.Nodes.{raw_at, row_at, WellFormed}
use Rattle.nodes.specs.NodeClock.{Ref, free_r, on_r}
use Rattle.nodes.proofs.Lookup.{row_passes}
use Rattle.clocks.specs.Clocks.{is_clock}
use Rattle.clocks.proofs.Timing.{operand_below}
use Rattle.numbers.specs.Numbers.{sum, is_boolean, is_other, length_under, length_of, new_count, taken, start_of, number_in, number_of}
use Rattle.numbers.proofs.Sums.{sum_in, sum_bound, sum_split}

-- ---- block lengths

block_short : (op : ℕ) → (row_of op).block ≤ 14
unfolding operators
block_short op = (is_le (row_of op).block 14).to (row_passes (λ r. leb r.block 14) tt tt op)

under_short : (ρ : Ref) (b c : ℕ) → 1 ≤ c → b ≤ c → length_under ρ b ≤ c
unfolding length_under
under_short free_r b c l h = omega arith
under_short (on_r d) b c l h = h

pub some_under : (ρ : Ref) (b : ℕ) → (b ≡ 0 → ⊥) → 1 ≤ length_under ρ b
unfolding length_under
some_under free_r b h = omega arith
some_under (on_r c) b h = omega arith

pub none_under : (ρ : Ref) (b : ℕ) → b ≡ 0 → length_under ρ b ≡ 0
unfolding length_under
none_under free_r b e = rw e
none_under (on_r c) b e = e

-- ---- where the blocks stand

module _ (s : List ℕ) (clock : ℕ → Ref) where
  length_short : (k : ℕ) → length_of s clock k ≤ 14
  length_short k = under_short (clock k) (row_at s k).block 14 (omega arith) (block_short (raw_at s k).op)

  -- at most 14 new nodes a node
  pub count_bound : new_count s clock ≤ 14 * count s
  count_bound = sum_bound (length_of s clock) 14 (count s) (λ k l. length_short k)

  pub count_split : (k : ℕ) → sum (length_of s clock) k ≡ taken s clock (is_boolean s) k + taken s clock (is_other s) k
  count_split k = sum_split (length_of s clock) (is_boolean s) k

  -- a block lies among the new nodes
  pub start_fits : (k : ℕ) → k < count s → start_of s clock k + length_of s clock k ≤ new_count s clock
  unfolding start_of
  start_fits k h = let e = count_split (count s) in go (is_boolean s k) refl
    where
      go : (b : Bool) → is_boolean s k ≡ b → cond b (taken s clock (is_boolean s) k) (taken s clock (is_boolean s) (count s) + taken s clock (is_other s) k) + length_of s clock k ≤ new_count s clock
      go true q = let e = count_split (count s) in let l = rw q at (sum_in (λ j. cond (is_boolean s j) (length_of s clock j) 0) k (count s) h) in omega arith
      go false q = let e = count_split (count s) in let l = rw q at (sum_in (λ j. cond (is_other s j) (length_of s clock j) 0) k (count s) h) in omega arith

  module _ (fit : (k : ℕ) → k < count s → WellFormed s k) where
    -- ---- the number that stands for a node

    -- steps down enough, and more than enough
    steady : (f g k : ℕ) → k < f → k < g → k < count s → number_in s clock f k ≡ number_in s clock g k
    unfolding number_in
    steady zero g k l m h = absurd (not-suc-le-zero l)
    steady (suc f) zero k l m h = absurd (not-suc-le-zero m)
    steady (suc f) (suc g) k l m h = go (λ x. steady f g x) (is_clock s k) refl
      where
        go : ((x : ℕ) → x < f → x < g → x < count s → number_in s clock f x ≡ number_in s clock g x) → (b : Bool) → is_clock s k ≡ b
            → cond b (number_in s clock f (raw_at s k).y) (start_of s clock k + length_of s clock k - 1) ≡ cond b (number_in s clock g (raw_at s k).y) (start_of s clock k + length_of s clock k - 1)
        go ih true q = let u = operand_below s k (fit k h) q in ih (raw_at s k).y (omega arith) (omega arith) (omega arith)
        go ih false q = refl

    module _ (k : ℕ) (h : k < count s) where
      -- the last node of its block
      pub stands_last : is_clock s k ≡ false → number_of s clock k ≡ start_of s clock k + length_of s clock k - 1
      unfolding number_of number_in
      stands_last e = rw e

      -- a clock node's operand stands for it
      pub stands_operand : is_clock s k ≡ true → number_of s clock k ≡ number_of s clock (raw_at s k).y
      unfolding number_of number_in
      stands_operand e = let u = operand_below s k (fit k h) e in rw e (steady k (suc (raw_at s k).y) (raw_at s k).y u (omega arith) (omega arith))
