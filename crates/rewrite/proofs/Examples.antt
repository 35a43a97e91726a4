-- The page's example: the definitions give @(c) strong(a) its twelve nodes. Assumes nothing.
use native.Mathlib.Omega.{arith}
use borrow.Author.Tests.{ne_eqb}
use mathlib.Core.Path.{◌≡◌, refl, ◌∙◌, ap}
use mathlib.Core.Bool.{cond, ◌||◌}
use mathlib.Core.List.{List, [], ◌∷◌}
use Prim.Native.Nat.{ℕ, zero, suc}
use lib.Dec.{eqb}
use Rattle.refusal.specs.Computed.{accepted, first_of, first_case, heading_cases, is_marked}
use Rattle.nodes.specs.Operators.{operators, lookup, row_of, node_of, bytes_of, boolean_bytes, sequence_bytes, property_bytes}
use Rattle.nodes.specs.Nodes.{sort_at, hits_of, uses_of}
use Rattle.nodes.specs.NodeClock.{Ref, free_r, on_r, at_x, at_y, c_root, c_part}
use Rattle.hollows.specs.Flags.{sequence_tops, node_tops, tops_below, hollow_property, hollow_node, hollow}
use Rattle.table.specs.Check.{Checks}
use Rattle.faults.specs.Computed.{operand_fits, fourth_fits, node_fits, astray}
use Rattle.table.specs.Computed.{node_cases, later_cases, checked}
use Rattle.nodes.proofs.Built.{Built}
use Rattle.table.proofs.Checking.{checks, sound}
use Rattle.nodes.proofs.Clocking.{clock-inside}
use Rattle.clocks.specs.Clocks.{from_above, none_above, Clocks, is_clock}
use Rattle.clocks.proofs.Timing.{clocked_sort, clocks_unique}
use Rattle.numbers.specs.Numbers.{sum, is_boolean, length_under, start_of, number_in, number_of}
use Rattle.encoding.specs.Moved.{moved, moved_node}
use Rattle.blocks.specs.Blocks.{under_block, moved_block, block_under}
use Rattle.encoding.specs.Encoding.{encoded}
use Rattle.writing.specs.Tables.{laid, new_table}

abbrev table : ℕ → List ℕ → List ℕ
table n nodes = 0x53 ∷ 0x56 ∷ 0x54 ∷ 1 ∷ 0 ∷ n ∷ nodes

-- @(c) strong(a)
abbrev clocked : List ℕ
clocked =
    table 5
    (1 ∷ 0 ∷ 0 ∷ 0
    ∷ 1 ∷ 2 ∷ 0 ∷ 0
    ∷ 16 ∷ 0 ∷ 0 ∷ 0
    ∷ 32 ∷ 2 ∷ 0 ∷ 0
    ∷ 40 ∷ 1 ∷ 3 ∷ 0
    ∷ [])

abbrev twelve : List ℕ
twelve =
    table 12
    (1 ∷ 0 ∷ 0 ∷ 0
    ∷ 1 ∷ 2 ∷ 0 ∷ 0
    ∷ 2 ∷ 1 ∷ 0 ∷ 0
    ∷ 3 ∷ 1 ∷ 0 ∷ 0
    ∷ 16 ∷ 2 ∷ 0 ∷ 0
    ∷ 20 ∷ 4 ∷ 0 ∷ 0
    ∷ 16 ∷ 2 ∷ 0 ∷ 0
    ∷ 21 ∷ 6 ∷ 0 ∷ 0
    ∷ 19 ∷ 5 ∷ 7 ∷ 0
    ∷ 16 ∷ 3 ∷ 0 ∷ 0
    ∷ 17 ∷ 8 ∷ 9 ∷ 0
    ∷ 32 ∷ 10 ∷ 0 ∷ 0
    ∷ [])

-- the letter and strong have the clock c, which is node 1
abbrev clock_c : ℕ → Ref
clock_c k = cond (eqb k 2 || eqb k 3) (on_r 1) free_r

is_accepted : Checks clocked accepted
unfolding checked later_cases node_cases operand_fits fourth_fits node_fits astray hollow hollow_node hollow_property tops_below node_tops sequence_tops sort_at hits_of uses_of row_of node_of lookup operators first_of first_case heading_cases is_marked
is_accepted = checks clocked accepted refl

computed : new_table clocked clock_c ≡ twelve
unfolding sum is_boolean is_clock length_under start_of number_in number_of moved moved_node moved_block under_block block_under encoded laid new_table sort_at row_of lookup operators bytes_of boolean_bytes sequence_bytes property_bytes
computed = refl

built : Built clocked
built = (sound clocked accepted is_accepted refl).formed

-- each node has the clock that its number says
right : Clocks clocked clock_c
unfolding row_of lookup operators node_of sort_at
right zero = none_above (λ ρ c. let l = clocked_sort clocked built c in omega arith)
right (suc zero) = none_above (λ ρ c. let l = clocked_sort clocked built c in omega arith)
right (suc (suc zero)) = from_above (c_part (c_part c_root (at_y (omega arith) refl)) (at_x (omega arith) refl))
right (suc (suc (suc zero))) = from_above (c_part c_root (at_y (omega arith) refl))
right (suc (suc (suc (suc zero)))) = from_above c_root
right (suc (suc (suc (suc (suc k))))) =
    let n = suc (suc (suc (suc (suc k)))) in
    rw (ne_eqb n 2 (λ e. omega arith), ne_eqb n 3 (λ e. omega arith)) (none_above (λ ρ c. let l = clock-inside clocked built c in omega arith))

pub page_example : (clock : ℕ → Ref) → Clocks clocked clock → new_table clocked clock ≡ twelve
page_example clock h = ap (new_table clocked) (clocks_unique clocked built clock clock_c h right) ∙ computed
