-- `table::check_nodes` meets its contract: each exit is the first of its tests that stops. Assumes nothing.
use mathlib.Core.Path.{◌≡◌, ◌∙◌, ap}
use Prim.Native.Nat.{ℕ}
use lib.Dec.{eqb}
use Rattle.std.specs.Option.{option_eq}
use Rattle.std.proofs.Common.{Option, Some}
use Rattle.nodes.specs.declared.operators.Sort.{Sort}
use Rattle.nodes.specs.declared.operators.Sort.TheVariants.{Boolean}
use Rattle.nodes.specs.contracts.operators.SortPartialEq.TheImpl.{eq-value}
use Rattle.nodes.specs.Operators.{boolean}
use Rattle.nodes.specs.Sorts.{sort_number}
use Rattle.nodes.proofs.Sorting.{same_sort}
use Rattle.table.proofs.Answering.{unfit_node, astray_node, boolean_root, hollow_node, sound_nodes}
use Rattle.table.proofs.check_nodes.Goals as goal

-- the root's sort o, as the code compares it
root_sort : (o : Option Sort) (m : ℕ) → sort_number o ≡ m → option_eq eq-value.it o (Some Boolean) ≡ eqb m boolean
root_sort o m e = same_sort o (Some Boolean) ∙ ap (λ (k : ℕ). eqb k boolean) e

pub returns-in-Some : goal.returns-in-Some
returns-in-Some c = unfit_node _ _ _ c.in-Some.ensures

pub returns-in-Some-first_astray : goal.returns-in-Some-first_astray
returns-in-Some-first_astray c = astray_node _ _ c.in_default.ensures _ c.in-Some-first_astray.ensures

pub returns-then-eq : goal.returns-then-eq
returns-then-eq c =
    boolean_root _ _ c.in_default.ensures c.in_default-first_astray.ensures _
    (c.eq.ensures ∙ root_sort c.sort_at.result _ c.sort_at.ensures) c.if-eq.true

pub returns-in-Some-first_hollow : goal.returns-in-Some-first_hollow
returns-in-Some-first_hollow c =
    hollow_node _ _ c.in_default.ensures c.in_default-first_astray.ensures _
    (c.eq.ensures ∙ root_sort c.sort_at.result _ c.sort_at.ensures) c.if-eq.false _ c.in-Some-first_hollow.ensures

pub returns : goal.returns
returns c =
    sound_nodes _ _ c.in_default.ensures c.in_default-first_astray.ensures _
    (c.eq.ensures ∙ root_sort c.sort_at.result _ c.sort_at.ensures) c.if-eq.false c.in_default-first_hollow.ensures
