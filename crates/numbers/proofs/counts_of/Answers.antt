-- `numbers::counts_of` meets its contract: the counts are those of the nodes below k. Assumes nothing.
use Rattle.std.proofs.Common.{◌∙◌, refl, arith, Some}
use Rattle.nodes.specs.declared.operators.Sort.TheVariants.{Boolean}
use Rattle.nodes.specs.Sorts.{row_numbers}
use Rattle.nodes.proofs.Sorting.{same_sort}
use Rattle.numbers.specs.Numbers.{sum}
use Rattle.numbers.proofs.Counting.{looked, all_fits, booleans_fit, summed_more, summed_all}
use Rattle.numbers.proofs.counts_of.Goals as goal
use Rattle.numbers.proofs.counts_of.Goals.{then-eq, else-eq}

pub loop-k-init : goal.loop-k-init
unfolding sum
loop-k-init c = record { booleans = refl; all = refl }

pub overflow_add-booleans : goal.overflow_add-booleans
overflow_add-booleans c =
    let n = looked _ _ _ _ (row_numbers c.row_of-r.result) _ c.requires (omega arith) c.node_at-v.ensures c.row_of-r.ensures.row c.length_under-long.ensures in
    omega (arith, booleans_fit _ _ _ _ _ _ n _ _ c.loop-k.invariant)

pub overflow_add-all : goal.overflow_add-all
overflow_add-all c =
    let n = looked _ _ _ _ (row_numbers c.row_of-r.result) _ c.requires (omega arith) c.node_at-v.ensures c.row_of-r.ensures.row c.length_under-long.ensures in
    omega (arith, all_fits _ _ _ _ _ _ n _ _ c.loop-k.invariant)

pub loop-k-preserved : goal.loop-k-preserved
loop-k-preserved c =
    let n = looked _ _ _ _ (row_numbers c.row_of-r.result) _ c.requires (omega arith) c.node_at-v.ensures c.row_of-r.ensures.row c.length_under-long.ensures in
    summed_more _ _ _ _ _ _ n _ _ c.loop-k.invariant _ (c.eq.ensures ∙ same_sort c.row_of-r.result.own (Some Boolean)) _
    (elim c.if-eq.branch [ then-eq w ↦ rw w.if-eq.true w.booleans-is | else-eq w ↦ rw w.if-eq.false w.booleans-is ])

pub returns : goal.returns
returns c =
    let all = summed_all _ _ c.loop-k.k (omega arith) _ _ c.loop-k.invariant in
    record { counts_of = all.0; bounds = all.1 }
