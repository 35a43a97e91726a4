-- `numbers::numbers_of` meets its contract: each node has the number that its block's last node or its operand has. Assumes nothing.
use Rattle.std.proofs.Common.{◌∙◌, sym, arith, Some}
use borrow.Author.Tests.{eq-eqb, ne_eqb}
use Rattle.nodes.specs.declared.operators.Sort.TheVariants.{Boolean}
use Rattle.nodes.specs.Sorts.{row_numbers}
use Rattle.nodes.proofs.Sorting.{same_sort}
use Rattle.numbers.proofs.Counting.{looked, few_counted, begun_none, ends, some, begun_more}
use Rattle.numbers.proofs.numbers_of.Goals as goal
use Rattle.numbers.proofs.numbers_of.Goals.{then-boolean, else-boolean, then-boolean-2, else-boolean-2, then-r-eq0, else-r-eq0}

pub loop-k-init : goal.loop-k-init
loop-k-init c = begun_none _ _ _ c.requires.counts_of.0 _ c.told-numbers

pub overflow_add-end : goal.overflow_add-end
overflow_add-end c =
    let n = looked _ _ _ _ (row_numbers c.row_of-r.result) _ c.requires.timed (omega arith) c.node_at-v.ensures c.row_of-r.ensures.row c.length_under.ensures in
    omega (
      arith,
      ends _ _ _ _ _ _ n (few_counted _ _ _ c.requires.counts_of.0 c.requires.counts_of.1) _ _ _ c.loop-k.invariant _ (c.eq-boolean.ensures ∙ same_sort c.row_of-r.result.own (Some Boolean)) c.if-boolean.start
          (elim c.if-boolean.branch [ then-boolean w ↦ rw w.if-boolean.true w.start-is | else-boolean w ↦ rw w.if-boolean.false w.start-is ]),
    )

pub overflow_sub-numbers : goal.overflow_sub-numbers
overflow_sub-numbers c =
    let n = looked _ _ _ _ (row_numbers c.row_of-r.result) _ c.requires.timed (omega arith) c.node_at-v.ensures c.row_of-r.ensures.row c.length_under.ensures in
    some _ _ _ _ _ _ n (few_counted _ _ _ c.requires.counts_of.0 c.requires.counts_of.1) _ _ _ c.loop-k.invariant _ (c.eq-boolean.ensures ∙ same_sort c.row_of-r.result.own (Some Boolean)) c.if-boolean.start
    (elim c.if-boolean.branch [ then-boolean w ↦ rw w.if-boolean.true w.start-is | else-boolean w ↦ rw w.if-boolean.false w.start-is ]) c.if-r-eq0.false

pub overflow_cast-numbers : goal.overflow_cast-numbers
overflow_cast-numbers c =
    let n = looked _ _ _ _ (row_numbers c.row_of-r.result) _ c.requires.timed (omega arith) c.node_at-v.ensures c.row_of-r.ensures.row c.length_under.ensures in
    omega (
      arith,
      ends _ _ _ _ _ _ n (few_counted _ _ _ c.requires.counts_of.0 c.requires.counts_of.1) _ _ _ c.loop-k.invariant _ (c.eq-boolean.ensures ∙ same_sort c.row_of-r.result.own (Some Boolean)) c.if-boolean.start
          (elim c.if-boolean.branch [ then-boolean w ↦ rw w.if-boolean.true w.start-is | else-boolean w ↦ rw w.if-boolean.false w.start-is ]),
    )

pub loop-k-preserved : goal.loop-k-preserved
loop-k-preserved c =
    let n = looked _ _ _ _ (row_numbers c.row_of-r.result) _ c.requires.timed (omega arith) c.node_at-v.ensures c.row_of-r.ensures.row c.length_under.ensures in
    begun_more _ _ _ _ _ _ n (few_counted _ _ _ c.requires.counts_of.0 c.requires.counts_of.1) _ _ _ c.loop-k.invariant _ (c.eq-boolean.ensures ∙ same_sort c.row_of-r.result.own (Some Boolean)) c.if-boolean.start
    (elim c.if-boolean.branch [ then-boolean w ↦ rw w.if-boolean.true w.start-is | else-boolean w ↦ rw w.if-boolean.false w.start-is ]) c.if-r-eq0.numbers
    (elim c.if-r-eq0.branch [
      | then-r-eq0 w ↦ rw (eq-eqb _ 0 w.if-r-eq0.true, sym w.named.ensures.value) w.numbers-is
      | else-r-eq0 w ↦ rw (ne_eqb _ 0 w.if-r-eq0.false) w.numbers-is
    ])
    c.if-boolean-2.first (elim c.if-boolean-2.branch [ then-boolean-2 w ↦ rw w.if-boolean-2.true w.first-is | else-boolean-2 w ↦ rw w.if-boolean-2.false w.first-is ])
    c.if-boolean-2.later (elim c.if-boolean-2.branch [ then-boolean-2 w ↦ rw w.if-boolean-2.true w.later-is | else-boolean-2 w ↦ rw w.if-boolean-2.false w.later-is ])
