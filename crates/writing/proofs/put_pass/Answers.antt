-- `writing::put_pass` meets its contract: what the nodes below k give is put. Assumes nothing.
use Rattle.std.proofs.Common.{◌∙◌, arith, Some}
use Rattle.nodes.specs.declared.operators.Sort.TheVariants.{Boolean}
use Rattle.nodes.proofs.Sorting.{same_sort}
use Rattle.writing.proofs.Turns.{passed_none, block_fits, passed_over, passed_by}
use Rattle.writing.proofs.put_pass.Goals as goal
use Rattle.writing.proofs.put_pass.Goals.{then-boolean-booleans, else-boolean-booleans}

pub loop-k-init : goal.loop-k-init
loop-k-init c = passed_none _ _ _ _ _

pub put_block-at-requires-clause-block_fits : goal.put_block-at-requires-clause-block_fits
put_block-at-requires-clause-block_fits c =
    block_fits _ _ _ _ _ c.requires.begins.0 c.requires.begins.1 _ (omega arith) _ _ c.loop-k.invariant _ c.sort_at.ensures _ (c.eq-boolean.ensures ∙ same_sort c.sort_at.result (Some Boolean)) c.if-boolean-booleans.true c.loop-k.auto.out

pub loop-k-preserved : goal.loop-k-preserved
loop-k-preserved c =
    elim c.if-boolean-booleans.branch [
      | then-boolean-booleans w ↦
          passed_by _ _ _ _ _ c.requires.begins.0 c.requires.begins.1 _ (omega arith) _ _ c.loop-k.invariant _ c.sort_at.ensures _ (c.eq-boolean.ensures ∙ same_sort c.sort_at.result (Some Boolean))
          c.requires.numbered.timed w.if-boolean-booleans.true _ (w.at-is ∙ w.put_block-at.ensures.value) _ (w.out-is ∙ w.put_block-at.ensures.out_after)
      | else-boolean-booleans w ↦
          rw (w.at-is, w.out-is) (passed_over _ _ _ _ _ c.requires.begins.0 c.requires.begins.1 _ (omega arith) _ _ c.loop-k.invariant _ c.sort_at.ensures _ (c.eq-boolean.ensures ∙ same_sort c.sort_at.result (Some Boolean)) w.if-boolean-booleans.false)
    ]
