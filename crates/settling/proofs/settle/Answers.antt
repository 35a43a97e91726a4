-- `settling::settle` meets its contract: a law of Refusing.antt at each return. Assumes nothing.
use Rattle.std.proofs.Common.{◌∙◌, sym, rules, arith, ◌<◌, length}
use borrow.Author.Tests.{not-true, not-false, eq-eqb, ne_eqb}
use Rattle.std.proofs.lemmas.Result.{err_from_is_err_and}
use Rattle.settling.proofs.Refusing.{of_table, count_or, past_none, past_many, has-count, has_root, root_bytes, shares_fit, wrong_sort, many_nodes, long_record, late_start, small_workspace, settled}
use Rattle.settling.proofs.settle.Goals as goal
use Rattle.settling.proofs.settle.Goals.{then-ne+in_ok-rewritten, else-ne}

pub returns-in_err-rewritten : goal.returns-in_err-rewritten
returns-in_err-rewritten c =
    let p = err_from_is_err_and c.from_residual.result c.from_residual.ensures.1 in
    rw (p.1, p.2) (of_table _ _ c.told-new _ _ _ _ c.rewrite_numbered-rewritten.ensures _ _ _ _ (not-true _ (sym c.ne.ensures ∙ c.if-ne.true)) _ c.in_err-rewritten.was)

pub bounds-b-5 : goal.bounds-b-5
bounds-b-5 c =
    let h : 5 < length c.args.b.now =
    has-count _ _ c.told-new _ _ _ _ c.rewrite_numbered-rewritten.ensures
    (elim c.if-ne.branch [
      | then-ne+in_ok-rewritten w ↦ past_none _ _ c.told-new _ _ _ _ c.rewrite_numbered-rewritten.ensures _ w.in_ok-rewritten.was
      | else-ne w ↦ past_many _ _ c.told-new _ _ _ _ c.rewrite_numbered-rewritten.ensures (not-false _ (sym c.ne.ensures ∙ w.if-ne.false))
    ]) in
    search rules

pub overflow_sub-root : goal.overflow_sub-root
overflow_sub-root c =
    has_root _ _ c.told-new _ _ _ _ c.rewrite_numbered-rewritten.ensures
    (elim c.if-ne.branch [
      | then-ne+in_ok-rewritten w ↦ past_none _ _ c.told-new _ _ _ _ c.rewrite_numbered-rewritten.ensures _ w.in_ok-rewritten.was
      | else-ne w ↦ past_many _ _ c.told-new _ _ _ _ c.rewrite_numbered-rewritten.ensures (not-false _ (sym c.ne.ensures ∙ w.if-ne.false))
    ])
    _ c.from-root.ensures

pub sort_at-requires : goal.sort_at-requires
sort_at-requires c =
    root_bytes _ _ c.told-new _ _ _ _ c.rewrite_numbered-rewritten.ensures
    (elim c.if-ne.branch [
      | then-ne+in_ok-rewritten w ↦ past_none _ _ c.told-new _ _ _ _ c.rewrite_numbered-rewritten.ensures _ w.in_ok-rewritten.was
      | else-ne w ↦ past_many _ _ c.told-new _ _ _ _ c.rewrite_numbered-rewritten.ensures (not-false _ (sym c.ne.ensures ∙ w.if-ne.false))
    ])
    _ c.from-root.ensures

pub returns-then-sort_number-wrong : goal.returns-then-sort_number-wrong
returns-then-sort_number-wrong c =
    wrong_sort _ _ c.told-new _ _ _ _ c.rewrite_numbered-rewritten.ensures
    (elim c.if-ne.branch [
      | then-ne+in_ok-rewritten w ↦ past_none _ _ c.told-new _ _ _ _ c.rewrite_numbered-rewritten.ensures _ w.in_ok-rewritten.was
      | else-ne w ↦ past_many _ _ c.told-new _ _ _ _ c.rewrite_numbered-rewritten.ensures (not-false _ (sym c.ne.ensures ∙ w.if-ne.false))
    ])
    _ _ _ _ _ _ c.from-root.ensures (c.sort_number.ensures ∙ c.sort_at.ensures) _ (count_or _ _ c.told-new _ _ _ _ c.rewrite_numbered-rewritten.ensures _ c.unwrap_or.ensures)
    (eq-eqb _ _ c.if-sort_number-wrong.true)

pub returns-in_err-m : goal.returns-in_err-m
returns-in_err-m c =
    let p = err_from_is_err_and c.from_residual-in_err-m.result c.from_residual-in_err-m.ensures.1 in
    rw (p.1, p.2)
    (many_nodes _ _ c.told-new _ _ _ _ c.rewrite_numbered-rewritten.ensures
    (elim c.if-ne.branch [
      | then-ne+in_ok-rewritten w ↦ past_none _ _ c.told-new _ _ _ _ c.rewrite_numbered-rewritten.ensures _ w.in_ok-rewritten.was
      | else-ne w ↦ past_many _ _ c.told-new _ _ _ _ c.rewrite_numbered-rewritten.ensures (not-false _ (sym c.ne.ensures ∙ w.if-ne.false))
    ])
    _ _ _ _ _ _ c.from-root.ensures (c.sort_number.ensures ∙ c.sort_at.ensures)
    (ne_eqb _ _ c.if-sort_number-wrong.false) _ c.in_err-m.was)

pub returns-then-n-gt-LONGEST : goal.returns-then-n-gt-LONGEST
returns-then-n-gt-LONGEST c =
    long_record _ _ c.told-new _ _ _ _ c.rewrite_numbered-rewritten.ensures (past_none _ _ c.told-new _ _ _ _ c.rewrite_numbered-rewritten.ensures _ c.in_ok-m.was)
    _ _ _ _ _ _ c.from-root.ensures (c.sort_number.ensures ∙ c.sort_at.ensures)
    (ne_eqb _ _ c.if-sort_number-wrong.false) _ c.in_ok-m.was c.if-n-gt-LONGEST.true

pub returns-then-n-start : goal.returns-then-n-start
returns-then-n-start c =
    late_start _ _ c.told-new _ _ _ _ c.rewrite_numbered-rewritten.ensures (past_none _ _ c.told-new _ _ _ _ c.rewrite_numbered-rewritten.ensures _ c.in_ok-m.was)
    _ _ _ _ _ _ c.from-root.ensures (c.sort_number.ensures ∙ c.sort_at.ensures)
    (ne_eqb _ _ c.if-sort_number-wrong.false) _ c.in_ok-m.was c.if-n-gt-LONGEST.false c.if-n-start.true

pub overflow_mul-m : goal.overflow_mul-m
overflow_mul-m c = omega (arith, shares_fit _ _ c.told-new _ _ _ _ c.rewrite_numbered-rewritten.ensures _ c.in_ok-m.was)

pub returns-then-words-m : goal.returns-then-words-m
returns-then-words-m c =
    small_workspace _ _ c.told-new _ _ _ _ c.rewrite_numbered-rewritten.ensures (past_none _ _ c.told-new _ _ _ _ c.rewrite_numbered-rewritten.ensures _ c.in_ok-m.was)
    _ _ _ _ _ _ c.from-root.ensures (c.sort_number.ensures ∙ c.sort_at.ensures)
    (ne_eqb _ _ c.if-sort_number-wrong.false) _ c.in_ok-m.was c.if-n-gt-LONGEST.false c.if-n-start.false c.if-words-m.true

pub returns : goal.returns
returns c =
    settled _ _ c.told-new _ _ _ _ c.rewrite_numbered-rewritten.ensures (past_none _ _ c.told-new _ _ _ _ c.rewrite_numbered-rewritten.ensures _ c.in_ok-m.was)
    _ _ _ _ _ _ c.from-root.ensures (c.sort_number.ensures ∙ c.sort_at.ensures)
    (ne_eqb _ _ c.if-sort_number-wrong.false) _ c.in_ok-m.was c.if-n-gt-LONGEST.false c.if-n-start.false c.if-words-m.false
