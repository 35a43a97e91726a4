-- `matches::repeat_from`: a word follows from the words above it.
use Rattle.matches.proofs.Walking.{meets_as}
use Rattle.matches.proofs.Repeats.{repeat_ends, repeat_chains}
use Rattle.matches.proofs.repeat_from.Goals as goal

pub ends_along-requires-clause-chains : goal.ends_along-requires-clause-chains
ends_along-requires-clause-chains c =
    λ e. repeat_chains c.args.rows.now c.args.own.now _ c.args.a c.args.i _ _ (c.requires.forward e) c.after.ensures c.requires.own_made

pub returns : goal.returns
returns c =
    let ends =
    repeat_ends c.args.rows.now c.args.own.now c.args.span.n c.args.a c.args.i _ _ _ _ c.word_at-first.ensures c.after.ensures c.ends_along.ensures
    c.joined-ends.ensures c.requires.own_made in
    record { ends = ends; on = meets_as _ _ _ _ _ c.meets.ensures ends c.word_at.ensures }
