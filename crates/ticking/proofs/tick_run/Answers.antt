-- `ticking::tick_run` meets its contract: a run of places that are in H or no ticks leads up to a tick of G, or to n. Assumes nothing.
use Rattle.ticking.proofs.Turning.{run_made}
use Rattle.properties.proofs.UntilRuns.{until_made}
use Rattle.ticking.proofs.tick_run.Goals as goal

pub returns : goal.returns
returns c =
    run_made _ _ _ _ _ _ _ _ _ c.others.ensures c.joined-before.ensures c.common.ensures
    (until_made _ _ _ _ _ _ c.args.span.short c.begun.ensures c.lead.ensures)
