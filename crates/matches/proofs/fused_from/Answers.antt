-- `matches::fused_from`: by the last letters of the one and the words of the other.
use Rattle.cells.specs.Bits.{longer}
use Rattle.matches.proofs.Walking.{reached_as, reached_by, meets_as}
use Rattle.matches.proofs.fused_from.Goals as goal

pub returns : goal.returns
returns c = record {
  ends = reached_as _ _ _ (reached_by _ c.args.second.now (longer c.args.rows.now c.args.b) _ _ c.ends_from.ensures c.requires.second_taken) c.last_letters-shared.ensures;
  on = meets_as _ _ _ _ _ c.meets.ensures c.last_letters-shared.ensures c.word_at.ensures;
}
