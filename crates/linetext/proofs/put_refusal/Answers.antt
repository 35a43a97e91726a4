-- `linetext::put_refusal` meets its contract. Assumes nothing.
use Rattle.linetext.proofs.Lines.{puts_refusal}
use Rattle.linetext.proofs.put_refusal.Goals as goal

pub returns : goal.returns
returns c = search puts_refusal
