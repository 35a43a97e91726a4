-- `linetext::put_digit` meets its contract. Assumes nothing.
use Rattle.linetext.proofs.Lines.{puts_digit}
use Rattle.linetext.proofs.put_digit.Goals as goal

pub returns : goal.returns
returns c = puts_digit _ _ _ c.requires.0
