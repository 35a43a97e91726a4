-- `firsts::given` meets its contract: of what is past the arms, the operators 27 to 42 without 41. Assumes nothing.
use borrow.Author.Rules.{rules}
use native.Mathlib.Omega.{arith}
use Rattle.firsts.proofs.Arms.{no_arm}
use Rattle.firsts.proofs.given.Goals as goal

pub returns-in_default-3 : goal.returns-in_default-3
returns-in_default-3 c = no_arm _ c.requires (omega arith) (λ l. omega arith) (search rules) (λ l. omega arith)
