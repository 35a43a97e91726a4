-- `ticking::letters::letter_ends` meets its contract. Assumes nothing.
use borrow.Author.Rules.{rules}
use Rattle.ticking.proofs.LetterWords.{letter_found, letter_lost}
use Rattle.ticking.proofs.letters.letter_ends.Goals as goal

pub returns-then-k-lt63 : goal.returns-then-k-lt63
returns-then-k-lt63 c = search (letter_found, rules)

pub returns-else-k-lt63 : goal.returns-else-k-lt63
returns-else-k-lt63 c = search (letter_lost, rules)
