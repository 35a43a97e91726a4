-- The words below start i are made, and the starts below i with no tick from there on are known.
use Rattle.ticking.proofs.LetterWords.{Lettered}
use Rattle.ticking.proofs.letters.letter_row.Given as goal

abbrev pub invariant-loop-i : goal.invariant-loop-i
invariant-loop-i l = Lettered l.b.bits l.ticks.bits l.i l.tops.bits l.out
