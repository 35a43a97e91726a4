-- The words below m are taken.
use Rattle.std.proofs.Common.{ℕ, ◌<◌, get_or}
use Rattle.positions.specs.Member.{Is}
use Rattle.cells.specs.Bits.{longer}
use Rattle.matches.proofs.longer_words.Given as goal

abbrev pub invariant-loop-m : goal.invariant-loop-m
invariant-loop-m l = (k : ℕ) → k < l.m → Is (get_or l.word-items k 0) (longer l.rows l.b k)
