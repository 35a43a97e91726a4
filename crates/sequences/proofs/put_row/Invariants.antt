-- The words from start i on are made, and it is known from which of them a match goes on into the letters ⊤.
use Prim.Native.Nat.{◌+◌}
use Rattle.sequences.proofs.Making.{Down}
use Rattle.sequences.proofs.put_row.Given as goal

abbrev pub invariant-loop-i : goal.invariant-loop-i
invariant-loop-i g l = Down l.rows l.initial.own l.n l.op (l.i + 1) l.tops.bits l.own
