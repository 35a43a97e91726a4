-- What rewriting leaves in the first 6 + 4m bytes lent, where it accepts: the table that the expansion is rewritten to, which says what s says.
-- Assumes nothing.
use mathlib.Core.Path.{◌≡◌}
use mathlib.Core.Logic.{◌↔◌}
use mathlib.Core.List.{List}
use Prim.Native.Nat.{ℕ, ◌+◌, ◌*◌}
use lib.ListN.{length, take}
use Rattle.refusal.specs.Computed.{accepted}
use Rattle.meaning.specs.Syntax.{Seq, Prop, free}
use Rattle.meaning.specs.Words.{Word, Tail, word}
use Rattle.meaning.specs.Meaning.{Match, Sat}
use Rattle.meaning.specs.Pairs.{Atom, Pair, reading}
use Rattle.table.specs.Trees.{RootS, RootP}
use Rattle.table.specs.Check.{Checks}
use Rattle.expansion.specs.Expansion.{expansion}
use Rattle.rewrite.specs.declared.Rewriting.{Rewriting}
use Rattle.rewrite.specs.Rewrites as Base
use Rattle.rewrite.specs.Keeps.{Keeps}
use Rattle.rewrite.proofs.Theorems as Rewrite
use Rattle.calls.specs.Rewrites.{Rewrites}
use Rattle.calls.specs.Taken.{Opened, expanded}
use Rattle.calls.proofs.Taking.{same_property, same_sequence}
use Rattle.calls.proofs.Carrying.{rewrite_opened, rewrite_taken}

module _ (s d : List ℕ) (r : Rewriting) (d' : List ℕ) (w : Rewrites s d r d') (z : r.verdict.number ≡ 0) where
  opened : Opened s
  opened = rewrite_opened s r.verdict z (length d) w.answer

  -- the base call on the expansion
  rewritten : Base.Rewrites (expansion s) d r d'
  rewritten = (rewrite_taken s (expansion s) (expanded opened) d r d').1 w

  abbrev output : List ℕ
  output = take (6 + 4 * r.count) d'

  pub output_keeps : Keeps (expansion s) output
  output_keeps = Rewrite.output_keeps (expansion s) d r d' rewritten z

  pub output_checks : Checks output accepted
  output_checks = Rewrite.output_checks (expansion s) d r d' rewritten z

  -- the matches and the three answers are those of the root of s
  pub output_matches : (q p : Seq Atom) → RootS s q → RootS output p → (v : Word Pair) (i j : ℕ) → Match reading free q v i j ↔ Match reading free p v i j
  output_matches q p a b = output_keeps.matches q p ((same_sequence s opened q).0 a) b

  pub output_answers : (P Q : Prop Atom) → RootP s P → RootP output Q → (xs : List Pair) (t : Tail) (i : ℕ) → Sat reading free P (word xs t) i ↔ Sat reading free Q (word xs t) i
  output_answers P Q a b = output_keeps.answers P Q ((same_property s opened P).0 a) b
