-- What rewriting keeps, said of tables of bytes: t is the table s, rewritten. Assumes nothing.
use Rattle.std.specs.Prelude.{◌≡◌, ◌↔◌, false, List, ℕ, ◌<◌, ◌≤◌}
use Rattle.refusal.specs.Heading.{version, count}
use Rattle.refusal.specs.Computed.{accepted}
use Rattle.meaning.specs.Syntax.{Seq, Prop, free}
use Rattle.meaning.specs.Words.{Word, Tail, word}
use Rattle.meaning.specs.Meaning.{Match, Sat, Level}
use Rattle.meaning.specs.Rewriting.{rew_s, rew_p}
use Rattle.meaning.specs.Pairs.{Atom, Pair, reading}
use Rattle.table.specs.Trees.{RootS, RootP}
use Rattle.table.specs.Check.{Checks}
use Rattle.clocks.specs.Clocks.{is_clock}

pub record Keeps (s t : List ℕ) : Type 0 where
  -- t is itself accepted, where it has at most 120 nodes
  pub checks : count t ≤ 120 → Checks t accepted
  -- its version is that of s
  pub copied : version t ≡ version s
  -- it has no clock node
  pub clockless : (k : ℕ) → k < count t → is_clock t k ≡ false
  -- what the root of s stands for, the root of t stands for with the clocks rewritten away
  pub sequence : (r : Seq Atom) → RootS s r → RootS t (rew_s free r)
  pub property : (P : Prop Atom) → RootP s P → RootP t (rew_p free P)
  -- the two roots have the same matches of every word of pairs, from every start
  pub matches : (r q : Seq Atom) → RootS s r → RootS t q → (w : Word Pair) (i j : ℕ) → Match reading free r w i j ↔ Match reading free q w i j
  -- the same answer of every record with each of the three tails, from every position
  pub answers : (P Q : Prop Atom) → RootP s P → RootP t Q → (xs : List Pair) (e : Tail) (i : ℕ) → Sat reading free P (word xs e) i ↔ Sat reading free Q (word xs e) i
  -- and so the same level
  pub levels : (P Q : Prop Atom) → RootP s P → RootP t Q → (xs : List Pair) (level : ℕ) → Level reading P xs level ↔ Level reading Q xs level
