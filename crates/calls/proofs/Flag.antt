-- What the flag comes to, as theorems about what both judges answer on tables of versions 1 to 3: `Judges s xs d r d'` and `PlainJudges s xs r` are calls, and
-- z says that they are accepted. Assumes nothing.
use native.Mathlib.Omega.{arith}
use mathlib.Core.Path.{◌≡◌, ap}
use mathlib.Core.Bool.{Bool, true}
use mathlib.Core.Logic.{◌⊎◌, ⊎_elim}
use mathlib.Core.List.{List}
use Prim.Native.Nat.{ℕ, zero, ◌<◌}
use lib.ListN.{length}
use Rattle.telling.specs.Tells.{Tells}
use Rattle.telling.proofs.Telling.{passes, passed, is_map}
use Rattle.refusal.specs.Heading.{count}
use Rattle.meaning.specs.Syntax.{Prop, free}
use Rattle.meaning.specs.Words.{Word, word, none}
use Rattle.meaning.specs.Tested.{Tests}
use Rattle.meaning.specs.Reached.{ReachesGround, AskedImplication, Direct, Guarded}
use Rattle.meaning.specs.Pairs.{Atom, Pair, reading, pairs}
use Rattle.meaning.proofs.Theorems as Meaning
use Rattle.nodes.specs.declared.Raw.{Raw}
use Rattle.nodes.specs.declared.Node.{Node}
use Rattle.nodes.specs.Operators.{bytes_of, property_bytes, derived_property_bytes}
use Rattle.nodes.specs.Nodes.{raw_at, node_at}
use Rattle.nodes.proofs.Built.{Built}
use Rattle.nodes.proofs.Coded.{coded_as}
use Rattle.nodes.proofs.Shapes.{down}
use Rattle.table.specs.Trees.{PropertyAt, p_strong, p_weak, p_neg, p_either, p_both, p_imp, p_next, p_until, p_clock, p_implies_next, p_followed, p_followed_next, p_always, p_eventually, p_strong_until, p_strong_next, RootP}
use Rattle.judgement.specs.declared.Judgement.{Judgement}
use Rattle.calls.specs.Judges.{Judges, PlainJudges}
use Rattle.calls.specs.Taken.{Opened}
use Rattle.calls.proofs.Taking.{built}
use Rattle.calls.proofs.Carrying.{judge_opened, plain_opened}
use Rattle.calls.proofs.Demands.{tested_meant}
use Rattle.calls.proofs.PlainDemands.{plain_tested_meant}

-- neither `|->`, nexttime or until, 37 to 39, nor what is defined by one of them, 41 to 47: of the operators of properties strong, weak, not, and, or and the
-- clock are left
abbrev pub AskedAtOnce : List ℕ → Type 0
AskedAtOnce s = (k : ℕ) → k < count s → ((raw_at s k).op < 37) ⊎ ((raw_at s k).op ≡ 40)

-- the trees of such a table have none of the three
module _ (s : List ℕ) (ok : Built s) (once : AskedAtOnce s) where
  at_once : {k : ℕ} {v : Node} → k < count s → node_at s k ≡ v → ((bytes_of v).op < 37) ⊎ ((bytes_of v).op ≡ 40)
  at_once {k} {v} l e =
      let o : (raw_at s k).op ≡ (bytes_of v).op = ap (λ (r : Raw). r.op) (coded_as s k (ok.fit k l) e) in
      rw (← o) (once k l)

  direct : {k : ℕ} {P : Prop Atom} → PropertyAt (node_at s) k P → k < count s → Direct P
  unfolding Direct bytes_of property_bytes derived_property_bytes
  direct (p_strong e q) l = tt
  direct (p_weak e q) l = tt
  direct (p_neg e q) l = let f = down s _ (ok.fit _ l) e in let u = f.0 in direct q (omega arith)
  direct (p_either e q z) l = let (f, g) = down s _ (ok.fit _ l) e in let u = f.0 in let v = g.0 in (direct q (omega arith), direct z (omega arith))
  direct (p_both e q z) l = let (f, g) = down s _ (ok.fit _ l) e in let u = f.0 in let v = g.0 in (direct q (omega arith), direct z (omega arith))
  direct (p_imp e q z) l = ⊎_elim (λ h. omega arith) (λ h. omega arith) (at_once l e)
  direct (p_next e q) l = ⊎_elim (λ h. omega arith) (λ h. omega arith) (at_once l e)
  direct (p_until e q z) l = ⊎_elim (λ h. omega arith) (λ h. omega arith) (at_once l e)
  direct (p_clock e b q) l = let (_, g) = down s _ (ok.fit _ l) e in let v = g.0 in direct q (omega arith)
  direct (p_implies_next e q z) l = ⊎_elim (λ h. omega arith) (λ h. omega arith) (at_once l e)
  direct (p_followed e q z) l = ⊎_elim (λ h. omega arith) (λ h. omega arith) (at_once l e)
  direct (p_followed_next e q z) l = ⊎_elim (λ h. omega arith) (λ h. omega arith) (at_once l e)
  direct (p_always e q) l = ⊎_elim (λ h. omega arith) (λ h. omega arith) (at_once l e)
  direct (p_eventually e q) l = ⊎_elim (λ h. omega arith) (λ h. omega arith) (at_once l e)
  direct (p_strong_until e q z) l = ⊎_elim (λ h. omega arith) (λ h. omega arith) (at_once l e)
  direct (p_strong_next e q) l = ⊎_elim (λ h. omega arith) (λ h. omega arith) (at_once l e)

-- a flag that tells whether the samples test the property at the root
module _ (s xs : List ℕ) (o : Opened s) (flag : Bool) (tells : (P : Prop Atom) → RootP s P → Tells flag (Tests reading (pairs xs) P)) where
  reaches : (P : Prop Atom) → RootP s P → Tells flag (ReachesGround reading (word (pairs xs) none) free P zero)
  reaches P a =
      let w : Word Pair = word (pairs xs) none in
      is_map (tells P a) (Meaning.tested_is_reached reading w free P zero).0 (Meaning.tested_is_reached reading w free P zero).1

  asked : (P : Prop Atom) → RootP s P → Guarded P → flag ≡ true → AskedImplication reading (word (pairs xs) none) free P zero
  asked P a g t = Meaning.guarded_asked reading P g (pairs xs) ((tells P a).to (passed t))

  always : AskedAtOnce s → (P : Prop Atom) → RootP s P → flag ≡ true
  always once P a =
      let ok = built s o in
      let l = ok.some in
      passes ((tells P a).from (Meaning.direct_tested reading P (direct s ok once a (omega arith)) (pairs xs)))

module _ (s xs d : List ℕ) (r : Judgement) (d' : List ℕ) (j : Judges s xs d r d') (z : r.verdict.number ≡ 0) where
  opened : Opened s
  opened = judge_opened s r.verdict z (length xs) (length d) j.answer

  -- yes exactly if some strong or weak is reached from position 0
  pub flag_reaches : (P : Prop Atom) → RootP s P → Tells r.tested (ReachesGround reading (word (pairs xs) none) free P zero)
  flag_reaches = reaches s xs opened r.tested (tested_meant s xs d r d' j z)

  -- where a `|->` stands on each way down to strong and weak: yes only if one was reached and its left side matched from there
  pub flag_asked : (P : Prop Atom) → RootP s P → Guarded P → r.tested ≡ true → AskedImplication reading (word (pairs xs) none) free P zero
  flag_asked = asked s xs opened r.tested (tested_meant s xs d r d' j z)

  -- a table with no `|->`, no nexttime, no until, and nothing that is defined by them, is tested by every record
  pub flag_always : AskedAtOnce s → r.tested ≡ true
  flag_always once = let (P, a, _) = (j.accepted z).tested in always s xs opened r.tested (tested_meant s xs d r d' j z) once P a

-- the same of the plain judge
module _ (s xs : List ℕ) (r : Judgement) (j : PlainJudges s xs r) (z : r.verdict.number ≡ 0) where
  plain_accepted : Opened s
  plain_accepted = plain_opened s r.verdict z (length xs) j.answer

  pub plain_flag_reaches : (P : Prop Atom) → RootP s P → Tells r.tested (ReachesGround reading (word (pairs xs) none) free P zero)
  plain_flag_reaches = reaches s xs plain_accepted r.tested (plain_tested_meant s xs r j z)

  pub plain_flag_asked : (P : Prop Atom) → RootP s P → Guarded P → r.tested ≡ true → AskedImplication reading (word (pairs xs) none) free P zero
  plain_flag_asked = asked s xs plain_accepted r.tested (plain_tested_meant s xs r j z)

  pub plain_flag_always : AskedAtOnce s → r.tested ≡ true
  plain_flag_always once = let (P, a, _) = (j.accepted z).tested in always s xs plain_accepted r.tested (plain_tested_meant s xs r j z) once P a
