-- Of an accepted table: what an answer that is meant says of the property at the root, and of a longer record. Assumes nothing.
use mathlib.Core.Path.{◌≡◌, refl, sym, subst}
use mathlib.Core.List.{List, ◌++◌}
use Prim.Native.Nat.{ℕ}
use Rattle.telling.specs.Tells.{Tells}
use Rattle.refusal.specs.Computed.{accepted}
use Rattle.meaning.specs.Syntax.{Prop, free}
use Rattle.meaning.specs.Meaning.{Level, Accepted}
use Rattle.meaning.specs.Tested.{Tests}
use Rattle.meaning.specs.Pairs.{Atom, Pair, reading, pairs}
use Rattle.meaning.proofs.Pairing.{pairs-append}
use Rattle.meaning.proofs.Theorems as Meaning
use Rattle.table.specs.Trees.{RootP}
use Rattle.table.specs.Check.{Checks}
use Rattle.table.proofs.Reading.{unique_p}
use Rattle.table.proofs.Checking.{accepted_root}
use Rattle.judgement.specs.declared.Judgement.{Judgement}
use Rattle.judgement.specs.Meant.{Meant}

module _ (s xs : List ℕ) (r : Judgement) (a : Meant s xs r) (P : Prop Atom) (d : RootP s P) where
  pub level_is : Level reading P (pairs xs) r.level.number
  level_is = let (Q, b, l) = a.level in subst (λ (P : Prop Atom). Level reading P (pairs xs) r.level.number) (unique_p b d) l

  pub tested_is : Tells r.tested (Tests reading (pairs xs) P)
  tested_is = let (Q, b, t) = a.tested in subst (λ (P : Prop Atom). Tells r.tested (Tests reading (pairs xs) P)) (unique_p b d) t

  pub no_other_level : Checks s accepted → (m : ℕ) → Level reading P (pairs xs) m → r.level.number ≡ m
  no_other_level ok m l = Meaning.level_unique reading P (accepted_root s accepted ok refl P d) (pairs xs) level_is l

-- r is answered of xs, q of xs and more samples
module _ (s xs ys : List ℕ) (ok : Checks s accepted) (r q : Judgement) (a : Meant s xs r) (b : Meant s (xs ++ ys) q) where
  -- the level of the longer record, where that of the shorter goes on to m
  goes_on_lem : {l m : ℕ} → ((P : Prop Atom) → Accepted reading free P → (zs : List Pair) → Level reading P (pairs xs) l → Level reading P (pairs xs ++ zs) m) → r.level.number ≡ l → q.level.number ≡ m
  goes_on_lem {l = l} {m = m} f e =
      let (P, d, v) = a.level in
      let (zs, more) = pairs-append xs ys in
      no_other_level s (xs ++ ys) q b P d ok m (subst (λ (ls : List Pair). Level reading P ls m) (sym more) (f P (accepted_root s accepted ok refl P d) zs (subst (Level reading P (pairs xs)) e v)))

  pub meant-held_stays : r.level.number ≡ 3 → q.level.number ≡ 3
  meant-held_stays = goes_on_lem (λ P c zs. Meaning.held_stays reading P c (pairs xs) zs)

  pub meant_broken_stays : r.level.number ≡ 0 → q.level.number ≡ 0
  meant_broken_stays = goes_on_lem (λ P c zs. Meaning.broken_stays reading P c (pairs xs) zs)
