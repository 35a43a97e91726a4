-- What checking says of a table with base operators alone, for the engines, which read it as it stands: the theorems at versions 1 to `base`.
-- Assumes nothing.
use native.Mathlib.Omega.{arith}
use mathlib.Core.Path.{◌≡◌, refl, ap, subst}
use mathlib.Core.Logic.{◌⊎◌, ⊎_elim}
use mathlib.Core.List.{List}
use Prim.Native.Nat.{ℕ, ◌≤◌}
use lib.ListN.{length, take}
use Rattle.refusal.specs.declared.Verdict.{Verdict}
use Rattle.refusal.specs.Heading.{version, count, mark, Known}
use Rattle.refusal.specs.First.{NotGiven}
use Rattle.refusal.specs.Computed.{accepted}
use Rattle.refusal.proofs.Deciding.{Decides}
use Rattle.refusal.proofs.Given.{Other}
use Rattle.refusal.proofs.Unique.{Singles}
use Rattle.meaning.specs.Syntax.{Seq, Prop, free}
use Rattle.meaning.specs.Meaning.{Accepted}
use Rattle.meaning.specs.Pairs.{Atom, reading}
use Rattle.nodes.specs.Operators.{base}
use Rattle.nodes.specs.Nodes.{node_at, root}
use Rattle.nodes.proofs.Built.{Built, root_in}
use Rattle.table.specs.Trees.{SequenceAt, PropertyAt, RootS, RootP}
use Rattle.table.specs.Check.{refusals, ChecksTo, Checks}
use Rattle.table.specs.Computed.{cases, checked, checked_to}
use Rattle.table.proofs.Standing.{sequence_in, property_in}
use Rattle.table.proofs.Topping.{accepted_at}
use Rattle.table.proofs.CheckingTo as to
use Rattle.table.proofs.CheckingTo.{SoundTo}
use Rattle.table.proofs.Theorems as theorems

abbrev pub Sound : List ℕ → Type 0
Sound s = SoundTo base s

module _ (s : List ℕ) where
  pub decides : Decides (cases s) (refusals s)
  unfolding refusals
  decides = to.decides s base

  pub checks : (v : Verdict) → v ≡ checked s → Checks s v
  unfolding refusals checked checked_to
  checks v e = to.checks s base v e

  pub checks_none : NotGiven (refusals s) → Checks s accepted
  unfolding refusals
  checks_none n = to.checks_none base s n

  pub checks_given : (v : Verdict) → Checks s v → v.number ≡ 0 → NotGiven (refusals s)
  unfolding refusals
  checks_given v c z = to.checks_given base s v c z

  pub not_of_table : (v : Verdict) → ¬ ((1 ≤ v.number) × (v.number ≤ 9)) → Other v (refusals s)
  unfolding refusals
  not_of_table v h = to.not_of_table base s v h

  pub table_singles : Singles (refusals s)
  unfolding refusals
  table_singles = to.table_singles base s

  pub checks_only : (v : Verdict) → Checks s v → v ≡ checked s
  unfolding refusals checked checked_to
  checks_only v c = to.checks_only base s v c

module _ (s : List ℕ) (v : Verdict) (c : Checks s v) where
  pub sound : v.number ≡ 0 → Sound s
  unfolding refusals
  sound z = to.sound base s v c z

  nine_or_none : 6 ≤ length s → take 3 s ≡ mark 0x54 → Known base (version s) → Built s → (v.number ≡ 9) ⊎ (v ≡ accepted)
  unfolding refusals
  nine_or_none l m o b = to.nine_or_none base s v c l m o b

  pub accepted_root : v.number ≡ 0 → (P : Prop Atom) → PropertyAt (node_at s) (root s) P → Accepted reading free P
  unfolding refusals
  accepted_root z P d = theorems.accepted_root base s v c z P d

  pub refused_sequence : v.number ≡ 9 → (r : Seq Atom) → ¬ SequenceAt (node_at s) (root s) r
  unfolding refusals
  refused_sequence z r d = theorems.refused_sequence base s v c z r d

  pub refused_root : v.number ≡ 9 → (P : Prop Atom) → PropertyAt (node_at s) (root s) P → ¬ Accepted reading free P
  unfolding refusals
  refused_root z P d a = theorems.refused_root base s v c z P d a

-- ---- a table made from a sound one, whose root stands for what f or g makes of the other's, is accepted

module _ {newest : ℕ} (s : List ℕ) (sound : SoundTo newest s) (t : List ℕ) (f : Seq Atom → Seq Atom) (g : Prop Atom → Prop Atom)
    (sequences : (r : Seq Atom) → RootS s r → RootS t (f r)) (properties : (P : Prop Atom) → RootP s P → RootP t (g P))
    (keeps : (P : Prop Atom) → Accepted reading free P → Accepted reading free (g P)) where
  -- 9 is given for no sequence, and for no property that the meaning accepts
  not_nine : Checks t (checked t) → ¬ ((checked t).number ≡ 9)
  not_nine c z =
      let ok = sound.formed in
      let l = root_in ok in
      ⊎_elim
      (λ e. let (r, d) = sequence_in s (count s) ok.fit (count s) (root s) l l e in refused_sequence t (checked t) c z (f r) (sequences r d))
      (λ e.
      let (P, d) = property_in s (count s) ok.fit (count s) (root s) l l e in
      refused_root t (checked t) c z (g P) (properties P d) (keeps P (accepted_at s (count s) ok.fit sound.solid d l free)))
      (to.sorts s (root s) (ok.fit (root s) l) ok.rooted)

  pub made_checks : take 3 t ≡ mark 0x54 → Known base (version t) → Built t → Checks t accepted
  made_checks m o b =
      let c = checks t (checked t) refl in
      ⊎_elim (λ z. absurd (not_nine c z)) (λ e. subst (Checks t) e c) (nine_or_none t (checked t) c (let l = b.long in omega arith) m o b)

-- ---- and one made from a table that is refused with 9, whose root stands for the same, is refused with 9

module _ (newest : ℕ) (s : List ℕ) (v : Verdict) (c : ChecksTo newest s v) (z : v.number ≡ 9) (t : List ℕ)
    (properties : (P : Prop Atom) → RootP s P → RootP t P) where
  not_none : (u : Verdict) → Checks t u → ¬ (u.number ≡ 0)
  not_none u d n =
      let ok = (to.hollow_one newest s v c z).0 in
      let l = root_in ok in
      ⊎_elim
      (λ e. let (r, a) = sequence_in s (count s) ok.fit (count s) (root s) l l e in theorems.refused_sequence newest s v c z r a)
      (λ e.
      let (P, a) = property_in s (count s) ok.fit (count s) (root s) l l e in
      theorems.refused_root newest s v c z P a (accepted_root t u d n P (properties P a)))
      (to.sorts s (root s) (ok.fit (root s) l) ok.rooted)

  pub made_nine : take 3 t ≡ mark 0x54 → Known base (version t) → Built t → (u : Verdict) → Checks t u → u.number ≡ 9
  made_nine m o b u d =
      ⊎_elim (λ e. e) (λ e. absurd (not_none u d (ap (λ (w : Verdict). w.number) e))) (nine_or_none t u d (let l = b.long in omega arith) m o b)
