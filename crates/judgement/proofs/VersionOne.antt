-- Version 1 answers stay: of an accepted table of version 1 an answer that is meant is what document 01 says over samples. Assumes nothing.
use native.Mathlib.Omega.{arith}
use mathlib.Core.Path.{◌≡◌, refl, subst}
use mathlib.Core.List.{List}
use Prim.Native.Nat.{ℕ, ◌<◌}
use Rattle.telling.specs.Tells.{Tells}
use Rattle.telling.proofs.Telling.{is_map}
use Rattle.refusal.specs.Heading.{version, count}
use Rattle.refusal.specs.Computed.{accepted}
use Rattle.meaning.specs.Syntax.{Prop}
use Rattle.meaning.specs.Meaning.{Level}
use Rattle.meaning.specs.Tested.{Tests}
use Rattle.meaning.specs.Pairs.{Atom, reading, pairs}
use Rattle.meaning.specs.Renaming.{signals_p}
use Rattle.meaning.proofs.Samples.{tests_by_samples, level_by_samples}
use Rattle.nodes.specs.Nodes.{root}
use Rattle.nodes.proofs.Built.{Built}
use Rattle.table.specs.Trees.{RootP}
use Rattle.table.specs.Check.{Checks}
use Rattle.table.proofs.Checking.{sound}
use Rattle.table.proofs.VersionOne.{signals_property}
use Rattle.judgement.specs.declared.Judgement.{Judgement}
use Rattle.judgement.specs.Meant.{Meant}
use Rattle.judgement.specs.BySamples.{MeantBySamples}

module _ (s xs : List ℕ) (ok : Checks s accepted) (first : version s ≡ 1) (r : Judgement) (m : Meant s xs r) where
  built : Built s
  built = (sound s accepted ok refl).formed

  root_in : root s < count s
  root_in = let l = built.some in omega arith

  -- the property at the root is one of signals alone
  signals : (P : Prop Atom) → RootP s P → (Q : Prop ℕ) × (P ≡ signals_p Q)
  signals P a = signals_property s (count s) built.fit first a root_in

  pub meant_by_samples : MeantBySamples s xs r
  meant_by_samples = record {
    level =
        let (P, a, l) = m.level in
        let (Q, e) = signals P a in
        (Q, subst (RootP s) e a, (level_by_samples Q xs _).0 (subst (λ (P : Prop Atom). Level reading P (pairs xs) r.level.number) e l));
    tested =
        let (P, a, t) = m.tested in
        let (Q, e) = signals P a in
        let same = tests_by_samples Q xs in
        (Q, subst (RootP s) e a, is_map (subst (λ (P : Prop Atom). Tells r.tested (Tests reading (pairs xs) P)) e t) same.0 same.1);
  }
