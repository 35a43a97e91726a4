-- The expansion of a table of any version: a version 3 table is expanded, an older one is copied. Assumes nothing.
use native.Mathlib.Omega.{arith}
use borrow.Author.Tests.{eqb-true, eqb-false}
use mathlib.Core.Path.{◌≡◌, refl, ◌∙◌, sym, ap}
use mathlib.Core.Bool.{Bool, true, false, cond}
use mathlib.Core.List.{List}
use Prim.Native.Nat.{ℕ, ◌≤◌}
use lib.Dec.{eqb}
use lib.ListN.{take, drop}
use Rattle.refusal.specs.Heading.{version, count}
use Rattle.refusal.specs.declared.Verdict.{Verdict}
use Rattle.refusal.specs.Computed.{accepted}
use Rattle.refusal.proofs.Given.{Other, reached, answers_beyond}
use Rattle.refusal.proofs.Headings.{known_if}
use Rattle.meaning.specs.Syntax.{Seq, Prop}
use Rattle.meaning.specs.Pairs.{Atom}
use Rattle.nodes.specs.Operators.{newest, base}
use Rattle.nodes.proofs.Built.{Built}
use Rattle.table.specs.Trees.{RootS, RootP}
use Rattle.table.specs.Check.{refusals, refusals_to, ChecksTo, Checks}
use Rattle.table.proofs.CheckingTo.{sound}
use Rattle.table.proofs.Checking.{checks_only}
use Rattle.expansion.specs.Expansion.{base_count, base_table, expansion, expanded_count}
use Rattle.expansion.proofs.Rooting.{keeps_sequence, keeps_property}
use Rattle.expansion.proofs.Accepting.{expanded_checks, expanded_nine}

-- an older table whose heading is not refused has the same verdict as a table with base operators alone
old_checks : (s : List ℕ) (v : Verdict) → ChecksTo newest s v → ((i : ℕ) → 1 ≤ i → i ≤ 3 → ¬ (v.number ≡ i)) → ¬ (version s ≡ 3) → Checks s v
unfolding refusals
old_checks s v c o z =
    let others : Other v (take 3 (refusals_to newest s)) = (o 1 (omega arith) (omega arith), (o 2 (omega arith) (omega arith), (o 3 (omega arith) (omega arith), tt))) in
    let ((h1, (h2, (h3, t))), a) = reached (take 3 (refusals_to newest s)) (drop 3 (refusals_to newest s)) v others c in
    let (low, high) = known_if newest (version s) h3 in
    answers_beyond (take 3 (refusals_to base s)) (drop 3 (refusals_to base s)) v (h1, (h2, (λ k q. q.1 (omega arith, omega arith), tt))) a

module _ (s : List ℕ) where
  -- what holds of the table that a version 3 table is expanded to, and of an older table, holds of the expansion
  either_way : (P : List ℕ → ℕ → Type 0) → (version s ≡ 3 → P (base_table s) (base_count s)) → (¬ (version s ≡ 3) → P s (count s)) → P (expansion s) (expanded_count s)
  unfolding expansion expanded_count
  either_way P f g = go (eqb (version s) 3) refl
    where
      go : (b : Bool) → eqb (version s) 3 ≡ b → P (cond b (base_table s) s) (cond b (base_count s) (count s))
      go true e = f (eqb-true (version s) 3 e)
      go false e = g (eqb-false (version s) 3 e)

  pub expansion-count : count (expansion s) ≡ expanded_count s
  unfolding base_table
  expansion-count = either_way (λ t n. count t ≡ n) (λ e. refl) (λ e. refl)

  pub expansion-sequence : Built s → (r : Seq Atom) → RootS s r → RootS (expansion s) r
  expansion-sequence ok r d = either_way (λ t n. RootS t r) (λ e. keeps_sequence s ok r d) (λ e. d)

  pub expansion-property : Built s → (P : Prop Atom) → RootP s P → RootP (expansion s) P
  expansion-property ok P d = either_way (λ t n. RootP t P) (λ e. keeps_property s ok P d) (λ e. d)

  pub expansion_checks : ChecksTo newest s accepted → expanded_count s ≤ 120 → Checks (expansion s) accepted
  expansion_checks c =
      either_way (λ t n. n ≤ 120 → Checks t accepted) (λ e h. expanded_checks s (sound newest s accepted c refl) h)
      (λ e h. old_checks s accepted c (λ i l m q. omega arith) e)

  pub expansion_nine : (v : Verdict) → ChecksTo newest s v → v.number ≡ 9 → expanded_count s ≤ 120 → (u : Verdict) → Checks (expansion s) u → u.number ≡ 9
  expansion_nine v c z =
      either_way (λ t n. n ≤ 120 → (u : Verdict) → Checks t u → u.number ≡ 9) (λ e h. expanded_nine s v c z h)
      (λ e h u d.
      let same = checks_only s u d ∙ sym (checks_only s v (old_checks s v c (λ i l m q. omega arith) e)) in
      ap (λ (w : Verdict). w.number) same ∙ z)
