-- The expanded table, where it has at most 120 nodes, gets none of refusals 1 to 8, and 9 exactly where the given one does. Assumes nothing.
use native.Mathlib.Omega.{arith}
use mathlib.Core.Path.{◌≡◌, refl, ◌∙◌, sym, ap}
use mathlib.Core.Logic.{⊎_elim}
use mathlib.Core.List.{List}
use Prim.Native.Nat.{ℕ, suc, ◌<◌, ◌≤◌}
use Rattle.telling.proofs.Telling.{side}
use Rattle.refusal.specs.Heading.{count}
use Rattle.refusal.specs.declared.Verdict.{Verdict}
use Rattle.refusal.specs.Computed.{accepted}
use Rattle.nodes.specs.Operators.{sequence, newest}
use Rattle.nodes.specs.Nodes.{sort_at, uses_of, root, WellFormed}
use Rattle.nodes.proofs.Built.{Built, root_heavy}
use Rattle.nodes.proofs.Placing.{unused}
use Rattle.table.specs.Check.{ChecksTo, Checks}
use Rattle.table.proofs.CheckingTo.{SoundTo, hollow_one}
use Rattle.table.proofs.Checking.{made_checks, made_nine}
use Rattle.expansion.specs.Expansion.{booleans, base_count, base_table}
use Rattle.expansion.proofs.Standing.{typed_some}
use Rattle.expansion.proofs.Truths.{first_boolean}
use Rattle.expansion.proofs.Table.{version-table, length-table, lies_booleans, lies_form}
use Rattle.expansion.proofs.Rooting.{top_typed, root_at, keeps_sequence, keeps_property}
use Rattle.expansion.proofs.Fitting.{operand, form_fit}
use Rattle.expansion.proofs.Moving.{boolean_fit}
use Rattle.expansion.proofs.Tallies.{form_once}

-- ---- what it has

module _ (s : List ℕ) (ok : Built s) where
  abbrev t : List ℕ
  t = base_table s

  new_fit : (q : ℕ) → q < base_count s → WellFormed t q
  new_fit q l =
      ⊎_elim (λ (u : q < booleans s). boolean_fit s (count s) ok.fit t (version-table s) (lies_booleans s) q u)
      (λ (u : booleans s ≤ q). form_fit t (version-table s) (booleans s) (top_typed s ok) (booleans s) (lies_form s) (omega arith) q u l)
      (side q (booleans s))

  top_sort : sort_at t (root t) ≡ sort_at s (root s)
  top_sort =
      let h = root_heavy ok in
      let o = operand t (version-table s) (booleans s) (top_typed s ok) (booleans s) (base_count s) 1 (lies_form s) (omega arith) (omega arith) (λ z. omega arith) in
      ap (sort_at t) (sym (root_at s ok)) ∙ o.sorted (λ z. omega arith)

  -- a sequence or a property lies past the booleans, and is a node of the form
  once_new : (q : ℕ) → suc q < base_count s → sequence ≤ sort_at t q → uses_of t q (base_count s) ≡ 1
  once_new q l h =
      ⊎_elim (λ (u : q < booleans s). absurd (let e = first_boolean s (count s) t (lies_booleans s) q u in let z : ⊥ = omega arith in z))
      (λ (u : booleans s ≤ q).
      let z = unused t q (booleans s) (omega arith) (λ k i. new_fit k (omega arith)) in
      form_once t q (booleans s) u (top_typed s ok) (root_heavy ok) (booleans s) (lies_form s) u l z)
      (side q (booleans s))

  built : base_count s ≤ 120 → Built t
  unfolding base_table
  built h = record {
    some = let p = typed_some (top_typed s ok) (root_heavy ok) in omega arith;
    few = h;
    long = length-table s;
    fit = new_fit;
    once = once_new;
    rooted = λ e. let r = root_heavy ok in let c = top_sort in omega arith;
  }

-- ---- so it is accepted where the given one is

pub expanded_checks : (s : List ℕ) → SoundTo newest s → base_count s ≤ 120 → Checks (base_table s) accepted
unfolding base_table
expanded_checks s sound h =
    let ok = sound.formed in
    made_checks s sound (base_table s) (λ r. r) (λ P. P) (keeps_sequence s ok) (keeps_property s ok) (λ P a. a) refl (omega arith, omega arith) (built s ok h)

-- and refused with 9 where that is
pub expanded_nine : (s : List ℕ) (v : Verdict) → ChecksTo newest s v → v.number ≡ 9 → base_count s ≤ 120 → (u : Verdict) → Checks (base_table s) u → u.number ≡ 9
unfolding base_table
expanded_nine s v c z h =
    let ok = (hollow_one newest s v c z).0 in
    made_nine newest s v c z (base_table s) (keeps_property s ok) refl (omega arith, omega arith) (built s ok h)
