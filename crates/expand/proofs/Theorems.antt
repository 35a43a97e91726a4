-- The statement of expanding leaves nothing open: two results that fit it are the same. Assumes nothing.
use mathlib.Core.Path.{◌≡◌, ◌∙◌, sym}
use mathlib.Core.List.{List}
use Prim.Native.Nat.{ℕ}
use lib.ListN.{length, drop}
use Rattle.refusal.proofs.Unique.{Singles, single_when, singles_append, by_verdict}
use Rattle.nodes.specs.Operators.{newest}
use Rattle.table.specs.Check.{refusals_to}
use Rattle.table.proofs.CheckingTo.{table_singles}
use Rattle.expand.specs.declared.Expansion.{Expansion}
use Rattle.expand.specs.Expands.{expand_refusals, Expands}

expand_singles : (s : List ℕ) (room : ℕ) → Singles (expand_refusals s room)
unfolding expand_refusals
expand_singles s room = singles_append (refusals_to newest s) (drop 9 (expand_refusals s room)) (table_singles newest s) (single_when 13 _, (single_when 15 _, tt))

pub expand_unique : (s d : List ℕ) (r q : Expansion) (d' e' : List ℕ) → Expands s d r d' → Expands s d q e' → (r ≡ q) × (d' ≡ e')
expand_unique s d r q d' e' a b =
    by_verdict (expand_refusals s (length d)) (expand_singles s (length d)) r.verdict q.verdict a.answer b.answer
    (λ v y z. same v (a.accepted y) (b.accepted z))
    (λ v y z. same v (a.refused y) (b.refused z))
  where
    same : r.verdict ≡ q.verdict → {n : ℕ} {w : List ℕ} → (r.count ≡ n) × (d' ≡ w) → (q.count ≡ n) × (e' ≡ w) → (r ≡ q) × (d' ≡ e')
    same v (c, w) (c', w') = (λ i. record { verdict = v i; count = (c ∙ sym c') i }, w ∙ sym w')
