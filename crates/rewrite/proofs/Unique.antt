-- The statement of rewriting leaves nothing open: two results that fit it are the same. Assumes nothing.
use mathlib.Core.Path.{◌≡◌, refl, ◌∙◌, sym, ap}
use mathlib.Core.List.{List, ◌++◌}
use Prim.Native.Nat.{ℕ, ◌+◌, ◌*◌}
use lib.ListN.{length, drop}
use Rattle.refusal.specs.Computed.{accepted}
use Rattle.refusal.proofs.Unique.{Singles, single_when, singles_append, by_verdict}
use Rattle.nodes.specs.NodeClock.{Ref}
use Rattle.table.specs.Check as Check
use Rattle.table.proofs.Checking.{sound, table_singles}
use Rattle.clocks.proofs.Timing.{clocks_unique}
use Rattle.numbers.specs.Numbers.{new_count}
use Rattle.writing.specs.Tables.{new_table}
use Rattle.rewrite.specs.declared.Rewriting.{Rewriting}
use Rattle.rewrite.specs.Rewrites.{refusals, Rewrites}
use Rattle.rewrite.proofs.Deciding.{table-accepted}

pub rewrite_singles : (s : List ℕ) (room : ℕ) → Singles (refusals s room)
unfolding refusals
rewrite_singles s room = singles_append (Check.refusals s) _ (table_singles s) (single_when 13 _, (single_when 15 _, tt))

pub unique : (s d : List ℕ) (r q : Rewriting) (d' e' : List ℕ) → Rewrites s d r d' → Rewrites s d q e' → (r ≡ q) × (d' ≡ e')
unique s d r q d' e' a b =
    by_verdict (refusals s (length d)) (rewrite_singles s (length d)) r.verdict q.verdict a.answer b.answer
    (λ v y z.
    let (clock, right, (c, w)) = a.accepted y in
    let (other, right', (c', w')) = b.accepted z in
    let e = clocks_unique s (sound s accepted (table-accepted s (length d) r.verdict a.answer y) refl).formed clock other right right' in
    same v (c ∙ ap (new_count s) e, w ∙ ap (λ (κ : ℕ → Ref). new_table s κ ++ drop (6 + 4 * new_count s κ) d) e) (c', w'))
    (λ v y z. same v (a.refused y) (b.refused z))
  where
    same : r.verdict ≡ q.verdict → {n : ℕ} {w : List ℕ} → (r.count ≡ n) × (d' ≡ w) → (q.count ≡ n) × (e' ≡ w) → (r ≡ q) × (d' ≡ e')
    same v (c, w) (c', w') = (λ i. record { verdict = v i; count = (c ∙ sym c') i }, w ∙ sym w')
