-- The statement of reading a record leaves nothing open: two results that fit it are the same.
-- Assumes nothing.
use mathlib.Core.Path.{◌≡◌, ◌∙◌, sym}
use mathlib.Core.List.{List}
use Prim.Native.Nat.{ℕ}
use lib.ListN.{length, drop}
use Rattle.refusal.specs.Heading.{heading_refusals}
use Rattle.refusal.proofs.Headings.{heading_singles}
use Rattle.refusal.proofs.Unique.{Singles, single_when, singles_append, by_verdict}
use Rattle.record.specs.declared.Reading.{Reading}
use Rattle.record.specs.Record.{refusals, Reads}

pub record_singles : (s : List ℕ) (words : ℕ) → Singles (refusals s words)
unfolding refusals
record_singles s words =
    singles_append (heading_refusals 0x57 1 s) (drop 3 (refusals s words)) (heading_singles 0x57 1 s)
    (single_when 10 _, (single_when 5 _, (single_when 15 _, tt)))

pub unique : (s d : List ℕ) (r q : Reading) (d' e' : List ℕ) → Reads s d r d' → Reads s d q e' → (r ≡ q) × (d' ≡ e')
unique s d r q d' e' a b =
    by_verdict (refusals s (length d)) (record_singles s (length d)) r.verdict q.verdict a.answer b.answer
    (λ v y z. same v (a.accepted y) (b.accepted z)) (λ v y z. same v (a.refused y) (b.refused z))
  where
    same : r.verdict ≡ q.verdict → {n : ℕ} {w : List ℕ} → (r.count ≡ n) × (d' ≡ w) → (q.count ≡ n) × (e' ≡ w) → (r ≡ q) × (d' ≡ e')
    same v (c, w) (c', w') = (λ i. record { verdict = v i; count = (c ∙ sym c') i }, w ∙ sym w')
