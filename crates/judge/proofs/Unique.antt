-- The statements of the judge and of match ends leave nothing open: two answers that fit are the same, and so are the workspaces left. Assumes nothing.
use mathlib.Core.Path.{◌≡◌, ◌∙◌, sym, subst}
use mathlib.Core.List.{List, ◌∷◌, ◌++◌}
use Prim.Native.Nat.{ℕ}
use lib.ListN.{length}
use Rattle.telling.specs.Tells.{Tells}
use Rattle.telling.proofs.Telling.{same_test}
use Rattle.positions.proofs.Laws.{ext}
use Rattle.refusal.specs.First.{Refusal, NotGiven}
use Rattle.refusal.proofs.Unique.{Singles, single_when, singles_append, by_verdict}
use Rattle.meaning.specs.Syntax.{Seq, free}
use Rattle.meaning.specs.Meaning.{Ends}
use Rattle.meaning.specs.Pairs.{Atom, reading, pairs}
use Rattle.nodes.specs.NodeClock.{Ref}
use Rattle.table.specs.Check as Check
use Rattle.table.proofs.Checking.{table_singles}
use Rattle.table.proofs.Reading.{unique_s}
use Rattle.writing.specs.Tables.{new_table}
use Rattle.rewrite.specs.Rewrites.{too_many}
use Rattle.judgement.specs.declared.Judgement.{Judgement}
use Rattle.judgement.specs.Meant.{Meant}
use Rattle.judgement.proofs.Unique.{meant_unique, refused_unique}
use Rattle.judge.specs.declared.MatchEnds.{MatchEnds}
use Rattle.rowmeaning.specs.Rows.{Onward}
use Rattle.judge.specs.Rows.{Filled}
use Rattle.settling.specs.Refusals.{judge_refusals, ends_refusals}
use Rattle.judge.specs.Judges.{Rowed, Judged, Judges, Ended, EndsMatches}
use Rattle.settling.proofs.Passing.{judge_rest, ends_rest, judge_passes, ends_passes, table_checks, same_clocks, new_accepted}
use Rattle.judge.proofs.Same.{filled_unique}

-- ---- verdicts

pub judge_singles : (s : List ℕ) (n words : ℕ) → Singles (judge_refusals s n words)
unfolding judge_refusals
judge_singles s n words =
    singles_append (Check.refusals s) _ (table_singles s) (single_when 12 _, (single_when 13 _, (single_when 10 _, (single_when 11 _, tt))))

pub ends_singles : (s : List ℕ) (n start words : ℕ) → Singles (ends_refusals s n start words)
unfolding ends_refusals
ends_singles s n start words =
    singles_append (Check.refusals s) _ (table_singles s) (single_when 12 _, (single_when 13 _, (single_when 10 _, (single_when 14 _, (single_when 11 _, tt)))))

-- ---- what an acceptance answers and leaves

pub meant : (s xs d : List ℕ) (r : Judgement) (d' : List ℕ) → Judged s xs d r d' → Meant s xs r
meant s xs d r d' a = record { level = a.level; tested = a.tested }

module _ (s : List ℕ) (x : Refusal) (rest : List Refusal) (n : NotGiven (Check.refusals s ++ (x ∷ too_many s ∷ rest))) where
  -- the rows of one table, for it has no other clocks
  same_rows : (xs d d' e' : List ℕ) → Rowed s xs d d' → Rowed s xs d e' → d' ≡ e'
  same_rows xs d d' e' (clock, right, a) (other, right', b) =
      filled_unique (new_table s clock) xs (new_accepted s x rest n clock right) d d' e' a
      (subst (λ (κ : ℕ → Ref). Filled (new_table s κ) xs d e') (same_clocks s x rest n other clock right' right) b)

  same_judgement : (xs d : List ℕ) (r q : Judgement) (d' e' : List ℕ) → r.verdict ≡ q.verdict → Judged s xs d r d' → Judged s xs d q e' → (r ≡ q) × (d' ≡ e')
  same_judgement xs d r q d' e' v a b =
      (meant_unique s xs (table_checks s x rest n) r q v (meant s xs d r d' a) (meant s xs d q e' b), same_rows xs d d' e' a.rows b.rows)

  same_ends : (xs d : List ℕ) (start : ℕ) (r q : MatchEnds) (d' e' : List ℕ) → r.verdict ≡ q.verdict → Ended s xs d start r d' → Ended s xs d start q e' → (r ≡ q) × (d' ≡ e')
  same_ends xs d start r q d' e' v a b = (λ i. record { verdict = v i; mask = record { bits = masks i }; top = tops i }, same_rows xs d d' e' a.rows b.rows)
    where
      -- both are of one sequence
      both : (p : Seq Atom) × Ends reading p (pairs xs) start r.mask.bits × Ends reading p (pairs xs) start q.mask.bits × Tells r.top (Onward reading (pairs xs) free p start) × Tells q.top (Onward reading (pairs xs) free p start)
      both =
          let (p, f, m, t) = a.ends in
          let (p', f', m', t') = b.ends in
          let e = unique_s f' f in
          (p, m, subst (λ (p : Seq Atom). Ends reading p (pairs xs) start q.mask.bits) e m', t, subst (λ (p : Seq Atom). Tells q.top (Onward reading (pairs xs) free p start)) e t')

      masks : r.mask.bits ≡ q.mask.bits
      masks = let (p, m, m', t, t') = both in ext r.mask.bits q.mask.bits (λ j. same_test (record { to = (m j).0; from = (m j).1 }) (record { to = (m' j).0; from = (m' j).1 }))

      tops : r.top ≡ q.top
      tops = let (p, m, m', t, t') = both in same_test t t'

-- ---- the two entry points

pub judge_unique : (s xs d : List ℕ) (r q : Judgement) (d' e' : List ℕ) → Judges s xs d r d' → Judges s xs d q e' → (r ≡ q) × (d' ≡ e')
judge_unique s xs d r q d' e' a b =
    by_verdict (judge_refusals s (length xs) (length d)) (judge_singles s (length xs) (length d)) r.verdict q.verdict a.answer b.answer
    (λ v y z. same_judgement s _ (judge_rest s (length xs) (length d)) (judge_passes s (length xs) (length d) r.verdict y a.answer) xs d r q d' e' v (a.accepted y) (b.accepted z))
    (λ v y z.
    let (l, c, w) = a.refused y in
    let (l', c', w') = b.refused z in
    (refused_unique r q v (l, c) (l', c'), w ∙ sym w'))

pub ends_unique : (s xs d : List ℕ) (start : ℕ) (r q : MatchEnds) (d' e' : List ℕ) → EndsMatches s xs d start r d' → EndsMatches s xs d start q e' → (r ≡ q) × (d' ≡ e')
ends_unique s xs d start r q d' e' a b =
    by_verdict (ends_refusals s (length xs) start (length d)) (ends_singles s (length xs) start (length d)) r.verdict q.verdict a.answer b.answer
    (λ v y z. same_ends s _ (ends_rest s (length xs) start (length d)) (ends_passes s (length xs) start (length d) r.verdict y a.answer) xs d start r q d' e' v (a.accepted y) (b.accepted z))
    (λ v y z.
    let (l, c, w) = a.refused y in
    let (l', c', w') = b.refused z in
    (λ i. record { verdict = v i; mask = record { bits = (l ∙ sym l') i }; top = (c ∙ sym c') i }, w ∙ sym w'))
