-- The statement of the program's line leaves nothing open, and reading 997 bytes is enough. Assumes nothing.
use native.Mathlib.Omega.{arith}
use native.Mathlib.Nat.{le_of_suc-le-suc, lt_of_not-le, min-le_right}
use mathlib.Core.Path.{◌≡◌, refl, ◌∙◌, sym, ap, subst}
use mathlib.Core.Logic.{inl, inr, ⊎_elim}
use mathlib.Core.List.{List, ◌∷◌, ◌++◌}
use Prim.Native.Nat.{ℕ, ◌+◌, ◌*◌, ◌<◌, ◌≤◌, min}
use lib.ListN.{length, get_or, take, drop, length-take, length-drop}
use lib.Seq.{get_or-take, take-take, take-add, drop_at, length-take-le}
use Rattle.telling.proofs.Telling.{decide, is_lt}
use Rattle.refusal.specs.declared.Verdict.{Verdict}
use Rattle.refusal.specs.First.{Refusal, when, Answers}
use Rattle.refusal.specs.Heading.{number, count, version, mark, Known, heading_refusals}
use Rattle.refusal.proofs.Given.{answers_after, answers_none, none_given, not_given-append}
use Rattle.refusal.proofs.Unique.{Singles, single_when, singles_append, by_verdict}
use Rattle.record.proofs.Unique.{record_singles}
use Rattle.nodes.specs.Operators.{sequence, newest}
use Rattle.table.specs.Check.{refusals_to}
use Rattle.table.proofs.CheckingTo.{table_singles}
use Rattle.expansion.specs.Expansion.{expansion, too_large}
use Rattle.rewrite.specs.Rewrites.{too_many}
use Rattle.record.specs.Record as Record
use Rattle.cells.specs.Shares.{longest}
use Rattle.judgement.specs.declared.Judgement.{Judgement}
use Rattle.judgement.specs.Refusals.{wrong_root}
use Rattle.calls.proofs.Unique.{judge_unique}
use Rattle.calls.proofs.Demands.{tested_meant}
use Rattle.linetext.specs.Text.{level_line, refused_line}
use Rattle.line.specs.Program.{table_part, record_part, samples_of, cleared, refusals, LevelLine, LineFor, Says, Told}

-- ---- no second line

line_singles : (s : List ℕ) → Singles (refusals s)
unfolding refusals
line_singles s =
    singles_append (refusals_to newest (table_part s)) (drop 9 (refusals s)) (table_singles newest (table_part s))
    (single_when 12 _, (single_when 13 _, (single_when 13 _, record_singles (record_part s) longest)))

pub line_unique : (s line other : List ℕ) → LineFor s line → LineFor s other → line ≡ other
line_unique s line other a b =
    by_verdict (refusals s) (line_singles s) a.verdict b.verdict a.answer b.answer
    (λ v y z. levels (a.accepted y) (b.accepted z)) (λ v y z. a.refused y ∙ ap refused_line v ∙ sym (b.refused z))
  where
    levels : LevelLine s line → LevelLine s other → line ≡ other
    levels l m =
        let e : l.judgement ≡ m.judgement = (judge_unique (table_part s) (samples_of s) cleared l.judgement m.judgement l.workspace m.workspace l.judged m.judged).0 in
        l.is ∙ ap (λ (r : Judgement). level_line r.level.number r.tested) e ∙ sym m.is

pub says_unique : (s d : List ℕ) (r q : ℕ) (d' e' : List ℕ) → Says s d r d' → Says s d q e' → (r ≡ q) × (d' ≡ e')
says_unique s d r q d' e' a b =
    let e = line_unique s a.line b.line a.right b.right in
    (a.count ∙ ap length e ∙ sym b.count, a.left ∙ ap (λ (line : List ℕ). line ++ drop (length line) d) e ∙ sym b.left)

-- ---- what an accepted input's line says

pub line_level : (s line : List ℕ) (a : LineFor s line) → a.verdict.number ≡ 0 → Told s line
line_level s line a z =
    let l = a.accepted z in
    let held = l.judged.accepted l.accepts in
    let (P, root, level) = held.level in
    let tested = tested_meant (table_part s) (samples_of s) cleared l.judgement l.workspace l.judged l.accepts P root in
    record { property = P; root = root; number = l.judgement.level.number; level = level; tests = l.judgement.tested; tested = tested; is = l.is }

-- ---- 997 bytes are enough

-- a part of a list, from the part that ends with it
part_of : (a k : ℕ) (l : List ℕ) → a ≤ length l → take k (drop a l) ≡ drop a (take (a + k) l)
part_of a k l h = sym (ap (drop a) (take-add a k l) ∙ drop_at (take a l) (take k (drop a l)) a (length-take-le a l h))

-- two files that begin with the same six bytes
module _ (s t : List ℕ) (long : 6 ≤ length s) (long' : 6 ≤ length t) (same : take 6 s ≡ take 6 t) where
  within : (n : ℕ) → n ≤ 6 → take n s ≡ take n t
  within n h = sym (take-take n 6 s h) ∙ ap (take n) same ∙ take-take n 6 t h

  same_version : version s ≡ version t
  same_version = ap number (part_of 3 2 s (omega arith) ∙ ap (drop 3) (within 5 (omega arith)) ∙ sym (part_of 3 2 t (omega arith)))

  same_count : count s ≡ count t
  same_count = sym (get_or-take 6 s 5 0 (omega arith)) ∙ ap (λ (l : List ℕ). get_or l 5 0) same ∙ get_or-take 6 t 5 0 (omega arith)

  not_short : (k : ℕ) → ¬ ((k ≡ 0) × (length t < 6))
  not_short k y = let l = y.1 in omega arith

  -- 1 to 3 are theirs alike, and what follows decides where they are not given
  opening : (letter newest : ℕ) (rs ss : List Refusal) (v : Verdict) → (Answers rs v → (Answers ss v) × (¬ (v.number ≡ 0))) → Answers (heading_refusals letter newest s ++ rs) v
      → (Answers (heading_refusals letter newest t ++ ss) v) × (¬ (v.number ≡ 0))
  unfolding Answers
  opening letter newest rs ss v f (inl (_, (_, l))) = absurd (omega arith)
  opening letter newest rs ss v f (inr (_, inl (n, (e, g)))) = (inr (not_short, inl (n, (e, λ m. g (within 3 (omega arith) ∙ m)))), λ z. omega arith)
  opening letter newest rs ss v f (inr (_, inr (marked, b))) = rest b
    where
      marked' : (k : ℕ) → ¬ ((k ≡ 0) × (¬ (take 3 t ≡ mark letter)))
      marked' k y = marked k (y.0, λ m. y.1 (sym (within 3 (omega arith)) ∙ m))

      rest : Answers (when 3 (¬ Known newest (version s)) ∷ rs) v → (Answers (heading_refusals letter newest t ++ ss) v) × (¬ (v.number ≡ 0))
      rest (inl (n, (e, g))) = (inr (not_short, inr (marked', inl (n, (e, λ m. g (subst (Known newest) (sym same_version) m))))), λ z. omega arith)
      rest (inr (versed, a)) = let (b, z) = f a in (inr (not_short, inr (marked', inr (λ k y. versed k (y.0, λ m. y.1 (subst (Known newest) same_version m)), b))), z)

  -- of a table with too many nodes nothing else is asked
  many_refused : 120 < count s → (rs ss : List Refusal) (v : Verdict) → Answers (refusals_to newest s ++ rs) v → (Answers (refusals_to newest t ++ ss) v) × (¬ (v.number ≡ 0))
  unfolding Answers
  many_refused h rs ss v = opening 0x54 newest (drop 3 (refusals_to newest s) ++ rs) (drop 3 (refusals_to newest t) ++ ss) v own
    where
      own : Answers (drop 3 (refusals_to newest s) ++ rs) v → (Answers (drop 3 (refusals_to newest t) ++ ss) v) × (¬ (v.number ≡ 0))
      own (inl (n, (e, g))) = (inl (n, (e, inr (let c = same_count in omega arith))), λ z. omega arith)
      own (inr (few, _)) = absurd (few 0 (refl, inr h))

  -- of a record with more bytes than any record has, the length is the last that is asked
  long_refused : 511 ≤ length s → 511 ≤ length t → (v : Verdict) → Answers (Record.refusals s longest) v → (Answers (Record.refusals t longest) v) × (¬ (v.number ≡ 0))
  unfolding Record.refusals Answers
  long_refused l l' v = opening 0x57 1 (drop 3 (Record.refusals s longest)) (drop 3 (Record.refusals t longest)) v own
    where
      short : ((k : ℕ) → ¬ ((k ≡ 0) × (63 < count s))) → count s ≤ 63
      short few = le_of_suc-le-suc (lt_of_not-le (λ g. few 0 (refl, g)))

      own : Answers (drop 3 (Record.refusals s longest)) v → (Answers (drop 3 (Record.refusals t longest)) v) × (¬ (v.number ≡ 0))
      own (inl (n, (e, g))) = (inl (n, (e, let c = same_count in omega arith)), λ z. omega arith)
      own (inr (few, inl (n, (e, g)))) =
          let c = same_count in
          let h = short few in
          (inr (λ k y. let l = y.1 in omega arith, inl (n, (e, λ m. omega arith))), λ z. omega arith)
      own (inr (few, inr (agrees, _))) = let h = short few in absurd (agrees 0 (refl, λ m. omega arith))

-- two inputs of 997 bytes or more that begin with the same 997
module _ (s u : List ℕ) (l : 997 ≤ length s) (l' : 997 ≤ length u) (e : take 997 s ≡ take 997 u) where
  first : (n : ℕ) → n ≤ 997 → take n s ≡ take n u
  first n h = sym (take-take n 997 s h) ∙ ap (take n) e ∙ take-take n 997 u h

  counts : count s ≡ count u
  counts = same_count s u (omega arith) (omega arith) (first 6 (omega arith))

  module _ (v : Verdict) (a : Answers (refusals s) v) where
    -- too many nodes: the table is refused, however much of it is there
    many : 120 < count s → (Answers (refusals u) v) × (¬ (v.number ≡ 0))
    unfolding refusals table_part
    many h = many_refused (table_part s) (table_part u) (six s (omega arith)) (six u (omega arith)) (opens s ∙ first 6 (omega arith) ∙ sym (opens u)) (let c = get_or-take (6 + 4 * count s) s 5 0 (omega arith) in omega arith) _ _ v a
      where
        opens : (w : List ℕ) → take 6 (table_part w) ≡ take 6 w
        opens w = take-take 6 (6 + 4 * count w) w (omega arith)

        six : (w : List ℕ) → 6 ≤ length w → 6 ≤ length (table_part w)
        six w h =
            let n : length (take 6 w) ≡ 6 = length-take-le 6 w h in
            let m : length (take 6 (table_part w)) ≡ min 6 (length (table_part w)) = length-take 6 (table_part w) in
            let k : length (take 6 (table_part w)) ≡ length (take 6 w) = ap length (opens w) in
            let b = min-le_right 6 (length (table_part w)) in
            omega arith

    -- no more than there may be: the table part is the same, and the record is refused, for its length at last
    module _ (h : count s ≤ 120) where
      tables : table_part s ≡ table_part u
      unfolding table_part
      tables = first (6 + 4 * count s) (omega arith) ∙ ap (λ (n : ℕ). take (6 + 4 * n) u) counts

      rest : (w : List ℕ) → 997 ≤ length w → count w ≤ 120 → 511 ≤ length (record_part w)
      unfolding record_part
      rest w g k = let n = length-drop (6 + 4 * count w) w in omega arith

      begins : take 6 (record_part s) ≡ take 6 (record_part u)
      unfolding record_part
      begins =
          let at : ℕ = 6 + 4 * count s in
          part_of at 6 s (omega arith) ∙ ap (drop at) (first (at + 6) (omega arith)) ∙ sym (part_of at 6 u (omega arith)) ∙ ap (λ (n : ℕ). take 6 (drop (6 + 4 * n) u)) counts

      -- what is answered of the one record is answered of the other
      refuses : Answers (Record.refusals (record_part s) longest) v → (Answers (Record.refusals (record_part u) longest) v) × (¬ (v.number ≡ 0))
      refuses =
          let g = rest s l h in
          let k = rest u l' (let c = counts in omega arith) in
          long_refused (record_part s) (record_part u) (omega arith) (omega arith) begins g k v

      abbrev own : List ℕ → List ℕ → List Refusal
      own t r = wrong_root t sequence ∷ too_large t ∷ too_many (expansion t) ∷ Record.refusals r longest

      few : (Answers (refusals u) v) × (¬ (v.number ≡ 0))
      unfolding refusals Record.refusals Answers
      few = (subst (λ (t : List ℕ). Answers (refusals_to newest t ++ own t (record_part u)) v) tables (answers_after (refusals_to newest (table_part s)) (own (table_part s) (record_part s)) (own (table_part s) (record_part u)) v (λ _. later) a), not_accepted)
        where
          later : Answers (own (table_part s) (record_part s)) v → Answers (own (table_part s) (record_part u)) v
          later (inl b) = inl b
          later (inr (x, inl b)) = inr (x, inl b)
          later (inr (x, inr (y, inl b))) = inr (x, inr (y, inl b))
          later (inr (x, inr (y, inr (m, b)))) = inr (x, inr (y, inr (m, (refuses b).0)))

          not_accepted : ¬ (v.number ≡ 0)
          not_accepted z =
              let (none, node) = none_given (refusals s) tt v z a in
              let (_, (_, (_, (_, left)))) = not_given-append (refusals_to newest (table_part s)) (own (table_part s) (record_part s)) none in
              (refuses (answers_none (Record.refusals (record_part s) longest) v left z node)).1 z

  both : (v : Verdict) → Answers (refusals s) v → (Answers (refusals u) v) × (¬ (v.number ≡ 0))
  both v a = ⊎_elim (many v a) (λ g. few v a (le_of_suc-le-suc (lt_of_not-le g))) (decide (is_lt 120 (count s)))

  same_line : (line : List ℕ) → LineFor s line → LineFor u line
  same_line line a =
      let b = both a.verdict a.answer in
      record { verdict = a.verdict; answer = b.0; accepted = λ z. absurd (b.1 z); refused = a.refused }

-- THE LINE OF A LONGER INPUT is that of its first 997 bytes
pub cut_same : (s : List ℕ) → 997 ≤ length s → (line : List ℕ) → (LineFor s line → LineFor (take 997 s) line) × (LineFor (take 997 s) line → LineFor s line)
cut_same s l line =
    let n : length (take 997 s) ≡ 997 = length-take-le 997 s l in
    let e : take 997 s ≡ take 997 (take 997 s) = sym (take-take 997 997 s (omega arith)) in
    (same_line s (take 997 s) l (omega arith) e line, same_line (take 997 s) s (omega arith) l (sym e) line)
