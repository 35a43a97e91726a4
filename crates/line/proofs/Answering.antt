-- From what reading and the judge answer to the line. Assumes nothing.
use native.Mathlib.Omega.{arith}
use native.Mathlib.Nat.{zero-add, le_of_suc-le-suc, lt_of_not-le}
use mathlib.Core.Path.{◌≡◌, refl, ◌∙◌, ap, subst}
use mathlib.Core.Logic.{◌⊎◌, inl, inr, ⊎_elim}
use mathlib.Core.List.{List, [], ◌∷◌, ◌++◌}
use Prim.Native.Nat.{ℕ, ◌<◌, ◌≤◌}
use lib.ListN.{length, take, drop, length-replicate, replicate}
use lib.Seq.{take_at, take-length, length-take-le}
use Rattle.refusal.specs.declared.Verdict.{Verdict}
use Rattle.refusal.specs.First.{Refusal, Answers, LowestSuch}
use Rattle.refusal.specs.Heading.{count}
use Rattle.telling.proofs.Telling.{decide, is_eq}
use Rattle.refusal.proofs.Given.{none_given, not_given-append, answers_after, answers_beyond}
use Rattle.meaning.specs.Syntax.{Prop}
use Rattle.meaning.specs.Meaning.{Level, level3, level2, level1, level0}
use Rattle.meaning.specs.Pairs.{Atom, Pair, reading}
use Rattle.nodes.specs.Operators.{newest}
use Rattle.table.specs.Check.{refusals_to}
use Rattle.record.specs.declared.Reading.{Reading}
use Rattle.record.specs.Record as Record
use Rattle.record.specs.Record.{Reads}
use Rattle.record.proofs.Samples.{length-samples}
use Rattle.cells.specs.Shares.{longest}
use Rattle.judgement.specs.declared.Judgement.{Judgement}
use Rattle.calls.specs.Refusals.{judge_refusals}
use Rattle.calls.specs.Judges.{Judges}
use Rattle.line.specs.Program.{table_part, record_part, samples_of, cleared, refusals, LineFor, Says}
use Rattle.linetext.specs.Computed.{line_of, Puts}
use Rattle.linetext.proofs.Lines.{told-table, told_record, told_level}
use Rattle.line.specs.Computed.{PartsAt}

-- ---- the node of a refusal

-- each is given at m or below, where none of those before it is given
abbrev Low : ℕ → List Refusal → Type 0
Low m [] = Unit {0}
Low m (r ∷ rs) = ((k : ℕ) → r.given k → k ≤ m) × (((k : ℕ) → ¬ r.given k) → Low m rs)

low_node : (m : ℕ) (rs : List Refusal) → Low m rs → (v : Verdict) → Answers rs v → v.node ≤ m
unfolding Answers
low_node m [] l v (_, e) = omega arith
low_node m (r ∷ rs) l v (inl (_, g)) = l.0 v.node g
low_node m (r ∷ rs) l v (inr (n, a)) = low_node m rs (l.1 n) v a

at_zero : {m : ℕ} {Holds : Type 0} → (k : ℕ) → (k ≡ 0) × Holds → k ≤ m
at_zero k (e, _) = omega arith

pub record_node : (r : List ℕ) (words : ℕ) (v : Verdict) → Answers (Record.refusals r words) v → v.node < 1000
unfolding Record.refusals
record_node r words v a =
    let l = low_node 0 (Record.refusals r words) (at_zero, λ _. (at_zero, λ _. (at_zero, λ _. (at_zero, λ _. (at_zero, λ _. (at_zero, λ _. tt)))))) v a in
    omega arith

pub table_node : (t : List ℕ) (n words : ℕ) (v : Verdict) → Answers (judge_refusals t n words) v → v.node < 1000
unfolding judge_refusals
table_node t n words v a = let l = low_node 120 (judge_refusals t n words) low v a in omega arith
  where
    few : ((k : ℕ) → ¬ ((k ≡ 0) × ((count t ≡ 0) ⊎ (120 < count t)))) → count t ≤ 120
    few no4 = le_of_suc-le-suc (lt_of_not-le (λ g. no4 0 (refl, inr g)))

    lowest : {Such : ℕ → Type 0} → count t ≤ 120 → (k : ℕ) → LowestSuch (count t) Such k → k ≤ 120
    lowest l k g = let b = g.below in omega arith

    low : Low 120 (judge_refusals t n words)
    low = (
      at_zero,
      λ _. (
        at_zero,
        λ _. (
          at_zero,
          λ _. (
            at_zero,
            λ no4. (
              at_zero,
              λ _. (
                lowest (few no4),
                λ _. (
                  lowest (few no4),
                  λ _. (
                    at_zero,
                    λ _. (
                      lowest (few no4),
                      λ _.
                          (at_zero, λ _. (at_zero, λ _. (at_zero, λ _. (at_zero, λ _. (at_zero, λ _. tt))))),
                    ),
                  ),
                ),
              ),
            ),
          ),
        ),
      ),
    )

-- ---- the verdict

module _ (s : List ℕ) where
  -- the judge's own refusals after a table's, and the program's
  abbrev of_judge : ℕ → ℕ → List Refusal
  of_judge n words = drop 9 (judge_refusals (table_part s) n words)

  abbrev of_program : List Refusal
  of_program = drop 9 (refusals s)

  -- the judge's refusals, of few samples and with room for every table, are the table's
  table-first : (n words : ℕ) → n ≤ longest → 7800 ≤ words → (v : Verdict) → ¬ (v.number ≡ 0) → Answers (judge_refusals (table_part s) n words) v → Answers (refusals s) v
  unfolding judge_refusals refusals Answers
  table-first n words few room v z a = answers_after (refusals_to newest (table_part s)) (of_judge n words) of_program v (λ _. own) a
    where
      own : Answers (of_judge n words) v → Answers of_program v
      own (inl a) = inl a
      own (inr (x, inl a)) = inr (x, inl a)
      own (inr (x, inr (y, inl a))) = inr (x, inr (y, inl a))
      own (inr (x, inr (y, inr (m, inl (_, (_, g)))))) = absurd (omega arith)
      own (inr (x, inr (y, inr (m, inr (_, inl (_, (_, (clock, right, g)))))))) = absurd (m 0 (refl, (clock, right, omega arith)))
      own (inr (x, inr (y, inr (m, inr (_, inr (_, (e, _))))))) = absurd (z e)

  -- with none of them, the record's
  record_next : (n words : ℕ) (v : Verdict) → v.number ≡ 0 → Answers (judge_refusals (table_part s) n words) v → (u : Verdict) → Answers (Record.refusals (record_part s) longest) u → Answers (refusals s) u
  unfolding judge_refusals refusals Answers
  record_next n words v z a u b =
      let none_of = (none_given (judge_refusals (table_part s) n words) tt v z a).0 in
      let (table, (root, (size, (count, _)))) = not_given-append (refusals_to newest (table_part s)) (of_judge n words) none_of in
      answers_beyond (refusals_to newest (table_part s)) of_program u table (inr (root, inr (size, inr (count, b))))

-- ---- the line

says : (s line d : List ℕ) (r : ℕ) (d' : List ℕ) → LineFor s line → Puts d 0 line r d' → Says s d r d'
says s line d r d' right p = record {
  line = line;
  right = right;
  count = p.next ∙ zero-add (length line);
  left = p.bytes ∙ ap (λ (n : ℕ). take (length line) line ++ drop n d) (zero-add (length line)) ∙ ap (λ (t : List ℕ). t ++ drop (length line) d) (take-length line);
}

-- a record has few samples, and no more are answered
pub few_samples : (r d : List ℕ) (reading : Reading) (words : List ℕ) → Reads r d reading words → reading.count ≤ 63
unfolding Record.refusals
few_samples r d reading words reads = ⊎_elim good bad (decide (is_eq reading.verdict.number 0))
  where
    good : reading.verdict.number ≡ 0 → reading.count ≤ 63
    good z =
        let not10 = (none_given (Record.refusals r (length d)) tt reading.verdict z reads.answer).0.1.1.1.0 in
        let few : count r ≤ 63 = le_of_suc-le-suc (lt_of_not-le (λ g. not10 0 (refl, g))) in
        let same = (reads.accepted z).0 in
        omega arith

    bad : ¬ (reading.verdict.number ≡ 0) → reading.count ≤ 63
    bad z = let none = (reads.refused z).0 in omega arith

pub within_words : (r d : List ℕ) (reading : Reading) (words : List ℕ) → Reads r d reading words → length words ≡ 63 → reading.count ≤ length words
within_words r d reading words reads size = let l = few_samples r d reading words reads in omega arith

low_level : {P : Prop Atom} {xs : List Pair} {n : ℕ} → Level reading P xs n → n < 10
low_level (level3 _) = omega arith
low_level (level2 _ _) = omega arith
low_level (level1 _ _) = omega arith
low_level (level0 _) = omega arith

pub level_digit : (t xs d : List ℕ) (judged : Judgement) (left : List ℕ) → Judges t xs d judged left → judged.level.number < 10
level_digit t xs d judged left judges =
    ⊎_elim (λ z. let (_, _, l) = (judges.accepted z).level in low_level l) (λ z. let e = (judges.refused z).0 in omega arith) (decide (is_eq judged.verdict.number 0))

-- what is known when the judge has answered: the record was read into 63 words, and the workspace was cleared
module _ (s : List ℕ) (end : ℕ) (parts : PartsAt s end) (table rest : List ℕ) (front : table ≡ take end s) (back : rest ≡ drop end s) (reading : Reading) (words : List ℕ) (reads : Reads rest (replicate 63 0) reading words)
    (judged : Judgement) (left : List ℕ) (size : length words ≡ 63) (judges : Judges table (take reading.count words) cleared judged left) where
  table_is : table ≡ table_part s
  table_is = front ∙ parts.0

  record_is : rest ≡ record_part s
  record_is = back ∙ parts.1

  of_record : Answers (Record.refusals (record_part s) longest) reading.verdict
  of_record =
      subst (λ (r : List ℕ). Answers (Record.refusals r longest) reading.verdict) record_is
      (subst (λ (n : ℕ). Answers (Record.refusals rest n) reading.verdict) (length-replicate {A = ℕ} 63 0) reads.answer)

  of_table : Answers (judge_refusals (table_part s) (length (take reading.count words)) 7800) judged.verdict
  of_table =
      subst (λ (t : List ℕ). Answers (judge_refusals t (length (take reading.count words)) 7800) judged.verdict) table_is
      (subst (λ (n : ℕ). Answers (judge_refusals table (length (take reading.count words)) n) judged.verdict) (length-replicate {A = ℕ} 7800 0) judges.answer)

  few : length (take reading.count words) ≤ longest
  few = let l = few_samples rest (replicate 63 0) reading words reads in let e = length-take-le reading.count words (omega arith) in omega arith

  same_samples : reading.verdict.number ≡ 0 → take reading.count words ≡ samples_of s
  same_samples y =
      let (c, w) = reads.accepted y in
      ap (λ (n : ℕ). take n words) c
      ∙ ap (take (count rest)) w
      ∙ take_at (Record.samples rest (count rest)) _ (count rest) (length-samples rest (count rest))
      ∙ ap (λ (r : List ℕ). Record.samples r (count r)) record_is

  -- the line is the table's refusal, or else the record's, or else the level's
  abbrev line : List ℕ
  line = line_of judged.verdict reading.verdict judged.level.number judged.tested

  right : LineFor s line
  right = ⊎_elim (λ z. ⊎_elim (good z) (other z) (decide (is_eq reading.verdict.number 0))) refused_table (decide (is_eq judged.verdict.number 0))
    where
      refused_table : ¬ (judged.verdict.number ≡ 0) → LineFor s line
      refused_table z = record {
        verdict = judged.verdict;
        answer = table-first s _ 7800 few (omega arith) judged.verdict z of_table;
        accepted = λ y. absurd (z y);
        refused = λ _. told-table _ _ _ _ z;
      }

      other : judged.verdict.number ≡ 0 → ¬ (reading.verdict.number ≡ 0) → LineFor s line
      other z y = record {
        verdict = reading.verdict;
        answer = record_next s _ 7800 judged.verdict z of_table reading.verdict of_record;
        accepted = λ x. absurd (y x);
        refused = λ _. told_record _ _ _ _ z y;
      }

      good : judged.verdict.number ≡ 0 → reading.verdict.number ≡ 0 → LineFor s line
      good z y = record {
        verdict = reading.verdict;
        answer = record_next s _ 7800 judged.verdict z of_table reading.verdict of_record;
        accepted = λ _. record {
          judgement = judged;
          workspace = left;
          judged = subst (λ (xs : List ℕ). Judges (table_part s) xs cleared judged left) (same_samples y) (subst (λ (t : List ℕ). Judges t (take reading.count words) cleared judged left) table_is judges);
          accepts = z;
          is = told_level _ _ _ _ z y;
        };
        refused = λ x. absurd (x y);
      }

  pub answered : (d : List ℕ) (r : ℕ) (d' : List ℕ) → Puts d 0 line r d' → Says s d r d'
  answered d r d' p = says s line d r d' right p
