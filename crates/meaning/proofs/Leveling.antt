-- The level and acceptance as computed tests; the level goes by the answers alone. Assumes nothing.
use mathlib.Core.Bool.{Bool, true, false, ◌&&◌}
use mathlib.Core.Logic.Iff
use mathlib.Core.Logic.{◌↔◌}
use mathlib.Core.List.{List}
use Prim.Native.Nat.{ℕ, zero, zero-le}
use Rattle.meaning.specs.Syntax.{Prop, strong, weak, neg, either, both, implies, next, until, under, Seq, Clock, free, on}
use Rattle.meaning.specs.Words.{top, word, Tail, none, tops, bots}
use Rattle.meaning.specs.Levels.{level_of}
use Rattle.meaning.specs.Meaning.{satisfies, value, counts, ticks, Sat, Topped, Accepted, Neutral, Weakly, Strongly, Level, level3, level2, level1, level0}
use Rattle.telling.specs.Tells.{Tells, some, every}
use Rattle.telling.proofs.Telling.{is_and}
use Rattle.meaning.proofs.Eval.{top_b, match_b, plus_b, is_top_lem}
use Rattle.meaning.proofs.Sequences.{strong_b, weak_b, in_b}
use Rattle.meaning.proofs.Answers.{ans_b, is_ans, second_b}

level_to : {A B S U : Type 0} (reads : A → S → Bool) (reads' : B → U → Bool) {P : Prop A} {Q : Prop B} (xs : List S) (ys : List U)
    → ((t : Tail) → Sat reads free P (word xs t) zero ↔ Sat reads' free Q (word ys t) zero) → {m : ℕ} → Level reads P xs m → Level reads' Q ys m
level_to reads reads' xs ys h (level3 s) = level3 ((h bots).0 s)
level_to reads reads' xs ys h (level2 s n) = level2 ((h none).0 s) (λ t. n ((h bots).1 t))
level_to reads reads' xs ys h (level1 s n) = level1 ((h tops).0 s) (λ t. n ((h none).1 t))
level_to reads reads' xs ys h (level0 n) = level0 (λ t. n ((h tops).1 t))

-- properties with the same answers, each of its own record, have the same level of it
pub same_level : {A B S U : Type 0} (reads : A → S → Bool) (reads' : B → U → Bool) {P : Prop A} {Q : Prop B} (xs : List S) (ys : List U)
    → ((t : Tail) → Sat reads free P (word xs t) zero ↔ Sat reads' free Q (word ys t) zero) → {m : ℕ} → Level reads P xs m ↔ Level reads' Q ys m
same_level reads reads' xs ys h = (level_to reads reads' xs ys h, level_to reads' reads ys xs (λ t. Iff.symm (h t)))

module _ {A S : Type 0} (reads : A → S → Bool) where
  -- (the line lets whoever unfolds `level_b` compute it)
  unfoldable pub level_b : Prop A → List S → ℕ
  unfolding ans_b strong_b weak_b in_b second_b top_b match_b plus_b some every satisfies value counts ticks word
  level_b P xs = level_of (ans_b reads free P xs bots 0) (ans_b reads free P xs none 0) (ans_b reads free P xs tops 0)

  -- three tests that decide the answers give the level
  pub level_from : {P : Prop A} {xs : List S} {s n w : Bool} → Tells s (Strongly reads P xs) → Tells n (Neutral reads P xs) → Tells w (Weakly reads P xs) → Level reads P xs (level_of s n w)
  level_from {s = true} hs hn hw = level3 (hs.to tt)
  level_from {s = false} {n = true} hs hn hw = level2 (hn.to tt) hs.from
  level_from {s = false} {n = false} {w = true} hs hn hw = level1 (hw.to tt) hn.from
  level_from {s = false} {n = false} {w = false} hs hn hw = level0 hw.from

  pub level_ok : (P : Prop A) (xs : List S) → Level reads P xs (level_b P xs)
  unfolding level_b
  level_ok P xs = level_from {P = P} {xs = xs} (is_ans reads free P xs bots 0 zero-le) (is_ans reads free P xs none 0 zero-le) (is_ans reads free P xs tops 0 zero-le)

  unfoldable pub topped_b : Clock A → Seq A → Bool
  unfolding top_b match_b plus_b some every satisfies value
  topped_b κ r = top_b reads κ r (λ p. top) 0 0

  pub is_topped : (κ : Clock A) (r : Seq A) → Tells (topped_b κ r) (Topped reads κ r)
  unfolding topped_b Topped
  is_topped κ r = is_top_lem reads κ r (λ p. top) 0 (λ p u. tt) 0 zero-le

  unfoldable pub accepted_b : Clock A → Prop A → Bool
  unfolding topped_b
  accepted_b κ (strong r) = topped_b κ r
  accepted_b κ (weak r) = topped_b κ r
  accepted_b κ (neg P) = accepted_b κ P
  accepted_b κ (either P Q) = accepted_b κ P && accepted_b κ Q
  accepted_b κ (both P Q) = accepted_b κ P && accepted_b κ Q
  accepted_b κ (implies r P) = topped_b κ r && accepted_b κ P
  accepted_b κ (next P) = accepted_b κ P
  accepted_b κ (until P Q) = accepted_b κ P && accepted_b κ Q
  accepted_b κ (under c P) = accepted_b (on c) P

  pub is_accepted : (κ : Clock A) (P : Prop A) → Tells (accepted_b κ P) (Accepted reads κ P)
  unfolding accepted_b Accepted
  is_accepted κ (strong r) = is_topped κ r
  is_accepted κ (weak r) = is_topped κ r
  is_accepted κ (neg P) = is_accepted κ P
  is_accepted κ (either P Q) = is_and (is_accepted κ P) (is_accepted κ Q)
  is_accepted κ (both P Q) = is_and (is_accepted κ P) (is_accepted κ Q)
  is_accepted κ (implies r P) = is_and (is_topped κ r) (is_accepted κ P)
  is_accepted κ (next P) = is_accepted κ P
  is_accepted κ (until P Q) = is_and (is_accepted κ P) (is_accepted κ Q)
  is_accepted κ (under c P) = is_accepted (on c) P
