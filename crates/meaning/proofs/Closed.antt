-- The three answers of a record: strong implies neutral implies weak, a closed verdict never reopens, a level is one number.
-- Assumes nothing.
use mathlib.Core.Bool.{Bool}
use mathlib.Core.Path.{◌≡◌, refl}
use mathlib.Core.List.{List, ◌++◌}
use Prim.Native.Nat.{ℕ, zero}
use native.Mathlib.Omega.{arith}
use Rattle.meaning.specs.Syntax.{Prop, free}
use Rattle.meaning.specs.Words.{none, tops, bots}
use Rattle.meaning.specs.Meaning.{Accepted, Neutral, Weakly, Strongly, Level, level3, level2, level1, level0}
use Rattle.meaning.proofs.Words.{word_proper, bots_below, tops_above, tail_below, tail_above}
use Rattle.meaning.proofs.Mono.{mono}

module _ {A S : Type 0} (reads : A → S → Bool) (P : Prop A) (a : Accepted reads free P) where
  pub strong_neutral : (xs : List S) → Strongly reads P xs → Neutral reads P xs
  strong_neutral xs = mono reads free P a _ _ zero (tail_below xs none) (word_proper xs bots) (word_proper xs none)

  pub neutral_weak : (xs : List S) → Neutral reads P xs → Weakly reads P xs
  neutral_weak xs = mono reads free P a _ _ zero (tail_above xs none) (word_proper xs none) (word_proper xs tops)

  pub strong_stays : (xs ys : List S) → Strongly reads P xs → Strongly reads P (xs ++ ys)
  strong_stays xs ys = mono reads free P a _ _ zero (bots_below xs ys bots) (word_proper xs bots) (word_proper (xs ++ ys) bots)

  pub broken_stays : (xs ys : List S) → ¬ Weakly reads P xs → ¬ Weakly reads P (xs ++ ys)
  broken_stays xs ys h s =
      h (mono reads free P a _ _ zero (tops_above xs ys tops) (word_proper (xs ++ ys) tops) (word_proper xs tops) s)

  -- demand 3: a closed verdict never reopens
  pub held : (xs ys : List S) → Level reads P xs 3 → Level reads P (xs ++ ys) 3
  held xs ys l = go l refl
    where
      go : {n : ℕ} → Level reads P xs n → n ≡ 3 → Level reads P (xs ++ ys) 3
      go (level3 s) e = level3 (strong_stays xs ys s)
      go (level2 s h) e = absurd (omega arith)
      go (level1 s h) e = absurd (omega arith)
      go (level0 h) e = absurd (omega arith)

  pub broken : (xs ys : List S) → Level reads P xs 0 → Level reads P (xs ++ ys) 0
  broken xs ys l = go l refl
    where
      go : {n : ℕ} → Level reads P xs n → n ≡ 0 → Level reads P (xs ++ ys) 0
      go (level3 s) e = absurd (omega arith)
      go (level2 s h) e = absurd (omega arith)
      go (level1 s h) e = absurd (omega arith)
      go (level0 h) e = level0 (broken_stays xs ys h)

  -- no record has two levels
  pub level_one : (xs : List S) {m n : ℕ} → Level reads P xs m → Level reads P xs n → m ≡ n
  level_one xs (level3 s) (level3 t) = refl
  level_one xs (level3 s) (level2 t h) = absurd (h s)
  level_one xs (level3 s) (level1 t h) = absurd (h (strong_neutral xs s))
  level_one xs (level3 s) (level0 h) = absurd (h (neutral_weak xs (strong_neutral xs s)))
  level_one xs (level2 s k) (level3 t) = absurd (k t)
  level_one xs (level2 s k) (level2 t h) = refl
  level_one xs (level2 s k) (level1 t h) = absurd (h s)
  level_one xs (level2 s k) (level0 h) = absurd (h (neutral_weak xs s))
  level_one xs (level1 s k) (level3 t) = absurd (k (strong_neutral xs t))
  level_one xs (level1 s k) (level2 t h) = absurd (k t)
  level_one xs (level1 s k) (level1 t h) = refl
  level_one xs (level1 s k) (level0 h) = absurd (h s)
  level_one xs (level0 k) (level3 t) = absurd (k (neutral_weak xs (strong_neutral xs t)))
  level_one xs (level0 k) (level2 t h) = absurd (k (neutral_weak xs t))
  level_one xs (level0 k) (level1 t h) = absurd (k t)
  level_one xs (level0 k) (level0 h) = refl
