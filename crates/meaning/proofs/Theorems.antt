-- The theorems of the published meaning, for any type of samples and whatever an atom reads. Each is proved in the file that it is taken from.
-- Assumes nothing.
use mathlib.Core.Bool.{Bool}
use mathlib.Core.Path.{◌≡◌, refl}
use mathlib.Core.Logic.{◌⊎◌, inl, inr, ◌↔◌}
use mathlib.Core.List.{List, [], ◌∷◌, ◌++◌}
use Prim.Native.Nat.{ℕ, zero, ◌≤◌, ◌<◌}
use lib.Dec.{T}
use Rattle.telling.specs.Tells.{Tells}
use Rattle.meaning.specs.Syntax.{Seq, Prop, until, Clock, free}
use Rattle.meaning.specs.Words.{Word, Tail, none, tops, bots, top, bot, word, suffix}
use Rattle.meaning.specs.Meaning.{Match, Sat, Accepted, Neutral, Weakly, Strongly, Level, level3, level2, level1, level0}
use Rattle.meaning.specs.Tested.{Tested, Tests}
use Rattle.meaning.specs.Reached.{Ground, ReachesGround, AskedImplication, Direct, Guarded}
use Rattle.meaning.specs.Levels.{level_of}
use Rattle.meaning.specs.Rewriting.{rew_s, rew_p}
use Rattle.meaning.proofs.Cells.{alive}
use Rattle.meaning.proofs.Order as Order
use Rattle.meaning.proofs.Order.{Below}
use Rattle.meaning.proofs.Tails as Tails
use Rattle.meaning.proofs.Shift as Shift
use Rattle.meaning.proofs.Closed as Closed
use Rattle.meaning.proofs.Testing as Testing
use Rattle.meaning.proofs.Leveling as Leveling
use Rattle.meaning.proofs.Rewriting as Rewriting

module _ {A S : Type 0} (reads : A → S → Bool) where
  -- what is said of suffix i within a word is what is said of it alone
  pub suffix_alone : (κ : Clock A) (P : Prop A) (w : Word S) (i : ℕ) → Sat reads κ P w i ↔ Sat reads κ P (suffix w i) zero
  suffix_alone = Shift.sat_suffix reads

  -- matching is monotone: higher letters, ⊥ below a sample below ⊤, match no less
  pub match_monotone : (κ : Clock A) (r : Seq A) (v w : Word S) (i j : ℕ) → ((p : ℕ) → i ≤ p → p < j → Below (v p) (w p))
      → Match reads κ r v i j → Match reads κ r w i j
  match_monotone = Order.match_mono reads

  -- no letter of a match is ⊥ or lies past the end of the word
  pub match_holds_no_bottom : (κ : Clock A) (r : Seq A) (w : Word S) (i j : ℕ) → Match reads κ r w i j → (p : ℕ) → i ≤ p → p < j → T (alive (w p))
  match_holds_no_bottom = Order.match_alive reads

  -- ⊤ for ever satisfies every accepted property, and ⊥ for ever none
  pub tops_satisfy : (κ : Clock A) (P : Prop A) → Accepted reads κ P → Sat reads κ P (λ p. top) zero
  tops_satisfy κ P a = (Tails.ends reads κ P a (λ p. top) zero).0 (λ p u. tt)

  pub bots_satisfy_none : (κ : Clock A) (P : Prop A) → Accepted reads κ P → ¬ Sat reads κ P (λ p. bot) zero
  bots_satisfy_none κ P a = (Tails.ends reads κ P a (λ p. bot) zero).1 (λ p u. tt)

  -- rewriting the clocks away keeps every match of every word, every answer of every record at every position, and the level
  pub rewriting_keeps_matches : (κ : Clock A) (r : Seq A) (w : Word S) (i j : ℕ) → Match reads κ r w i j ↔ Match reads free (rew_s κ r) w i j
  rewriting_keeps_matches = Rewriting.match_rew reads

  pub rewriting_keeps_answers : (κ : Clock A) (P : Prop A) (xs : List S) (t : Tail) (i : ℕ)
      → Sat reads κ P (word xs t) i ↔ Sat reads free (rew_p κ P) (word xs t) i
  rewriting_keeps_answers = Rewriting.sat_rew reads

  pub rewriting_keeps_level : (P : Prop A) (xs : List S) (m : ℕ) → Level reads P xs m ↔ Level reads (rew_p free P) xs m
  rewriting_keeps_level = Rewriting.level_rew reads

  -- and what is accepted stays accepted
  pub rewriting_keeps_acceptance : (κ : Clock A) (P : Prop A) → Accepted reads κ P → Accepted reads free (rew_p κ P)
  rewriting_keeps_acceptance = Rewriting.accepted_rew reads

  -- every record has a level, and three tests that decide its answers give it
  pub level_exists : (P : Prop A) (xs : List S) → (m : ℕ) × Level reads P xs m
  level_exists P xs = (Leveling.level_b reads P xs, Leveling.level_ok reads P xs)

  pub level_of_answers : {P : Prop A} {xs : List S} {strong neutral weak : Bool}
      → Tells strong (Strongly reads P xs) → Tells neutral (Neutral reads P xs) → Tells weak (Weakly reads P xs)
      → Level reads P xs (level_of strong neutral weak)
  level_of_answers = Leveling.level_from reads

  module _ (P : Prop A) (accepted : Accepted reads free P) where
    -- strong implies neutral implies weak
    pub strong_implies_neutral : (xs : List S) → Strongly reads P xs → Neutral reads P xs
    strong_implies_neutral = Closed.strong_neutral reads P accepted

    pub neutral_implies_weak : (xs : List S) → Neutral reads P xs → Weakly reads P xs
    neutral_implies_weak = Closed.neutral_weak reads P accepted

    -- a closed verdict never reopens, whatever samples come after
    pub held_stays : (xs ys : List S) → Level reads P xs 3 → Level reads P (xs ++ ys) 3
    held_stays = Closed.held reads P accepted

    pub broken_stays : (xs ys : List S) → Level reads P xs 0 → Level reads P (xs ++ ys) 0
    broken_stays = Closed.broken reads P accepted

    -- no record has two levels
    pub level_unique : (xs : List S) {m n : ℕ} → Level reads P xs m → Level reads P xs n → m ≡ n
    level_unique = Closed.level_one reads P accepted

    -- the empty record leaves it open: neither held nor broken for good
    pub empty_open : {m : ℕ} → Level reads P [] m → (m ≡ 1) ⊎ (m ≡ 2)
    unfolding word
    empty_open (level3 s) = absurd ((Tails.ends reads free P accepted (word [] bots) zero).1 (λ p u. tt) s)
    empty_open (level2 s h) = inr refl
    empty_open (level1 s h) = inl refl
    empty_open (level0 h) = absurd (h ((Tails.ends reads free P accepted (word [] tops) zero).0 (λ p u. tt)))

  -- ---- tested

  -- tested is to reach, from where it is asked, some strong or weak
  pub tested_is_reached : (w : Word S) (κ : Clock A) (P : Prop A) (i : ℕ) → Tested reads κ P w i ↔ ReachesGround reads w κ P i
  tested_is_reached = Testing.tested_is_reached reads

  -- with no `|->`, no nexttime and no until every record tests
  pub direct_tested : (P : Prop A) → Direct P → (xs : List S) → Tests reads xs P
  direct_tested P d xs = Testing.direct_tested reads (word xs none) free P zero d

  -- where a `|->` stands on each way down, a record that tests has matched one that was reached, with its right side tested from the match's last letter
  pub guarded_asked : (P : Prop A) → Guarded P → (xs : List S) → Tests reads xs P → AskedImplication reads (word xs none) free P zero
  guarded_asked P g xs t = Testing.guarded_asked reads (word xs none) free P zero g t

  -- by the letter of the rule `P until strong(R)` is tested by every record with a sample
  pub until_ground_tested : (P Q : Prop A) → Ground Q → (x : S) (xs : List S) → Tests reads (x ∷ xs) (until P Q)
  until_ground_tested = Testing.until_ground_tested reads
