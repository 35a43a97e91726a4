-- Version 1 answers stay, at the level of the meaning: a tree whose atoms are signals alone says of the pairs of a record what it says of its samples.
-- Assumes nothing.
use mathlib.Core.Path.{◌≡◌, refl, ap, ◌∙◌, fun_ext}
use mathlib.Core.Logic.{◌↔◌}
use mathlib.Core.List.{List, [], ◌∷◌}
use Prim.Native.Nat.{ℕ, zero, suc, ◌≤◌}
use lib.Dec.{T}
use Rattle.positions.specs.Member.{has}
use Rattle.meaning.specs.Syntax.{Bexp, Seq, Prop, Clock, free}
use Rattle.meaning.specs.Words.{Word, Tail, none, tops, bots, word}
use Rattle.meaning.specs.Meaning.{satisfies, Match, Sat, Level, Ends, Topped, Accepted}
use Rattle.meaning.specs.Tested.{Tested, Tests}
use Rattle.meaning.specs.Signal.{signal}
use Rattle.meaning.specs.Pairs.{Pair, high, reading, pairs_after, pairs}
use Rattle.meaning.specs.Renaming.{rename_c, signals_b, signals_s, signals_p, signals_c}
use Rattle.meaning.proofs.Leveling.{same_level}
use Rattle.meaning.proofs.Pairing.{length_pairs}
use Rattle.meaning.proofs.Renaming.{both_ways, map_word, satisfies_renamed, match_renamed, sat_renamed, tested_renamed, topped_renamed, accepted_renamed}

-- the samples of the pairs
abbrev pub samples : Word Pair → Word ℕ
samples = map_word (λ p. p.sample)

pub samples-word : (xs : List ℕ) (t : Tail) → samples (word (pairs xs) t) ≡ word xs t
unfolding word pairs_after
samples-word xs t = fun_ext (after 0 xs t)
  where
    after : (before : ℕ) (xs : List ℕ) (t : Tail) (p : ℕ) → samples (word (pairs_after before xs) t) p ≡ word xs t p
    after before [] none p = refl
    after before [] tops p = refl
    after before [] bots p = refl
    after before (x ∷ xs) t zero = refl
    after before (x ∷ xs) t (suc p) = after x xs t p

pub satisfies_by_samples : (b : Bexp ℕ) (xs : List ℕ) (t : Tail) (i : ℕ) → satisfies reading (word (pairs xs) t i) (signals_b b) ≡ satisfies signal (word xs t i) b
satisfies_by_samples b xs t i =
    satisfies_renamed high (λ p. p.sample) signal reading (λ x p. refl) b (word (pairs xs) t i) ∙ ap (λ w. satisfies signal (w i) b) (samples-word xs t)

match_same : (κ : Clock ℕ) (r : Seq ℕ) (xs : List ℕ) (t : Tail) → Match reading (signals_c κ) (signals_s r) (word (pairs xs) t) ≡ Match signal κ r (word xs t)
match_same κ r xs t =
    match_renamed high (λ p. p.sample) signal reading (λ x p. refl) κ r (word (pairs xs) t) ∙ ap (Match signal κ r) (samples-word xs t)

pub match_by_samples : (κ : Clock ℕ) (r : Seq ℕ) (xs : List ℕ) (t : Tail) (i j : ℕ)
    → Match reading (signals_c κ) (signals_s r) (word (pairs xs) t) i j ↔ Match signal κ r (word xs t) i j
match_by_samples κ r xs t i j = both_ways (ap (λ M. M i j) (match_same κ r xs t))

pub sat_by_samples : (κ : Clock ℕ) (P : Prop ℕ) (xs : List ℕ) (t : Tail) (i : ℕ)
    → Sat reading (signals_c κ) (signals_p P) (word (pairs xs) t) i ↔ Sat signal κ P (word xs t) i
sat_by_samples κ P xs t i =
    both_ways
    (ap (λ M. M i) (sat_renamed high (λ p. p.sample) signal reading (λ x p. refl) κ P (word (pairs xs) t) ∙ ap (Sat signal κ P) (samples-word xs t)))

pub tested_by_samples : (κ : Clock ℕ) (P : Prop ℕ) (xs : List ℕ) (i : ℕ)
    → Tested reading (signals_c κ) (signals_p P) (word (pairs xs) none) i ↔ Tested signal κ P (word xs none) i
tested_by_samples κ P xs i =
    both_ways
    (ap (λ M. M i) (tested_renamed high (λ p. p.sample) signal reading (λ x p. refl) κ P (word (pairs xs) none) ∙ ap (Tested signal κ P) (samples-word xs none)))

pub tests_by_samples : (P : Prop ℕ) (xs : List ℕ) → Tests reading (pairs xs) (signals_p P) ↔ Tests signal xs P
unfolding rename_c
tests_by_samples P xs = tested_by_samples free P xs zero

pub level_by_samples : (P : Prop ℕ) (xs : List ℕ) (m : ℕ) → Level reading (signals_p P) (pairs xs) m ↔ Level signal P xs m
unfolding rename_c
level_by_samples P xs m = same_level reading signal (pairs xs) xs (λ t. sat_by_samples free P xs t zero)

pub ends_by_samples : (r : Seq ℕ) (xs : List ℕ) (i mask : ℕ) → Ends reading (signals_s r) (pairs xs) i mask ↔ Ends signal r xs i mask
unfolding rename_c
ends_by_samples r xs i mask =
    both_ways (λ e. (j : ℕ) → T (has mask j) ↔ ((j ≤ length_pairs xs e) × match_same free r xs none e i j))

pub topped_by_samples : (κ : Clock ℕ) (r : Seq ℕ) → Topped reading (signals_c κ) (signals_s r) ↔ Topped signal κ r
topped_by_samples κ r = both_ways (topped_renamed high (λ p. p.sample) signal reading (λ x p. refl) κ r)

pub accepted_by_samples : (κ : Clock ℕ) (P : Prop ℕ) → Accepted reading (signals_c κ) (signals_p P) ↔ Accepted signal κ P
accepted_by_samples κ P = both_ways (accepted_renamed high (λ p. p.sample) signal reading (λ x p. refl) κ P)
