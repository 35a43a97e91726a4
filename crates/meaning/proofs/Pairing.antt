-- The pairs of a record's samples: as many as the samples, each where its sample stands, and more samples only add pairs. Assumes nothing.
use mathlib.Core.Path.{◌≡◌, refl, ap}
use mathlib.Core.List.{List, [], ◌∷◌, ◌++◌}
use Prim.Native.Nat.{ℕ, zero, suc, ◌<◌}
use native.Mathlib.Omega.{arith}
use native.Mathlib.Nat.{le_of_suc-le-suc}
use lib.ListN.{length, get_or}
use Rattle.meaning.specs.Words.{Tail, real, word}
use Rattle.meaning.specs.Pairs.{Pair, pairs_after, pairs}

pub length_pairs : (xs : List ℕ) → length (pairs xs) ≡ length xs
unfolding pairs_after
length_pairs = after 0
  where
    after : (before : ℕ) (xs : List ℕ) → length (pairs_after before xs) ≡ length xs
    after before [] = refl
    after before (x ∷ xs) = ap suc (after x xs)

-- the pairs of a record stay as they are when samples are added
pub pairs-append : (xs ys : List ℕ) → (zs : List Pair) × (pairs (xs ++ ys) ≡ pairs xs ++ zs)
unfolding pairs_after
pairs-append = after 0
  where
    after : (before : ℕ) (xs ys : List ℕ) → (zs : List Pair) × (pairs_after before (xs ++ ys) ≡ pairs_after before xs ++ zs)
    after before [] ys = (pairs_after before ys, refl)
    after before (x ∷ xs) ys = let (zs, e) = after x xs ys in (zs, ap (λ l. record { before = before; sample = x } ∷ l) e)

-- what stands at a sample's place, whatever suffix it is read in
pub pair_at : (xs : List ℕ) (t : Tail) (i : ℕ) → i < length xs → word (pairs xs) t i ≡ real (record { before = get_or (0 ∷ xs) i 0; sample = get_or xs i 0 })
unfolding pairs_after word
pair_at = after 0
  where
    after : (before : ℕ) (xs : List ℕ) (t : Tail) (i : ℕ) → i < length xs
        → word (pairs_after before xs) t i ≡ real (record { before = get_or (before ∷ xs) i 0; sample = get_or xs i 0 })
    after before [] t i l = absurd (omega arith)
    after before (x ∷ xs) t zero l = refl
    after before (x ∷ xs) t (suc i) l = after x xs t i (le_of_suc-le-suc l)
