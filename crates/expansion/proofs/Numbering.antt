-- The numbers of the booleans: each stands in the list at its number, and every place of the list is such a number. Assumes nothing.
use native.Mathlib.Omega.{arith}
use native.Mathlib.Nat.{eq-or-lt_of_le, not-suc-le-zero, le_of_suc-le-suc}
use mathlib.Core.Path.{◌≡◌, refl, ◌∙◌, sym, ap}
use mathlib.Core.Logic.{⊎_elim}
use mathlib.Core.List.{List, [], ◌∷◌, map}
use Prim.Native.Nat.{ℕ, zero, suc, ◌+◌, ◌<◌, ◌≤◌}
use lib.ListN.{length, get_or, length-append, length-map, get_or-append}
use lib.Seq.{get_or_at}
use Rattle.telling.proofs.Telling.{side}
use Rattle.nodes.specs.declared.Raw.{Raw}
use Rattle.nodes.specs.declared.BooleanOp.{BooleanOp}
use Rattle.nodes.specs.Operators.{boolean_bytes}
use Rattle.nodes.specs.Nodes.{node_at}
use Rattle.encoding.specs.Moved.{moved_node}
use Rattle.encoding.specs.Encoding.{blank}
use Rattle.expansion.specs.Booleans.{given, number_of, given_at, booleans_below}
use Rattle.expansion.proofs.Giving.{given_few}

-- a list of one, if any
one_of : {A : Type 0} (os : List A) → 0 < length os → length os ≤ 1 → (o : A) × (os ≡ o ∷ [])
one_of [] l h = absurd (not-suc-le-zero l)
one_of (o ∷ []) l h = (o, refl)
one_of (o ∷ p ∷ os) l h = absurd (let z : ⊥ = omega arith in z)

module _ (s : List ℕ) where
  -- no number is above that of its node, and they rise
  pub number_le : (k : ℕ) → number_of s k ≤ k
  unfolding number_of
  number_le zero = omega arith
  number_le (suc k) = let h = number_le k in let l = given_few (node_at s k) in omega arith

  pub number_rises : (k n : ℕ) → k ≤ n → number_of s k ≤ number_of s n
  unfolding number_of
  number_rises k zero h = let e : k ≡ 0 = omega arith in rw e (omega arith)
  number_rises k (suc n) h =
      ⊎_elim (λ (e : k ≡ suc n). rw e (omega arith)) (λ (l : k < suc n). let p = number_rises k n (le_of_suc-le-suc l) in omega arith) (eq-or-lt_of_le h)

  -- a boolean's bytes in the new table
  abbrev moved : BooleanOp → Raw
  moved o = moved_node (number_of s) (boolean_bytes o)

  pub length-booleans : (k : ℕ) → length (booleans_below s k) ≡ number_of s k
  unfolding number_of booleans_below
  length-booleans zero = refl
  length-booleans (suc k) =
      length-append (booleans_below s k) (given_at s k)
      ∙ (λ i. length-booleans k i + length-map (given (node_at s k)) moved i)

  -- ---- a node that gives a boolean

  module _ (k : ℕ) (o : BooleanOp) (e : given (node_at s k) ≡ o ∷ []) where
    pub number_next : number_of s (suc k) ≡ number_of s k + 1
    unfolding number_of
    number_next = ap (λ (os : List BooleanOp). number_of s k + length os) e

    -- has a number below those of all nodes above it
    pub number-below : (n : ℕ) → k < n → number_of s k < number_of s n
    number-below n l = let a = number_next in let b = number_rises (suc k) n l in omega arith

    -- and the boolean stands there
    pub boolean_at : (n : ℕ) → k < n → get_or (booleans_below s n) (number_of s k) blank ≡ moved_node (number_of s) (boolean_bytes o)
    unfolding booleans_below
    boolean_at zero l = absurd (not-suc-le-zero l)
    boolean_at (suc n) l =
        ⊎_elim
        (λ (z : k ≡ n).
        let p : given_at s n ≡ moved o ∷ [] = ap (given_at s) (sym z) ∙ ap (map moved) e in
        rw p (get_or_at (booleans_below s n) _ [] blank (number_of s k) (length-booleans n ∙ ap (number_of s) (sym z))))
        (λ (u : k < n).
        let a = number-below n u in
        let b = length-booleans n in
        get_or-append (booleans_below s n) (given_at s n) blank (number_of s k) (omega arith) ∙ boolean_at n u)
        (eq-or-lt_of_le (le_of_suc-le-suc l))

  -- ---- every number is that of a node

  pub found : (n q : ℕ) → q < number_of s n → (k : ℕ) × (o : BooleanOp) × (k < n) × (number_of s k ≡ q) × (given (node_at s k) ≡ o ∷ [])
  unfolding number_of
  found zero q l = absurd (not-suc-le-zero l)
  found (suc n) q l =
      ⊎_elim (λ (h : q < number_of s n). let (k, o, u, e, z) = found n q h in (k, o, omega arith, e, z))
      (λ (h : number_of s n ≤ q).
      let f = given_few (node_at s n) in
      let (o, z) = one_of (given (node_at s n)) (omega arith) f in
      (n, o, omega arith, omega arith, z))
      (side q (number_of s n))
