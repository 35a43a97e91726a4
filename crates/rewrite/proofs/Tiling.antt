-- Stretches of numbers, and the blocks of a table's nodes as stretches: each new node lies in one. Assumes nothing.
use native.Mathlib.Omega.{arith}
use native.Mathlib.Nat.{add-zero, zero-add, eq-or-lt_of_le}
use native.Mathlib.Numerals.{add-one}
use borrow.Author.Tests.{ne_eqb, lt-ltb, le-ltb, le-leb, lt-leb, not-true, eq-eqb}
use mathlib.Core.Path.{◌≡◌, refl, ◌∙◌, sym, ap}
use mathlib.Core.Logic.{⊎_elim}
use mathlib.Core.Bool.{Bool, true, false, cond, ◌&&◌, and-false}
use mathlib.Core.List.{List}
use Prim.Native.Nat.{ℕ, zero, suc, ◌+◌, ◌<◌, ◌≤◌}
use lib.Dec.{eqb, leb, ltb}
use Rattle.telling.proofs.Telling.{side}
use Rattle.refusal.specs.Heading.{count}
use Rattle.nodes.specs.NodeClock.{Ref}
use Rattle.nodes.proofs.Placing.{ind}
use Rattle.numbers.specs.Numbers.{sum, is_boolean, is_other, length_of, new_count, taken, start_of}
use Rattle.numbers.proofs.Sums.{sum_split}
use Rattle.numbers.proofs.Numbering.{count_split}

-- q is in the stretch of l numbers from a on
unfoldable pub within : ℕ → ℕ → ℕ → Bool
within a l q = leb a q && ltb q (a + l)

module _ (a l q : ℕ) where
  is_within : a ≤ q → q < a + l → ind (within a l q) ≡ 1
  unfolding within
  is_within h g = rw (le-leb a q h, lt-ltb q (a + l) g)

  is_before : q < a → ind (within a l q) ≡ 0
  unfolding within
  is_before h = rw (lt-leb a q h)

  is_after : a + l ≤ q → ind (within a l q) ≡ 0
  unfolding within
  is_after h = rw (le-ltb q (a + l) h, and-false (leb a q))

-- none, and one
pub none_within : (a q : ℕ) → ind (within a 0 q) ≡ 0
none_within a q = ⊎_elim (λ (g : q < a). is_before a 0 q g) (λ (g : a ≤ q). is_after a 0 q (omega arith)) (side q a)

one_within : (a q : ℕ) → ind (within a 1 q) ≡ ind (eqb a q)
one_within a q =
    ⊎_elim (λ (g : q < a). is_before a 1 q g ∙ rw (ne_eqb a q (λ e. omega arith)))
    (λ (g : a ≤ q).
    ⊎_elim (λ (e : a ≡ q). is_within a 1 q g (omega arith) ∙ rw (eq-eqb a q e))
    (λ (f : a < q). is_after a 1 q (omega arith) ∙ rw (ne_eqb a q (λ e. omega arith))) (eq-or-lt_of_le g))
    (side q a)

-- two stretches, one after the other
within_plus : (a l m q : ℕ) → ind (within a l q) + ind (within (a + l) m q) ≡ ind (within a (l + m) q)
within_plus a l m q =
    ⊎_elim
    (λ (g : q < a). let x = is_before a l q g in let y = is_before (a + l) m q (omega arith) in let z = is_before a (l + m) q g in omega arith)
    (λ (g : a ≤ q).
    ⊎_elim
    (λ (h : q < a + l). let x = is_within a l q g h in let y = is_before (a + l) m q h in let z = is_within a (l + m) q g (omega arith) in omega arith)
    (λ (h : a + l ≤ q).
    let x = is_after a l q h in
    ⊎_elim (λ (f : q < a + l + m). let y = is_within (a + l) m q h f in let z = is_within a (l + m) q g (omega arith) in omega arith)
    (λ (f : a + l + m ≤ q). let y = is_after (a + l) m q f in let z = is_after a (l + m) q (omega arith) in omega arith) (side q (a + l + m)))
    (side q (a + l)))
    (side q a)

-- one more
pub more_within : (a m q : ℕ) → ind (within a (suc m) q) ≡ ind (within a m q) + ind (eqb (a + m) q)
more_within a m q =
    ap (λ (l : ℕ). ind (within a l q)) (sym (add-one m)) ∙ sym (within_plus a m 1 q) ∙ ap (λ (x : ℕ). ind (within a m q) + x) (one_within (a + m) q)

-- one by one
pub spread : (a q m : ℕ) → ind (within a m q) ≡ sum (λ i. ind (eqb (a + i) q)) m
unfolding sum
spread a q zero = none_within a q
spread a q (suc m) = let e = spread a q m in let z = more_within a m q in omega arith

-- ---- the blocks

module _ (s : List ℕ) (clock : ℕ → Ref) where
  -- the blocks of those nodes below k that pass the test, one after the other from `base` on, fill one stretch
  filled : (test : ℕ → Bool) (base q : ℕ) → ((j : ℕ) → test j ≡ true → start_of s clock j ≡ base + taken s clock test j) → (k : ℕ)
      → sum (λ j. cond (test j) (ind (within (start_of s clock j) (length_of s clock j) q)) 0) k ≡ ind (within base (taken s clock test k) q)
  unfolding sum
  filled test base q at zero = sym (none_within base q)
  filled test base q at (suc k) =
      ap (λ (a : ℕ). a + cond (test k) (ind (within (start_of s clock k) (length_of s clock k) q)) 0) (filled test base q at k) ∙ go (test k) refl
    where
      before : ℕ
      before = taken s clock test k

      go : (b : Bool) → test k ≡ b
          → ind (within base before q) + cond b (ind (within (start_of s clock k) (length_of s clock k) q)) 0 ≡ ind (within base (before + cond b (length_of s clock k) 0) q)
      go true e = rw (at k e) (within_plus base before (length_of s clock k) q)
      go false e = rw (add-zero before) (add-zero _)

  -- each new node lies in one block
  pub in_one : (q : ℕ) → q < new_count s clock → sum (λ k. ind (within (start_of s clock k) (length_of s clock k) q)) (count s) ≡ 1
  unfolding start_of
  in_one q h =
      let first = taken s clock (is_boolean s) (count s) in
      let later = taken s clock (is_other s) (count s) in
      let e = count_split s clock (count s) in
      let p = sum_split (λ k. ind (within (start_of s clock k) (length_of s clock k) q)) (is_boolean s) (count s) in
      let a = filled (is_boolean s) 0 q (λ j z. rw z (sym (zero-add _))) (count s) in
      let b = filled (is_other s) first q (λ j z. rw (not-true (is_boolean s j) z)) (count s) in
      ⊎_elim
      (λ (g : q < first). let x = is_within 0 first q (omega arith) (omega arith) in let y = is_before first later q g in omega arith)
      (λ (g : first ≤ q). let x = is_after 0 first q (omega arith) in let y = is_within first later q g (omega arith) in omega arith)
      (side q first)
