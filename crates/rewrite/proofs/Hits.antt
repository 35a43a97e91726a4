-- The operand places of a list of nodes, and of the block of each kind of node. Assumes nothing.
use native.Mathlib.Omega.{arith}
use native.Mathlib.Nat.{add-zero}
use mathlib.Core.Path.{◌≡◌, refl, ◌∙◌, sym, ap, subst}
use mathlib.Core.Bool.{Bool, true, false, not, cond}
use mathlib.Core.List.{List, [], ◌∷◌, ◌++◌, map}
use Prim.Native.Nat.{ℕ, ◌+◌, ◌-◌, ◌<◌}
use lib.Dec.{eqb}
use lib.ListN.{length, get_or}
use Rattle.nodes.specs.declared.Raw.{Raw}
use Rattle.nodes.specs.Operators.{none, boolean, operators, lookup, row_of, bytes_of, boolean_bytes, sequence_bytes, property_bytes}
use Rattle.nodes.specs.Nodes.{hits_of}
use Rattle.nodes.specs.NodeClock.{Ref, on_r}
use Rattle.nodes.proofs.Placing.{ind}
use Rattle.numbers.specs.Numbers.{sum}
use Rattle.numbers.proofs.Sums.{sum_first}
use Rattle.encoding.specs.Moved.{moved, moved_node}
use Rattle.blocks.specs.Blocks.{letter_block, next_block, until_block, block_under}
use Rattle.encoding.specs.Encoding.{blank}
use Rattle.blocks.proofs.Viewing.{none_is, single_is, letter_is, next_is, until_is, View, of_none, of_single, of_letter, of_next, of_until, view}
use Rattle.rewrite.proofs.Tallies.{held_in}
use Rattle.rewrite.proofs.Tiling.{within, none_within, spread}

-- ---- the operand places of a list of nodes

-- how many operand places of the node hold q
unfoldable pub hits_by : ℕ → Raw → ℕ
hits_by q r = hits_of (row_of r.op).x r.x q + hits_of (row_of r.op).y r.y q

unfoldable pub hits_in : ℕ → List Raw → ℕ
hits_in q [] = 0
hits_in q (r ∷ rs) = hits_by q r + hits_in q rs

pub hits_append : (q : ℕ) (us vs : List Raw) → hits_in q (us ++ vs) ≡ hits_in q us + hits_in q vs
unfolding hits_in
hits_append q [] vs = omega arith
hits_append q (r ∷ us) vs = let e = hits_append q us vs in omega arith

-- by number
pub hits_sum : (q : ℕ) (us : List Raw) → sum (λ j. hits_by q (get_or us j blank)) (length us) ≡ hits_in q us
unfolding hits_in sum
hits_sum q [] = refl
hits_sum q (r ∷ us) = sum_first (λ j. hits_by q (get_or (r ∷ us) j blank)) (length us) ∙ ap (λ (a : ℕ). hits_by q r + a) (hits_sum q us)

-- ---- the blocks

-- q is in the stretch of l numbers from a on, and not its last
abbrev pub inner : ℕ → ℕ → ℕ → ℕ
inner a l q = ind (within a (l - 1) q)

-- the three listed blocks, where c and the booleans of the block are not q: each other node but the last is in one place, and so is each operand
module _ (q a c : ℕ) (off : ind (eqb c q) ≡ 0) where
  at_first_lem : ind (eqb (a + 0) q) ≡ ind (eqb a q)
  at_first_lem = rw (add-zero a)

  letter_hits : (b : ℕ) → ind (eqb (a + 0) q) ≡ 0 → ind (eqb (a + 1) q) ≡ 0 → hits_in q (map bytes_of (letter_block a c b)) ≡ inner a 9 q + ind (eqb b q)
  unfolding hits_in hits_by hits_of row_of lookup operators bytes_of boolean_bytes sequence_bytes property_bytes sum
  letter_hits b f g = let e = spread a q 8 in let z = at_first_lem in omega arith

  next_hits : (p : ℕ) → ind (eqb (a + 0) q) ≡ 0 → hits_in q (map bytes_of (next_block a c p)) ≡ inner a 14 q + ind (eqb p q)
  unfolding hits_in hits_by hits_of row_of lookup operators bytes_of boolean_bytes sequence_bytes property_bytes sum
  next_hits p f = let e = spread a q 13 in let z = at_first_lem in omega arith

  until_hits : (p r : ℕ) → hits_in q (map bytes_of (until_block a c p r)) ≡ inner a 9 q + (ind (eqb p q) + ind (eqb r q))
  unfolding hits_in hits_by hits_of row_of lookup operators bytes_of boolean_bytes sequence_bytes property_bytes sum
  until_hits p r = let e = spread a q 8 in let z = at_first_lem in omega arith

-- the block of a node r, from number `at` on
module _ (q : ℕ) (ν : ℕ → ℕ) (at : ℕ) (r : Raw) where
  -- q stands for x
  abbrev stands_for : ℕ → Bool
  stands_for x = eqb (ν x) q

  -- how many operand places of r hold what q stands for, were o its operator; a clock node gives none
  abbrev both : ℕ → ℕ
  both o = held_in stands_for (row_of o).x r.x + held_in stands_for (row_of o).y r.y

  abbrev held : ℕ → ℕ
  held o = cond (not (eqb (row_of o).block 0)) (both o) 0

  moved_hits : (sort v : ℕ) → hits_of sort (moved ν sort v) q ≡ held_in stands_for sort v
  unfolding hits_of moved held_in
  moved_hits sort v = go (eqb sort none)
    where
      go : (b : Bool) → cond b 0 (ind (eqb (cond b v (ν v)) q)) ≡ cond b 0 (ind (stands_for v))
      go true = refl
      go false = refl

  single_hits : hits_in q (moved_node ν r ∷ []) ≡ inner at 1 q + both r.op
  unfolding hits_in hits_by moved_node
  single_hits =
      let z = none_within at q in
      let e = moved_hits (row_of r.op).x r.x in
      let f = moved_hits (row_of r.op).y r.y in
      omega arith

  -- the booleans of the block are not q
  abbrev Off : List Raw → Type 0
  Off us = (i : ℕ) → i < length us → (row_of (get_or us i blank).op).own ≡ boolean → ind (eqb (at + i) q) ≡ 0

  abbrev Told : List Raw → Type 0
  Told us = Off us → hits_in q us ≡ inner at (length us) q + held r.op

  pub under_hits : (ρ : Ref) → ((c : ℕ) → ρ ≡ on_r c → ind (eqb (ν c) q) ≡ 0) → Told (block_under ν ρ at r)
  unfolding hits_in row_of lookup operators bytes_of boolean_bytes sequence_bytes property_bytes held_in
  under_hits ρ f = go (view ρ r.op)
    where
      go : View ρ r.op → Told (block_under ν ρ at r)
      go (of_none z) = subst Told (sym (none_is ν ρ at r z)) (λ off. rw z (let e = none_within at q in omega arith))
      go (of_single z u) = subst Told (sym (single_is ν ρ at r z u)) (λ off. rw z single_hits)
      go (of_letter c e o) =
          subst Told (sym (letter_is ν ρ at r c e o))
          (λ off.
          let z = letter_hits q at (ν c) (f c e) (ν r.x) (off 0 (omega arith) refl) (off 1 (omega arith) refl) in
          let w : held r.op ≡ ind (stands_for r.x) + 0 = ap held o in
          omega arith)
      go (of_next c e o) =
          subst Told (sym (next_is ν ρ at r c e o))
          (λ off.
          let z = next_hits q at (ν c) (f c e) (ν r.x) (off 0 (omega arith) refl) in
          let w : held r.op ≡ ind (stands_for r.x) + 0 = ap held o in
          omega arith)
      go (of_until c e o) =
          subst Told (sym (until_is ν ρ at r c e o))
          (λ off.
          let z = until_hits q at (ν c) (f c e) (ν r.x) (ν r.y) in
          let w : held r.op ≡ ind (stands_for r.x) + ind (stands_for r.y) = ap held o in
          omega arith)
