-- The block of a node is one of five: none, one node, or one of the three that are listed. Assumes nothing.
use native.Mathlib.Omega.{arith}
use borrow.Author.Tests.{eqb-true}
use mathlib.Core.Path.{◌≡◌, refl}
use mathlib.Core.Logic.{◌⊎◌, inl, inr}
use mathlib.Core.Bool.{Bool, true, false, cond, ◌||◌, true≢false}
use mathlib.Core.List.{[], ◌∷◌, map}
use Prim.Native.Nat.{ℕ}
use lib.Dec.{eqb}
use Rattle.nodes.specs.declared.Raw.{Raw}
use Rattle.nodes.specs.Operators.{operators, lookup, row_of, bytes, bytes_of}
use Rattle.nodes.specs.NodeClock.{Ref, free_r, on_r}
use Rattle.encoding.specs.Moved.{moved, moved_node}
use Rattle.blocks.specs.Blocks.{letter_block, next_block, until_block, under_block, moved_block, block_under}

-- a letter, nexttime or until
abbrev pub listed : ℕ → Bool
listed op = eqb op 16 || (eqb op 38 || eqb op 39)

-- a node with no clock, or not listed
abbrev pub Single : Ref → ℕ → Type 0
Single ρ op = (ρ ≡ free_r) ⊎ (listed op ≡ false)

-- op(x, y) under c
under_else : (at c op x y : ℕ) → listed op ≡ false → under_block at c op x y ≡ bytes op x y ∷ []
unfolding under_block
under_else at c op x y e = go (eqb op 16) (eqb op 38) (eqb op 39) e
  where
    go : (t u v : Bool) → (t || (u || v)) ≡ false
        → cond t (map bytes_of (letter_block at c x)) (cond u (map bytes_of (next_block at c x)) (cond v (map bytes_of (until_block at c x y)) (bytes op x y ∷ []))) ≡ bytes op x y ∷ []
    go true u v e = absurd (true≢false e)
    go false true v e = absurd (true≢false e)
    go false false true e = absurd (true≢false e)
    go false false false e = refl

pub not_free : (c : ℕ) → ¬ (on_r c ≡ free_r)
not_free c e = let w : ◌≡◌ {A = ℕ} 0 1 = cc in omega arith

module _ (ν : ℕ → ℕ) (ρ : Ref) (at : ℕ) (r : Raw) where
  pub none_is : eqb (row_of r.op).block 0 ≡ true → block_under ν ρ at r ≡ []
  unfolding block_under
  none_is z = rw z

  moved_is : Single ρ r.op → moved_block ν ρ at r ≡ moved_node ν r ∷ []
  unfolding moved_block moved_node
  moved_is q = go ρ q
    where
      go : (ρ : Ref) → Single ρ r.op → moved_block ν ρ at r ≡ moved_node ν r ∷ []
      go free_r q = refl
      go (on_r c) (inl q) = absurd (not_free c q)
      go (on_r c) (inr q) = under_else at (ν c) r.op (moved_node ν r).x (moved_node ν r).y q

  pub single_is : eqb (row_of r.op).block 0 ≡ false → Single ρ r.op → block_under ν ρ at r ≡ moved_node ν r ∷ []
  unfolding block_under
  single_is z q = rw z (moved_is q)

  module _ (c : ℕ) (ec : ρ ≡ on_r c) where
    pub letter_is : r.op ≡ 16 → block_under ν ρ at r ≡ map bytes_of (letter_block at (ν c) (ν r.x))
    unfolding block_under moved_block under_block moved_node moved row_of lookup operators
    letter_is e = rw (ec, e)

    pub next_is : r.op ≡ 38 → block_under ν ρ at r ≡ map bytes_of (next_block at (ν c) (ν r.x))
    unfolding block_under moved_block under_block moved_node moved row_of lookup operators
    next_is e = rw (ec, e)

    pub until_is : r.op ≡ 39 → block_under ν ρ at r ≡ map bytes_of (until_block at (ν c) (ν r.x) (ν r.y))
    unfolding block_under moved_block under_block moved_node moved row_of lookup operators
    until_is e = rw (ec, e)

-- which of the five it is
pub data View (ρ : Ref) (op : ℕ) : Type 0 where
  of_none : eqb (row_of op).block 0 ≡ true → View ρ op
  of_single : eqb (row_of op).block 0 ≡ false → Single ρ op → View ρ op
  of_letter : (c : ℕ) → ρ ≡ on_r c → op ≡ 16 → View ρ op
  of_next : (c : ℕ) → ρ ≡ on_r c → op ≡ 38 → View ρ op
  of_until : (c : ℕ) → ρ ≡ on_r c → op ≡ 39 → View ρ op

pub view : (ρ : Ref) (op : ℕ) → View ρ op
view ρ op = first (eqb (row_of op).block 0) refl
  where
    listing : eqb (row_of op).block 0 ≡ false → (c : ℕ) → ρ ≡ on_r c → (t : Bool) → eqb op 16 ≡ t → (u : Bool) → eqb op 38 ≡ u → (v : Bool) → eqb op 39 ≡ v → View ρ op
    listing z c e true p u q v r = of_letter c e (eqb-true op 16 p)
    listing z c e false p true q v r = of_next c e (eqb-true op 38 q)
    listing z c e false p false q true r = of_until c e (eqb-true op 39 r)
    listing z c e false p false q false r = of_single z (inr (rw (p, q, r)))

    under : eqb (row_of op).block 0 ≡ false → (σ : Ref) → ρ ≡ σ → View ρ op
    under z free_r e = of_single z (inl e)
    under z (on_r c) e = listing z c e (eqb op 16) refl (eqb op 38) refl (eqb op 39) refl

    first : (b : Bool) → eqb (row_of op).block 0 ≡ b → View ρ op
    first true z = of_none z
    first false z = under z ρ refl
