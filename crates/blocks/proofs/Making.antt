-- Laws of a block as the code makes it, node by node: from the operator and new numbers. Assumes nothing.
use native.Mathlib.Omega.{arith}
use borrow.Author.Tests.{ne_eqb}
use mathlib.Core.Path.{◌≡◌, refl, ◌∙◌, sym}
use mathlib.Core.List.{List, [], ◌∷◌, map}
use Prim.Native.Nat.{ℕ, zero, suc, ◌<◌, ◌≤◌}
use lib.ListN.{length, get_or, get_or-map}
use Rattle.nodes.specs.declared.Raw.{Raw}
use Rattle.nodes.specs.declared.Node.{Node}
use Rattle.nodes.specs.Operators.{bytes, bytes_of}
use Rattle.blocks.specs.Blocks.{letter_block, next_block, until_block, under_block}
use Rattle.encoding.specs.Encoding.{blank, blank_node}

-- ---- a block's node i

-- i is none of the n numbers below n, as the last arm of a match has it
abbrev pub NotBelow : ℕ → ℕ → Type 0
NotBelow zero i = Unit {0}
NotBelow (suc n) i = NotBelow n i × (i ≡ n → ⊥)

pub not_below : (n i : ℕ) → NotBelow n i → n ≤ i
not_below zero i h = omega arith
not_below (suc n) i h = let l = not_below n i h.0 in let e = h.1 in omega arith

of_bytes : (vs : List Node) (i : ℕ) → get_or (map bytes_of vs) i blank ≡ bytes_of (get_or vs i blank_node)
of_bytes vs i = get_or-map bytes_of vs i blank_node

-- a block of one node
pub alone : (v : Raw) (i : ℕ) → i < 1 → get_or (v ∷ []) i blank ≡ v
alone v zero h = refl
alone v (suc i) h = absurd (let w : ⊥ = omega arith in w)

-- under a clock
module _ (at c op x y i : ℕ) (l : i < length (under_block at c op x y)) where
  -- what the three blocks of several nodes ask of i
  pub in_letter : op ≡ 16 → i < 9
  unfolding under_block
  in_letter e = rw e at l

  pub in_next : op ≡ 38 → i < 14
  unfolding under_block
  in_next e = rw e at l

  pub in_until : op ≡ 39 → i < 9
  unfolding under_block
  in_until e = rw e at l

  module _ (r : Raw) where
    abbrev Told : Type 0
    Told = r ≡ get_or (under_block at c op x y) i blank

    pub of_letter : op ≡ 16 → r ≡ bytes_of (get_or (letter_block at c x) i blank_node) → Told
    unfolding under_block
    of_letter e q = rw e (q ∙ sym (of_bytes (letter_block at c x) i))

    pub of_next : op ≡ 38 → r ≡ bytes_of (get_or (next_block at c x) i blank_node) → Told
    unfolding under_block
    of_next e q = rw e (q ∙ sym (of_bytes (next_block at c x) i))

    pub of_until : op ≡ 39 → r ≡ bytes_of (get_or (until_block at c x y) i blank_node) → Told
    unfolding under_block
    of_until e q = rw e (q ∙ sym (of_bytes (until_block at c x y) i))

    pub of_other : ((Unit {0} × (op ≡ 16 → ⊥)) × (op ≡ 38 → ⊥)) × (op ≡ 39 → ⊥) → r ≡ bytes op x y → Told
    unfolding under_block
    of_other d q =
        let m = rw (ne_eqb op 16 d.0.0.1, ne_eqb op 38 d.0.1, ne_eqb op 39 d.1) at l in
        rw (ne_eqb op 16 d.0.0.1, ne_eqb op 38 d.0.1, ne_eqb op 39 d.1) (q ∙ sym (alone (bytes op x y) i m))
