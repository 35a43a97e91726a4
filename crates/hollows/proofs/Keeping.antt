-- The flags of each node, and how the code keeps them: those of the k nodes below, in their order, and nothing after them. Assumes nothing.
use native.Mathlib.Omega.{arith}
use native.Mathlib.Numerals.{add-one}
use native.Mathlib.Nat.{not-suc-le-zero, eq-or-lt_of_le, le_of_suc-le-suc}
use borrow.Author.Tests.{ltb-false}
use mathlib.Core.Path.{◌≡◌, refl, ◌∙◌, sym, ap}
use mathlib.Core.Logic.{⊎_elim}
use mathlib.Core.Bool.{Bool, true, false, cond}
use mathlib.Core.List.{List, [], ◌∷◌}
use Prim.Native.Nat.{ℕ, zero, suc, ◌+◌, ◌<◌, ◌≤◌}
use lib.Dec.{ltb}
use lib.ListN.{length, length-append, take, get_or, set, replicate, get_or-eq_default, get_or-append}
use lib.Seq.{get_or_at, take-suc-set, get_or-take, get_or-set_other}
use Rattle.telling.proofs.Telling.{side}
use Rattle.telling.proofs.Filled.{filled}
use Rattle.nodes.specs.declared.Raw.{Raw}
use Rattle.nodes.specs.declared.Node.{Node}
use Rattle.hollows.specs.declared.Tops.{Tops}
use Rattle.nodes.specs.Operators.{node_of, Decodes}
use Rattle.nodes.specs.Nodes.{raw_at, node_at}
use Rattle.hollows.specs.Flags.{nothing, tops_at, node_tops, tops_below, hollow_node, hollow}
use Rattle.nodes.specs.Computed.{named_by}

-- ---- the flags of each node, from those of the nodes below

module _ (s : List ℕ) where
  -- what is known of the operands of node k, and of the node
  abbrev pub of_x : ℕ → Tops
  of_x k = tops_at (tops_below s k) (raw_at s k).x

  abbrev pub of_y : ℕ → Tops
  of_y k = tops_at (tops_below s k) (raw_at s k).y

  abbrev pub flags_at : ℕ → Tops
  flags_at k = node_tops (node_at s k) (of_x k) (of_y k)

  pub long : (n : ℕ) → length (tops_below s n) ≡ n
  unfolding tops_below
  long zero = refl
  long (suc n) = length-append (tops_below s n) (flags_at n ∷ []) ∙ (let e = long n in omega arith)

  pub flags_of : (n k : ℕ) → k < n → tops_at (tops_below s n) k ≡ flags_at k
  unfolding tops_below
  flags_of zero k h = absurd (not-suc-le-zero h)
  flags_of (suc n) k h =
      ⊎_elim (λ e. rw e (get_or_at (tops_below s n) (flags_at n) [] nothing n (long n)))
      (λ l. get_or-append (tops_below s n) (flags_at n ∷ []) nothing k (rw (long n) l) ∙ flags_of n k l)
      (eq-or-lt_of_le (le_of_suc-le-suc h))

-- ---- as the code keeps them

module _ (s : List ℕ) (n k : ℕ) (h : k < n) (few : n ≤ 120) (done : List Tops) (d : take k done ≡ tops_below s k)
    (z : (j : ℕ) → k ≤ j → get_or done j nothing ≡ nothing) where
  -- what is kept of an operand is what is known of it
  kept : (v : ℕ) → get_or done (named_by v) nothing ≡ tops_at (tops_below s k) v
  unfolding named_by
  kept v = go (ltb v 120) refl
    where
      past : k ≤ v → tops_at (tops_below s k) v ≡ nothing
      past l = get_or-eq_default (tops_below s k) nothing (let e = long s k in omega arith)

      go : (b : Bool) → ltb v 120 ≡ b → get_or done (cond b v 120) nothing ≡ tops_at (tops_below s k) v
      go true e =
          ⊎_elim (λ (l : v < k). sym (get_or-take k done v nothing l) ∙ ap (λ (t : List Tops). get_or t v nothing) d)
          (λ (l : k ≤ v). z v l ∙ sym (past l)) (side v k)
      go false e = let g = ltb-false v 120 e in z 120 (omega arith) ∙ sym (past (omega arith))

  module _ (w : Raw) (ew : w ≡ raw_at s k) (v : Node) (ev : Decodes w v) (p : ℕ) (ep : p ≡ named_by w.x) where
    node : v ≡ node_at s k
    node = ev.made ∙ ap node_of ew

    left : get_or done p nothing ≡ tops_at (tops_below s k) (raw_at s k).x
    left = rw (ep, ew) (kept (raw_at s k).x)

    pub grown : length done ≡ 121 → (q : ℕ) → q ≡ named_by w.y → (a : Tops) → a ≡ node_tops v (get_or done p nothing) (get_or done q nothing)
        → take (k + 1) (set done k a) ≡ tops_below s (k + 1)
    unfolding tops_below
    grown o q eq a e =
        let l : k < length done = omega arith in
        let right : get_or done q nothing ≡ tops_at (tops_below s k) (raw_at s k).y = rw (eq, ew) (kept (raw_at s k).y) in
        rw (add-one k, take-suc-set done k a l, e, d, node, left, right)

    pub looked : (t : Bool) → t ≡ hollow_node v (get_or done p nothing) → t ≡ hollow s k
    unfolding hollow
    looked t e = e ∙ rw (node, left)

-- nothing is kept past the node whose flags came last
pub still : (k : ℕ) (done : List Tops) → ((j : ℕ) → k ≤ j → get_or done j nothing ≡ nothing) → (a : Tops) (j : ℕ) → k + 1 ≤ j → get_or (set done k a) j nothing ≡ nothing
still k done z a j l = get_or-set_other done k j a nothing (λ e. omega arith) ∙ z j (omega arith)

pub nothing_kept : (j : ℕ) → get_or (replicate 121 nothing) j nothing ≡ nothing
nothing_kept j = filled nothing 121 j
