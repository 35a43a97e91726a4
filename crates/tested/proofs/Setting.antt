-- The sets of a table's nodes: each rule from sets that are known by their places, and the array that has them, node by node. Assumes nothing.
use mathlib.Core.Path.{◌≡◌, refl, sym, ap, ap₂, subst, ◌∙◌}
use mathlib.Core.Bool.{Bool}
use mathlib.Core.List.{List, []}
use mathlib.Core.Logic.{⊎_elim}
use Prim.Native.Nat.{ℕ, zero, suc, ◌+◌, ◌-◌, ◌^◌, ◌<◌, ◌≤◌}
use native.Mathlib.Omega.{arith}
use native.Mathlib.Nat.{eq-or-lt_of_le, le_of_suc-le-suc, not-suc-le-zero}
use native.Mathlib.Numerals.{add-one}
use lib.ListN.{length, get_or, set, replicate, length-append, length-set, get_or-append, get_or-eq_default}
use lib.Seq.{get_or_at, get_or-set_same, get_or-set_other}
use Rattle.std.specs.Prelude.{Option, None}
use Rattle.telling.proofs.Telling.{side}
use Rattle.telling.proofs.Filled.{filled}
use Rattle.positions.specs.Member.{has, Is}
use Rattle.refusal.specs.Heading.{count}
use Rattle.nodes.specs.declared.Raw.{Raw}
use Rattle.nodes.specs.Operators.{node_of}
use Rattle.nodes.specs.Nodes.{raw_at, node_at}
use Rattle.nodes.specs.Computed.{named_by}
use Rattle.cells.specs.Stored.{set64}
use Rattle.cells.proofs.Laying.{word_is}
use Rattle.tested.specs.Computed.{standing, set_of, node_there, node_tested, standing_of, set_from, sets_below, tested_in, Testing}

-- ---- the array of the sets, node by node

module _ (s : List ℕ) (clocks : List (Option ℕ)) (numbers rows : List ℕ) (n : ℕ) where
  abbrev below : ℕ → List ℕ
  below = sets_below s clocks numbers rows n

  length-below : (k : ℕ) → length (below k) ≡ k
  unfolding sets_below
  length-below zero = refl
  length-below (suc k) = rw (length-append, length-below k) (omega arith)

  -- the set of a node, whichever nodes come after it
  pub set_below : (m k : ℕ) → k < m → get_or (below m) k 0 ≡ set_from s clocks numbers rows n (below k) k
  unfolding sets_below
  set_below zero k l = absurd (not-suc-le-zero l)
  set_below (suc m) k l =
      ⊎_elim
      (λ e. rw e (get_or_at (below m) _ [] 0 m (length-below m)))
      (λ h. get_or-append (below m) _ 0 k (rw length-below h) ∙ set_below m k h)
      (eq-or-lt_of_le (le_of_suc-le-suc l))

  -- the array has the sets of the nodes below k, and nothing after them
  pub record Kept (k : ℕ) (sets : List ℕ) : Type 0 where
    pub long : length sets ≡ 121
    pub have : (j : ℕ) → get_or sets j 0 ≡ get_or (below k) j 0

  pub kept_none : Kept 0 (replicate 121 0)
  unfolding sets_below
  kept_none = record { long = refl; have = filled 0 121 }

  -- all nodes have their sets: the root's is the last
  pub kept_all : (k : ℕ) (sets : List ℕ) → Kept k sets → (m : ℕ) → m ≡ count s → k ≤ m → m ≤ k → (r : Bool) → r ≡ has (get_or sets (m - 1) 0) 0 → r ≡ tested_in s clocks numbers rows n
  unfolding tested_in
  kept_all k sets h m em u v r er =
      let e : k ≡ count s = omega arith in
      er ∙ ap (λ x. has x 0) (h.have (m - 1) ∙ ap₂ (λ k m. get_or (below k) (m - 1) 0) e em)

  -- the set w of node k, made from the array, is stored
  module _ (k : ℕ) (sets : List ℕ) (h : Kept k sets) (l : k < 121) (w : ℕ) (fits : w < 2 ^ 64)
      (e : Is w (node_tested rows n (standing_of s clocks numbers k) (set_of sets (raw_at s k).x) (set_of sets (raw_at s k).y) (node_at s k))) where
    word_made : w ≡ set_from s clocks numbers rows n (below k) k
    word_made =
        word_is w _ fits e
        ∙ (λ t. set64 (node_tested rows n (standing_of s clocks numbers k) (has (h.have (named_by (raw_at s k).x) t)) (has (h.have (named_by (raw_at s k).y) t)) (node_at s k)))

    pub kept_more : Kept (k + 1) (set sets k w)
    unfolding sets_below
    kept_more = record {
      long = length-set sets k w ∙ h.long;
      have = λ m.
          rw (add-one k)
          (⊎_elim
          (λ u. get_or-set_other sets k m w 0 (λ z. omega arith) ∙ h.have m ∙ sym (get_or-append (below k) _ 0 m (rw length-below u)))
          (λ u.
          ⊎_elim
          (λ z. rw (← z) (get_or-set_same sets k w 0 (rw h.long l) ∙ word_made ∙ sym (get_or_at (below k) _ [] 0 k (length-below k))))
          (λ z. get_or-set_other sets k m w 0 (λ y. omega arith) ∙ h.have m ∙ get_or-eq_default (below k) 0 (rw length-below u) ∙ sym (get_or-eq_default (below (suc k)) 0 (rw (length-below (suc k)) z)))
          (eq-or-lt_of_le u))
          (side m k));
    }

  -- as the code has it: v is the node's bytes
  pub kept_node : (k : ℕ) (sets : List ℕ) → Kept k sets → k < 121 → (v : Raw) → v ≡ raw_at s k → (w : ℕ) → w < 2 ^ 64
      → Is w (node_tested rows n (standing numbers (get_or clocks k None) v) (set_of sets v.x) (set_of sets v.y) (node_of v)) → Kept (k + 1) (set sets k w)
  kept_node k sets h l v ev w fits e =
      kept_more k sets h l w fits
      (subst (λ (v : Raw). Is w (node_tested rows n (standing numbers (get_or clocks k None) v) (set_of sets v.x) (set_of sets v.y) (node_of v))) ev e)

  -- the rows that node k asks for are there
  pub rows_there : Testing s clocks numbers rows n → (k m : ℕ) → k < m → m ≡ count s → (v : Raw) → v ≡ raw_at s k
      → node_there (length rows) (standing numbers (get_or clocks k None) v) (node_of v)
  rows_there t k m l em v ev = subst (λ (v : Raw). node_there (length rows) (standing numbers (get_or clocks k None) v) (node_of v)) (sym ev) (t.ready k (rw (← em) l))
