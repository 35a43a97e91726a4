-- What node k gives, put: nothing, or one node with its operands' new numbers. Assumes nothing.
use native.Mathlib.Omega.{arith}
use mathlib.Core.Path.{◌≡◌, refl, ◌∙◌, sym, ap}
use mathlib.Core.Bool.{cond}
use mathlib.Core.List.{List, [], ◌∷◌}
use Prim.Native.Nat.{ℕ, ◌+◌, ◌*◌, ◌<◌, ◌≤◌}
use lib.Dec.{eqb}
use lib.ListN.{length, get_or}
use Rattle.std.specs.Prelude.{Option, Some, None}
use Rattle.nodes.specs.declared.Raw.{Raw}
use Rattle.nodes.specs.declared.BooleanOp.{BooleanOp}
use Rattle.nodes.specs.declared.operators.Row.{Row as CodeRow}
use Rattle.nodes.specs.Operators.{Row, none, row_of, bytes, boolean_bytes}
use Rattle.nodes.specs.Nodes.{raw_at, sort_at, node_at, WellFormed}
use Rattle.nodes.specs.Sorts.{row_numbers, operand_sort}
use Rattle.nodes.specs.Computed.{named_by}
use Rattle.encoding.specs.Encoding.{four_bytes, encoded, put}
use Rattle.encoding.specs.Moved.{moved_node}
use Rattle.encoding.proofs.Putting.{put_none}
use Rattle.encoding.proofs.Renumbering.{looked_moved}
use Rattle.expansion.specs.Booleans.{given, number_of, given_at}
use Rattle.expansion.proofs.Giving.{given_few}
use Rattle.expansion.proofs.Moving.{operands_given}
use Rattle.firsts.specs.Gifts.{first_gift, gift_of}
use Rattle.expansion.specs.Formed.{NumberedBelow}

-- ---- the first of a list of at most one

gift_none : (os : List BooleanOp) → first_gift os ≡ None → os ≡ []
unfolding first_gift
gift_none [] e = refl
gift_none (o ∷ os) e = cc

gift_one : (os : List BooleanOp) (v : Raw) → first_gift os ≡ Some v → length os ≤ 1 → (o : BooleanOp) × (os ≡ o ∷ []) × (v ≡ boolean_bytes o)
unfolding first_gift
gift_one [] v e l = cc
gift_one (o ∷ []) v e l = (o, refl, cc)
gift_one (o ∷ p ∷ os) v e l = absurd (let z : ⊥ = omega arith in z)

-- ---- what node k gives

-- its operator is known
pub known : (s : List ℕ) (k : ℕ) → WellFormed s k → (v : Raw) → v ≡ raw_at s k → ¬ ((row_of v.op).own ≡ none)
unfolding sort_at
known s k w v ev = rw ev w.known

module _ (s : List ℕ) (k : ℕ) (v : Raw) (ev : v ≡ raw_at s k) (g : Option Raw) (eg : g ≡ gift_of v) where
  is_gift : first_gift (given (node_at s k)) ≡ g
  unfolding gift_of
  is_gift = sym (eg ∙ ap gift_of ev)

  -- nothing
  module _ (e : g ≡ None) where
    no_given : given (node_at s k) ≡ []
    no_given = gift_none (given (node_at s k)) (is_gift ∙ e)

    pub none_counted : (at : ℕ) → at ≡ at + length (given_at s k)
    none_counted at = rw no_given (omega arith)

    pub none_put : (at : ℕ) (d : List ℕ) → d ≡ put d (4 * at + 6) (encoded (given_at s k))
    unfolding encoded
    none_put at d = rw no_given (put_none d (4 * at + 6))

  -- or one node, u; r is its row, and the array has the numbers of the nodes below
  module _ (w : WellFormed s k) (l : k < 120) (numbers : List ℕ) (nb : NumberedBelow s k numbers) (u : Raw) (e : g ≡ Some u) (r : CodeRow) (er : row_numbers r ≡ row_of u.op) where
    one_given : (o : BooleanOp) × (given (node_at s k) ≡ o ∷ []) × (u ≡ boolean_bytes o)
    one_given = gift_one (given (node_at s k)) u (is_gift ∙ e) (given_few (node_at s k))

    pub one_counted : (at : ℕ) → at + 1 ≡ at + length (given_at s k)
    one_counted at = rw one_given.1

    module _ (x : ℕ) (ex : x ≡ cond (eqb (operand_sort r.x) none) u.x (get_or numbers (named_by u.x) 0))
        (y : ℕ) (ey : y ≡ cond (eqb (operand_sort r.y) none) u.y (get_or numbers (named_by u.y) 0)) where
      moved_is : bytes u.op x y ≡ moved_node (number_of s) (boolean_bytes one_given.0)
      unfolding moved_node
      moved_is =
          let (o, a, b) = one_given in
          let (f, g) = operands_given s k w a in
          let move = looked_moved (number_of s) numbers k (omega arith) nb.right in
          let sx : operand_sort r.x ≡ (row_of u.op).x = ap (λ (q : Row). q.x) er in
          let sy : operand_sort r.y ≡ (row_of u.op).y = ap (λ (q : Row). q.y) er in
          let ex' = (rw (sx, b) at ex) ∙ move _ _ f.below in
          let ey' = (rw (sy, b) at ey) ∙ move _ _ g.below in
          λ i. bytes (b i).op (ex' i) (ey' i)

      pub one_put : (at : ℕ) (d d' : List ℕ) → d' ≡ put d (4 * at + 6) (four_bytes (bytes u.op x y)) → d' ≡ put d (4 * at + 6) (encoded (given_at s k))
      unfolding encoded
      one_put at d d' e' = rw one_given.1 (e' ∙ ap (λ (w : Raw). put d (4 * at + 6) (four_bytes w)) moved_is)
