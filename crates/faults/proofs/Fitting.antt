-- A node that passes all tests but the last, that of its second operand. Assumes nothing.
use mathlib.Core.Path.{◌≡◌, refl, ◌∙◌, sym, ap}
use mathlib.Core.Bool.{Bool, true, not, ◌&&◌}
use mathlib.Core.List.{List}
use Prim.Native.Nat.{ℕ}
use lib.Dec.{eqb, ltb}
use Rattle.std.proofs.Common.{Option, Some, None, is_some}
use Rattle.nodes.specs.declared.Raw.{Raw}
use Rattle.nodes.specs.declared.operators.Sort.{Sort}
use Rattle.nodes.specs.declared.operators.Sort.TheVariants.{Boolean, Sequence, Property}
use Rattle.nodes.specs.declared.operators.Operand.{Operand}
use Rattle.nodes.specs.declared.operators.Operand.TheVariants.{Below, Node}
use Rattle.nodes.specs.declared.operators.Row.{Row as CodeRow}
use Rattle.nodes.specs.Operators.{Row, none, row_of}
use Rattle.nodes.specs.Nodes.{raw_at, sort_at}
use Rattle.nodes.specs.Sorts.{sort_number, operand_sort, operand_limit, fourth_number, row_numbers}
use Rattle.faults.specs.Computed.{operand_fits, fourth_fits, is_known_in, node_fits}

some_sort : (own : Option Sort) → is_some own ≡ not (eqb (sort_number own) none)
some_sort None = refl
some_sort (Some Boolean) = refl
some_sort (Some Sequence) = refl
some_sort (Some Property) = refl

module _ (s : List ℕ) (k v : ℕ) where
  -- an operand byte that is not used is below 1
  below_one : (y : Operand) → (operand_sort y ≡ none → operand_limit y ≡ 1) → (b : ℕ) → operand_fits s k (operand_sort y) (operand_limit y) b ≡ operand_fits s k (operand_sort y) 1 b
  unfolding operand_fits
  below_one (Below limit) h b = ap (λ (l : ℕ). ltb b l) (h refl)
  below_one (Node Boolean) h b = refl
  below_one (Node Sequence) h b = refl
  below_one (Node Property) h b = refl

  -- the tests of a node with the bytes n and the row r
  abbrev tests : Raw → Row → Bool
  tests n r =
      not (eqb r.own none) && (is_known_in r v && (fourth_fits r.fourth n.fourth && (operand_fits s k r.x r.limit n.x && operand_fits s k r.y 1 n.y)))

  module _ (n : Raw) (en : n ≡ raw_at s k) (r : CodeRow) (er : row_numbers r ≡ row_of n.op) (u : operand_sort r.y ≡ none → operand_limit r.y ≡ 1) where
    tests_are : tests n (row_numbers r) ≡ node_fits s v k
    unfolding node_fits sort_at
    tests_are = ap (tests n) er ∙ ap (λ (m : Raw). tests m (row_of m.op)) en

    pub all_but_y : (a b c x y : Bool) → a ≡ is_some r.own → b ≡ is_known_in (row_numbers r) v → c ≡ fourth_fits (fourth_number r.fourth) n.fourth
        → x ≡ operand_fits s k (operand_sort r.x) (operand_limit r.x) n.x → y ≡ operand_fits s k (operand_sort r.y) (operand_limit r.y) n.y
        → a ≡ true → b ≡ true → c ≡ true → x ≡ true → y ≡ node_fits s v k
    all_but_y a b c x y ea eb ec ex ey a1 b1 c1 x1 =
        let own : not (eqb (sort_number r.own) none) ≡ true = sym (some_sort r.own) ∙ sym ea ∙ a1 in
        let last : y ≡ tests n (row_numbers r) = simp (own, sym eb ∙ b1, sym ec ∙ c1, sym ex ∙ x1) (ey ∙ below_one r.y u n.y) in
        last ∙ tests_are
