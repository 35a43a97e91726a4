-- A table of a version before the derived operators has none of them: each of its nodes is of a base operator. Assumes nothing.
use native.Mathlib.Omega.{arith}
use mathlib.Core.Path.{◌≡◌, refl, ◌∙◌, sym, subst}
use mathlib.Core.List.{List, map}
use Prim.Native.Nat.{ℕ, ◌≤◌}
use lib.Dec.{T, leb}
use Rattle.telling.proofs.Telling.{is_le}
use Rattle.refusal.specs.Heading.{version}
use Rattle.nodes.specs.Operators.{Row}
use Rattle.nodes.specs.declared.Node.{Node}
use Rattle.nodes.specs.declared.Node.TheVariants.{Boolean, Sequence, Property}
use Rattle.nodes.specs.declared.BooleanOp.TheVariants.{Constant}
use Rattle.nodes.specs.declared.SequenceOp.TheVariants.{Derived}
use Rattle.nodes.specs.declared.PropertyOp.TheVariants.{Defined}
use Rattle.nodes.specs.declared.DerivedSequence.{DerivedSequence}
use Rattle.nodes.specs.declared.DerivedProperty.{DerivedProperty}
use Rattle.nodes.specs.Operators.{operators, unknown, row_of, node_of}
use Rattle.nodes.specs.Nodes.{raw_at, row_at, sort_at, node_at, WellFormed}
use Rattle.nodes.proofs.Lookup.{of_lookup, same_line}
use Rattle.nodes.proofs.Coded.{is_base}

-- an operator is a base one exactly if version 2 knows it or an earlier one: antt computes the two for all lines at once
early_lines : (x y q : ℕ) → map (λ e. is_base (e.make x y q)) operators ≡ map (λ e. leb e.row.first 2) operators
unfolding operators
early_lines x y q = refl

module _ (s : List ℕ) (k : ℕ) (w : WellFormed s k) where
  pub is_early : is_base (node_at s k) ≡ leb (row_at s k).first 2
  unfolding sort_at row_of node_of
  is_early =
      let n = raw_at s k in
      of_lookup is_base (λ e. e.make n.x n.y n.fourth) (Boolean (Constant 0)) operators n.op
      ∙ same_line (λ e. is_base (e.make n.x n.y n.fourth)) (λ e. leb e.row.first 2) _ _ (early_lines n.x n.y n.fourth) n.op w.known
      ∙ sym (of_lookup (λ (r : Row). leb r.first 2) (λ e. e.row) unknown operators n.op)

  module _ (old : version s ≤ 2) where
    pub based : T (is_base (node_at s k))
    based = let l = w.in_version.0 in subst T (sym is_early) ((is_le (row_at s k).first 2).from (omega arith))

    pub based_as : {v : Node} → node_at s k ≡ v → T (is_base v)
    based_as e = subst (λ (v : Node). T (is_base v)) e based

    pub not_derived : {o : DerivedSequence} → ¬ (node_at s k ≡ Sequence (Derived o))
    not_derived e = based_as e

    pub not_defined : {o : DerivedProperty} → ¬ (node_at s k ≡ Property (Defined o))
    not_defined e = based_as e
