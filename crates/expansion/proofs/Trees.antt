-- The form of each node stands for the node's tree, wherever it lies in a table that begins with the booleans. Assumes nothing.
use native.Mathlib.Omega.{arith}
use borrow.Author.Tests.{ne_eqb}
use mathlib.Core.Path.{◌≡◌, refl}
use mathlib.Core.List.{List, [], ◌∷◌}
use Prim.Native.Nat.{ℕ, ◌<◌}
use lib.Dec.{eqb}
use Rattle.meaning.specs.Syntax.{Bexp, const, nott, Seq, Prop}
use Rattle.meaning.specs.Pairs.{Atom}
use Rattle.nodes.specs.declared.Node.{Node}
use Rattle.nodes.specs.declared.BooleanOp.TheVariants.{Constant, Not}
use Rattle.nodes.specs.Nodes.{node_at, WellFormed}
use Rattle.nodes.proofs.Shapes.{Formed, Suits, down}
use Rattle.table.specs.Trees.{BooleanAt, SequenceAt, s_one, s_cat, s_fuse, s_alt, s_empty, s_plus, s_clock, s_repeated, s_delayed, s_goto, s_nonconsecutive, PropertyAt, p_strong, p_weak, p_neg, p_either, p_both, p_imp, p_next, p_until, p_clock, p_implies_next, p_followed, p_followed_next, p_always, p_eventually, p_strong_until, p_strong_next}
use Rattle.expansion.specs.Forms.{byte}
use Rattle.expansion.specs.Booleans.{given, number_of, booleans_below}
use Rattle.expansion.specs.Nodes.{node_form, form_of}
use Rattle.expansion.proofs.Stepping.{form_as}
use Rattle.expansion.proofs.Lying.{Lies}
use Rattle.expansion.proofs.Standing.{First, StandsB, StandsS, StandsP, stands_one, stands_cat, stands_fuse, stands_alt, stands_empty, stands_plus, stands_clocked, stands_strong, stands_weak, stands_neg, stands_either, stands_both, stands_implies, stands_next, stands_until, stands_under}
use Rattle.expansion.proofs.Deriving.{stands_range, stands_delay, stands_goto, stands_nonconsecutive, stands_implies_next, stands_followed, stands_followed_next, stands_always, stands_eventually, stands_strong_until, stands_strong_next}
use Rattle.expansion.proofs.Truths.{stands_same, stands_constant, stands_not}

module _ (s : List ℕ) (n : ℕ) (fit : (k : ℕ) → k < n → WellFormed s k) (t : List ℕ) (h : Lies t 0 (booleans_below s n)) where
  abbrev B : ℕ → Type 0
  B = First t (number_of s n)

  -- a node of a known kind: its operands, and its form
  module _ {k : ℕ} {v : Node} (l : k < n) (e : node_at s k ≡ v) where
    low : Formed (Suits s k) v
    low = down s k (fit k l) e

    form : form_of s k ≡ node_form (number_of s) (form_of s) (number_of s k) v
    form = form_as s k (fit k l) e

    -- and the boolean that it makes
    constant : (c : ℕ) → given v ≡ Constant c ∷ [] → StandsB B t (byte (number_of s k)) (const (eqb c 1))
    constant c g = stands_constant s n t h fit l e c g

    negated : {x : ℕ} {b : Bexp Atom} → given v ≡ Not x ∷ [] → x < k → BooleanAt (node_at s) x b → StandsB B t (byte (number_of s k)) (nott b)
    negated g u d = stands_not s n t h fit l e g u d

  truth : {k : ℕ} {b : Bexp Atom} → k < n → BooleanAt (node_at s) k b → StandsB B t (byte (number_of s k)) b
  truth l d = stands_same s n t h fit l d

  -- sequences
  pub sequence_stands : {k : ℕ} {r : Seq Atom} → k < n → SequenceAt (node_at s) k r → StandsS B t (form_of s k) r
  unfolding node_form given
  sequence_stands l (s_one e z) = let g = low l e in rw (form l e) (stands_one B t (truth (omega arith) z))
  sequence_stands l (s_cat e p q) =
      let (g, j) = low l e in
      rw (form l e) (stands_cat B t (sequence_stands (omega arith) p) (sequence_stands (omega arith) q))
  sequence_stands l (s_fuse e p q) =
      let (g, j) = low l e in
      rw (form l e) (stands_fuse B t (sequence_stands (omega arith) p) (sequence_stands (omega arith) q))
  sequence_stands l (s_alt e p q) =
      let (g, j) = low l e in
      rw (form l e) (stands_alt B t (sequence_stands (omega arith) p) (sequence_stands (omega arith) q))
  sequence_stands l (s_empty e p) = let g = low l e in rw (form l e) (stands_empty B t (sequence_stands (omega arith) p))
  sequence_stands l (s_plus e p) = let g = low l e in rw (form l e) (stands_plus B t (sequence_stands (omega arith) p))
  sequence_stands l (s_clock e z p) =
      let (g, j) = low l e in
      rw (form l e) (stands_clocked B t (truth (omega arith) z) (sequence_stands (omega arith) p))
  sequence_stands l (s_repeated {m = i} {n = j} e p) = let g = low l e in rw (form l e) (stands_range B t (sequence_stands (omega arith) p) i j)
  sequence_stands l (s_delayed {m = i} {n = j} e p q) =
      let (g, u) = low l e in
      rw (form l e) (stands_delay B t (sequence_stands (omega arith) p) (sequence_stands (omega arith) q) i j (λ z. constant l e 1 (rw (ne_eqb j 0 z))))
  sequence_stands l (s_goto {m = i} e z) = let g = low l e in rw (form l e) (stands_goto B t (negated l e refl g.0 z) (truth (omega arith) z) i)
  sequence_stands l (s_nonconsecutive {m = i} e z) =
      let g = low l e in
      rw (form l e) (stands_nonconsecutive B t (negated l e refl g.0 z) (truth (omega arith) z) i)

  -- properties
  pub property_stands : {k : ℕ} {P : Prop Atom} → k < n → PropertyAt (node_at s) k P → StandsP B t (form_of s k) P
  unfolding node_form given
  property_stands l (p_strong e p) = let g = low l e in rw (form l e) (stands_strong B t (sequence_stands (omega arith) p))
  property_stands l (p_weak e p) = let g = low l e in rw (form l e) (stands_weak B t (sequence_stands (omega arith) p))
  property_stands l (p_neg e p) = let g = low l e in rw (form l e) (stands_neg B t (property_stands (omega arith) p))
  property_stands l (p_either e p q) =
      let (g, j) = low l e in
      rw (form l e) (stands_either B t (property_stands (omega arith) p) (property_stands (omega arith) q))
  property_stands l (p_both e p q) =
      let (g, j) = low l e in
      rw (form l e) (stands_both B t (property_stands (omega arith) p) (property_stands (omega arith) q))
  property_stands l (p_imp e p q) =
      let (g, j) = low l e in
      rw (form l e) (stands_implies B t (sequence_stands (omega arith) p) (property_stands (omega arith) q))
  property_stands l (p_next e p) = let g = low l e in rw (form l e) (stands_next B t (property_stands (omega arith) p))
  property_stands l (p_until e p q) =
      let (g, j) = low l e in
      rw (form l e) (stands_until B t (property_stands (omega arith) p) (property_stands (omega arith) q))
  property_stands l (p_clock e z p) =
      let (g, j) = low l e in
      rw (form l e) (stands_under B t (truth (omega arith) z) (property_stands (omega arith) p))
  property_stands l (p_implies_next e p q) =
      let (g, j) = low l e in
      rw (form l e) (stands_implies_next B t (constant l e 1 refl) (sequence_stands (omega arith) p) (property_stands (omega arith) q))
  property_stands l (p_followed e p q) =
      let (g, j) = low l e in
      rw (form l e) (stands_followed B t (sequence_stands (omega arith) p) (property_stands (omega arith) q))
  property_stands l (p_followed_next e p q) =
      let (g, j) = low l e in
      rw (form l e) (stands_followed_next B t (constant l e 1 refl) (sequence_stands (omega arith) p) (property_stands (omega arith) q))
  property_stands l (p_always e p) = let g = low l e in rw (form l e) (stands_always B t (constant l e 0 refl) (property_stands (omega arith) p))
  property_stands l (p_eventually e p) =
      let g = low l e in
      rw (form l e) (stands_eventually B t (constant l e 0 refl) (property_stands (omega arith) p))
  property_stands l (p_strong_until e p q) =
      let (g, j) = low l e in
      rw (form l e) (stands_strong_until B t (constant l e 0 refl) (property_stands (omega arith) p) (property_stands (omega arith) q))
  property_stands l (p_strong_next e p) = let g = low l e in rw (form l e) (stands_strong_next B t (property_stands (omega arith) p))
