-- The clock of a node in the table is the one under which the meaning of the root reads its tree. Assumes nothing.
use mathlib.Core.Path.{◌≡◌, ◌∙◌, sym, ap, subst}
use mathlib.Core.Bool.{Bool, true, false, cond}
use mathlib.Core.List.{List}
use Prim.Native.Nat.{ℕ, zero, suc, ◌<◌}
use lib.Dec.{T, leb, ltb}
use Rattle.telling.proofs.Telling.{is_le}
use Rattle.refusal.specs.Heading.{count}
use Rattle.meaning.specs.Syntax.{Seq, alt, Prop, Clock, free}
use Rattle.meaning.specs.Parts.{Tree, seq, prop, Enters, cat_x, cat_y, fuse_x, fuse_y, alt_x, alt_y, empty_x, plus_x, clocked_x, strong_x, weak_x, neg_x, either_x, either_y, both_x, both_y, implies_x, implies_y, next_x, until_x, until_y, under_x, Within, whole, part}
use Rattle.derived.specs.Derived.{times, range, delay}
use Rattle.meaning.specs.Pairs.{Atom}
use Rattle.nodes.specs.declared.Raw.{Raw}
use Rattle.nodes.specs.declared.Node.{Node}
use Rattle.nodes.specs.declared.Node.TheVariants.{Boolean, Sequence, Property}
use Rattle.nodes.specs.Operators.{sequence, operators, lookup, row_of, bytes_of, derived_sequence_bytes, derived_property_bytes, sequence_bytes, property_bytes}
use Rattle.nodes.specs.Nodes.{raw_at, node_at, root, WellFormed}
use Rattle.nodes.specs.NodeClock.{Ref, Part, at_x, at_y, handed, ClockOf, c_root, c_part}
use Rattle.table.specs.Trees.{SequenceAt, s_one, s_cat, s_fuse, s_alt, s_empty, s_plus, s_clock, s_repeated, s_delayed, s_goto, s_nonconsecutive, PropertyAt, p_strong, p_weak, p_neg, p_either, p_both, p_imp, p_next, p_until, p_clock, p_implies_next, p_followed, p_followed_next, p_always, p_eventually, p_strong_until, p_strong_next, TreeAt, t_seq, t_prop, ClockAt, c_free, c_on}
use Rattle.nodes.proofs.Coded.{coded_as}
use Rattle.table.proofs.Reading.{ReadS, ReadP, read_s, read_p, unique_s, unique_p, unique_c}

-- ---- a node stands for one tree, a sequence or a property

one_sort : (T : ℕ → Node) (r : Seq Atom) (P : Prop Atom) (v : Node) → ReadS T v r → ReadP T v P → ⊥
one_sort T r P (Boolean o) x y = y
one_sort T r P (Sequence o) x y = y
one_sort T r P (Property o) x y = x

-- no node stands for a sequence and for a property
pub not_both : {T : ℕ → Node} {k : ℕ} {r : Seq Atom} {P : Prop Atom} → SequenceAt T k r → PropertyAt T k P → ⊥
not_both {T} {k} {r} {P} d e = one_sort T r P (T k) (read_s d) (read_p e)

pub tree_unique : {T : ℕ → Node} {k : ℕ} {a b : Tree Atom} → TreeAt T k a → TreeAt T k b → a ≡ b
tree_unique (t_seq d) (t_seq e) = ap seq (unique_s d e)
tree_unique (t_prop d) (t_prop e) = ap prop (unique_p d e)
tree_unique (t_seq d) (t_prop e) = absurd (not_both d e)
tree_unique (t_prop d) (t_seq e) = absurd (not_both e d)

-- ---- the operands of a derived node, some steps down in its definition

within-within : {κ μ : Clock Atom} {t p : Tree Atom} {ν : Clock Atom} {q : Tree Atom} → Within κ t μ p → Within μ p ν q → Within κ t ν q
within-within h whole = h
within-within h (part k e) = part (within-within h k) e

module _ {κ : Clock Atom} where
  in_times : (r : Seq Atom) (m : ℕ) → Within κ (seq (times r m)) κ (seq r)
  unfolding times
  in_times r zero = part whole empty_x
  in_times r (suc m) = part whole cat_y

  in_range : (r : Seq Atom) (m n : ℕ) → Within κ (seq (range r m n)) κ (seq r)
  unfolding range
  in_range r m zero = in_times r m
  in_range r m (suc n) = go (ltb m (suc n))
    where
      go : (b : Bool) → Within κ (seq (cond b (alt (range r m n) (times r (suc n))) (times r m))) κ (seq r)
      go true = within-within (part whole alt_y) (in_times r (suc n))
      go false = in_times r m

  in_delay_x : (r s : Seq Atom) (m n : ℕ) → Within κ (seq (delay r s m n)) κ (seq r)
  unfolding delay
  in_delay_x r s m zero = part whole fuse_x
  in_delay_x r s zero (suc n) = part (part whole alt_x) fuse_x
  in_delay_x r s (suc m) (suc n) = part (part whole cat_x) cat_x

  in_delay_y : (r s : Seq Atom) (m n : ℕ) → Within κ (seq (delay r s m n)) κ (seq s)
  unfolding delay
  in_delay_y r s m zero = part whole fuse_y
  in_delay_y r s zero (suc n) = part (part whole alt_x) fuse_y
  in_delay_y r s (suc m) (suc n) = part whole cat_y

module _ (s : List ℕ) where
  -- ---- from a node to its part

  -- q stands at k, and μ is its clock
  module _ {k : ℕ} (q : Tree Atom) (t : TreeAt (node_at s) k q) (μ : Clock Atom) where
    deep : {x : ℕ} {κ ν : Clock Atom} {a b : Tree Atom} → Within κ b ν a → TreeAt (node_at s) x a → ν ≡ μ → x ≡ k → Within κ b μ q
    deep {x} {κ} {ν} {a} {b} r f e i =
        let z : a ≡ q = tree_unique (subst (λ (j : ℕ). TreeAt (node_at s) j a) i f) t in
        subst (λ (c : Clock Atom). Within κ b c q) e (subst (λ (d : Tree Atom). Within κ b ν d) z r)

    put : {x : ℕ} {κ ν : Clock Atom} {a b : Tree Atom} → Enters κ b ν a → TreeAt (node_at s) x a → ν ≡ μ → x ≡ k → Within κ b μ q
    put r f e i = deep (part whole r) f e i

    module _ {p : ℕ} (w : WellFormed s p) (n : Part s p k) {σ : Ref} {κ : Clock Atom} (c : ClockAt (node_at s) σ κ) (d : ClockAt (node_at s) (handed (node_at s p) σ) μ) where
      -- what a node of the kind v hands down
      handing : {v : Node} → node_at s p ≡ v → ClockAt (node_at s) (handed v σ) μ
      handing e = subst (λ (v : Node). ClockAt (node_at s) (handed v σ) μ) e d

      -- the part is x or y of the node, where that is a sequence or a property
      by_place : {v : Node} {A : Type 0} → node_at s p ≡ v → (T (leb sequence (row_of (bytes_of v).op).x) → (bytes_of v).x ≡ k → A)
          → (T (leb sequence (row_of (bytes_of v).op).y) → (bytes_of v).y ≡ k → A) → A
      by_place e f g = go (coded_as s p w e) n f g
        where
          go : {r : Raw} {A : Type 0} → raw_at s p ≡ r → Part s p k → (T (leb sequence (row_of r.op).x) → r.x ≡ k → A)
              → (T (leb sequence (row_of r.op).y) → r.y ≡ k → A) → A
          go e (at_x h q) f g = f (subst (λ (r : Raw). T (leb sequence (row_of r.op).x)) e ((is_le _ _).from h)) (ap (λ (r : Raw). r.x) (sym e) ∙ q)
          go e (at_y h q) f g = g (subst (λ (r : Raw). T (leb sequence (row_of r.op).y)) e ((is_le _ _).from h)) (ap (λ (r : Raw). r.y) (sym e) ∙ q)

      sequence_enters : {r : Seq Atom} → SequenceAt (node_at s) p r → Within κ (seq r) μ q
      unfolding row_of lookup operators bytes_of sequence_bytes derived_sequence_bytes
      sequence_enters (s_one e b) = by_place e (λ t _. absurd t) (λ t _. absurd t)
      sequence_enters (s_cat e f g) = let h = unique_c c (handing e) in by_place e (λ _. put cat_x (t_seq f) h) (λ _. put cat_y (t_seq g) h)
      sequence_enters (s_fuse e f g) = let h = unique_c c (handing e) in by_place e (λ _. put fuse_x (t_seq f) h) (λ _. put fuse_y (t_seq g) h)
      sequence_enters (s_alt e f g) = let h = unique_c c (handing e) in by_place e (λ _. put alt_x (t_seq f) h) (λ _. put alt_y (t_seq g) h)
      sequence_enters (s_empty e f) = by_place e (λ _. put empty_x (t_seq f) (unique_c c (handing e))) (λ t _. absurd t)
      sequence_enters (s_plus e f) = by_place e (λ _. put plus_x (t_seq f) (unique_c c (handing e))) (λ t _. absurd t)
      sequence_enters (s_clock e b f) = by_place e (λ t _. absurd t) (λ _. put clocked_x (t_seq f) (unique_c (c_on b) (handing e)))
      sequence_enters (s_repeated {m = m} {n = n} {r = r} e f) =
          by_place e (λ _. deep (in_range r m n) (t_seq f) (unique_c c (handing e))) (λ t _. absurd t)
      sequence_enters (s_delayed {m = m} {n = n} {r = r} {s = u} e f g) =
          let h = unique_c c (handing e) in
          by_place e (λ _. deep (in_delay_x r u m n) (t_seq f) h) (λ _. deep (in_delay_y r u m n) (t_seq g) h)
      sequence_enters (s_goto e b) = by_place e (λ t _. absurd t) (λ t _. absurd t)
      sequence_enters (s_nonconsecutive e b) = by_place e (λ t _. absurd t) (λ t _. absurd t)

      property_enters : {P : Prop Atom} → PropertyAt (node_at s) p P → Within κ (prop P) μ q
      unfolding row_of lookup operators bytes_of property_bytes derived_property_bytes
      property_enters (p_strong e f) = by_place e (λ _. put strong_x (t_seq f) (unique_c c (handing e))) (λ t _. absurd t)
      property_enters (p_weak e f) = by_place e (λ _. put weak_x (t_seq f) (unique_c c (handing e))) (λ t _. absurd t)
      property_enters (p_neg e f) = by_place e (λ _. put neg_x (t_prop f) (unique_c c (handing e))) (λ t _. absurd t)
      property_enters (p_either e f g) = let h = unique_c c (handing e) in by_place e (λ _. put either_x (t_prop f) h) (λ _. put either_y (t_prop g) h)
      property_enters (p_both e f g) = let h = unique_c c (handing e) in by_place e (λ _. put both_x (t_prop f) h) (λ _. put both_y (t_prop g) h)
      property_enters (p_imp e f g) = let h = unique_c c (handing e) in by_place e (λ _. put implies_x (t_seq f) h) (λ _. put implies_y (t_prop g) h)
      property_enters (p_next e f) = by_place e (λ _. put next_x (t_prop f) (unique_c c (handing e))) (λ t _. absurd t)
      property_enters (p_until e f g) = let h = unique_c c (handing e) in by_place e (λ _. put until_x (t_prop f) h) (λ _. put until_y (t_prop g) h)
      property_enters (p_clock e b f) = by_place e (λ t _. absurd t) (λ _. put under_x (t_prop f) (unique_c (c_on b) (handing e)))
      property_enters (p_implies_next e f g) =
          let h = unique_c c (handing e) in by_place e (λ _. deep (part (part whole implies_x) cat_x) (t_seq f) h) (λ _. put implies_y (t_prop g) h)
      property_enters (p_followed e f g) =
          let h = unique_c c (handing e) in
          by_place e (λ _. deep (part (part whole neg_x) implies_x) (t_seq f) h) (λ _. deep (part (part (part whole neg_x) implies_y) neg_x) (t_prop g) h)
      property_enters (p_followed_next e f g) =
          let h = unique_c c (handing e) in
          by_place e (λ _. deep (part (part (part whole neg_x) implies_x) cat_x) (t_seq f) h)
          (λ _. deep (part (part (part whole neg_x) implies_y) neg_x) (t_prop g) h)
      property_enters (p_always e f) = by_place e (λ _. put until_x (t_prop f) (unique_c c (handing e))) (λ t _. absurd t)
      property_enters (p_eventually e f) =
          by_place e (λ _. deep (part (part (part whole neg_x) until_x) neg_x) (t_prop f) (unique_c c (handing e))) (λ t _. absurd t)
      property_enters (p_strong_until e f g) =
          let h = unique_c c (handing e) in
          by_place e (λ _. deep (part (part whole both_x) until_x) (t_prop f) h) (λ _. deep (part (part whole both_x) until_y) (t_prop g) h)
      property_enters (p_strong_next e f) =
          by_place e (λ _. deep (part (part (part whole neg_x) next_x) neg_x) (t_prop f) (unique_c c (handing e))) (λ t _. absurd t)

      tree_enters : {b : Tree Atom} → TreeAt (node_at s) p b → Within κ b μ q
      tree_enters (t_seq f) = sequence_enters f
      tree_enters (t_prop f) = property_enters f

  -- ---- from the root to a node

  -- where each node that has a clock stands for a tree, whose parts are nodes
  module _ (fit : (k : ℕ) → k < count s → WellFormed s k) (inside : (k : ℕ) (ρ : Ref) → ClockOf s k ρ → k < count s)
      (stands : (k : ℕ) (ρ : Ref) → ClockOf s k ρ → ((t : Tree Atom) × TreeAt (node_at s) k t) × ((κ : Clock Atom) × ClockAt (node_at s) ρ κ))
      (r : Tree Atom) (at-root : TreeAt (node_at s) (root s) r) where
    pub read_under : {k : ℕ} {ρ : Ref} {κ : Clock Atom} {q : Tree Atom} → ClockOf s k ρ → ClockAt (node_at s) ρ κ → TreeAt (node_at s) k q → Within free r κ q
    read_under {κ = κ} {q = q} c_root d t =
        subst (λ (μ : Clock Atom). Within free r μ q) (unique_c c_free d) (subst (λ (t : Tree Atom). Within free r free t) (tree_unique at-root t) whole)
    read_under {κ = κ} {q = q} (c_part {p = p} {ρ = σ} c n) d t =
        let ((b, f), (μ, m)) = stands p σ c in
        within-within (read_under c m f) (tree_enters q t κ (fit p (inside p σ c)) n m d f)
