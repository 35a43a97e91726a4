-- In a table that gets none of refusals 3 to 8, each sequence or property node has one clock, whose condition is a boolean. Assumes nothing.
use native.Mathlib.Omega.{arith}
use native.Mathlib.Nat.{eq-or-lt_of_le}
use mathlib.Core.Path.{◌≡◌, refl, ◌∙◌, sym, ap, subst}
use mathlib.Core.Logic.{◌⊎◌, inl, inr, ⊎_elim}
use mathlib.Core.List.{List}
use Prim.Native.Nat.{ℕ, zero, suc, ◌+◌, ◌<◌, ◌≤◌}
use Rattle.refusal.specs.Heading.{count}
use Rattle.nodes.specs.declared.Node.{Node}
use Rattle.nodes.specs.declared.Node.TheVariants.{Boolean, Sequence, Property}
use Rattle.nodes.specs.declared.SequenceOp.TheVariants.{Letter, Then, Fused, Either, Empty, Repeat, Clocked, Derived}
use Rattle.nodes.specs.declared.PropertyOp.TheVariants.{Strong, Weak, Negated, AnyOf, BothOf, Implies, Next, Until, Ticked, Defined}
use Rattle.nodes.specs.Operators.{boolean, sequence}
use Rattle.nodes.specs.Nodes.{sort_at, node_at, root}
use Rattle.nodes.specs.NodeClock.{Ref, free_r, on_r, Part, handed, ClockOf, c_root, c_part}
use Rattle.nodes.proofs.Built.{Built}
use Rattle.nodes.proofs.Shapes.{down}
use Rattle.nodes.proofs.Placing.{part_below, part_sort, whole_sort, above, one_above}

-- the clock's condition is a boolean node
abbrev pub OnBoolean : List ℕ → Ref → Type 0
OnBoolean s free_r = Unit {0}
OnBoolean s (on_r c) = (c < count s) × (sort_at s c ≡ boolean)

module _ (s : List ℕ) (ok : Built s) where
  -- ---- there is one

  -- going up from node k, m steps are enough
  clock_in : (m k : ℕ) → k < count s → count s ≤ k + m → sequence ≤ sort_at s k → (ρ : Ref) × ClockOf s k ρ
  clock_in zero k h f z = absurd (omega arith)
  clock_in (suc m) k h f z =
      ⊎_elim (λ (e : suc k ≡ count s). let r : root s ≡ k = omega arith in (free_r, subst (λ (j : ℕ). ClockOf s j free_r) r c_root))
      (λ (l : suc k < count s).
      let (p, g, a) = above s k (count s) (ok.once k l z) ok.fit z in
      let b = part_below s k (ok.fit p g) a in
      let (ρ, c) = clock_in m p g (omega arith) (whole_sort s k a) in
      (handed (node_at s p) ρ, c_part c a))
      (eq-or-lt_of_le h)

  -- ---- and no second

  -- what has a clock is a node, by how it has it
  abbrev Came : ℕ → Ref → Type 0
  Came k ρ = ((root s ≡ k) × (ρ ≡ free_r)) ⊎ ((p : ℕ) × (σ : Ref) × ClockOf s p σ × Part s p k × (ρ ≡ handed (node_at s p) σ))

  came : {k : ℕ} {ρ : Ref} → ClockOf s k ρ → Came k ρ
  came c_root = inl (refl, refl)
  came (c_part {p = p} {ρ = σ} c a) = inr (p, σ, c, a, refl)

  pub clock-inside : {k : ℕ} {ρ : Ref} → ClockOf s k ρ → k < count s
  clock-inside c_root = let l = ok.some in omega arith
  clock-inside (c_part {p = p} {k = k} c a) = let h = clock-inside c in let l = part_below s k (ok.fit p h) a in omega arith

  pub clock_unique : {k : ℕ} {ρ σ : Ref} → ClockOf s k ρ → ClockOf s k σ → ρ ≡ σ
  clock_unique c_root d =
      ⊎_elim (λ q. sym q.1)
      (λ q. let (p, τ, c, a, e) = q in let h = clock-inside c in let l = part_below s (root s) (ok.fit p h) a in absurd (omega arith)) (came d)
  clock_unique (c_part {p = p} {k = k} {ρ = ρ} c a) d =
      let h = clock-inside c in
      let l = part_below s k (ok.fit p h) a in
      ⊎_elim (λ q. let r : root s ≡ k = q.0 in absurd (omega arith))
      (λ q.
      let (p', τ, c', a', e) = q in
      let o : p' ≡ p = one_above s k (count s) (ok.once k (omega arith) (part_sort s k (ok.fit p h) a)) (clock-inside c') h a' a in
      let t : ρ ≡ τ = clock_unique c (subst (λ (j : ℕ). ClockOf s j τ) o c') in
      ap (handed (node_at s p)) t ∙ ap (λ (j : ℕ). handed (node_at s j) τ) (sym o) ∙ sym e)
      (came d)

  -- ---- its condition is a boolean

  boolean_below : (p : ℕ) → p < count s → (v : Node) → node_at s p ≡ v → (ρ : Ref) → OnBoolean s ρ → OnBoolean s (handed v ρ)
  boolean_below p h (Boolean o) e ρ k = k
  boolean_below p h (Sequence (Letter x)) e ρ k = k
  boolean_below p h (Sequence (Then x y)) e ρ k = k
  boolean_below p h (Sequence (Fused x y)) e ρ k = k
  boolean_below p h (Sequence (Either x y)) e ρ k = k
  boolean_below p h (Sequence (Empty x)) e ρ k = k
  boolean_below p h (Sequence (Repeat x)) e ρ k = k
  boolean_below p h (Sequence (Clocked c x)) e ρ k = let (g, j) = down s p (ok.fit p h) e in let l = g.0 in (omega arith, g.1)
  boolean_below p h (Sequence (Derived o)) e ρ k = k
  boolean_below p h (Property (Strong x)) e ρ k = k
  boolean_below p h (Property (Weak x)) e ρ k = k
  boolean_below p h (Property (Negated x)) e ρ k = k
  boolean_below p h (Property (AnyOf x y)) e ρ k = k
  boolean_below p h (Property (BothOf x y)) e ρ k = k
  boolean_below p h (Property (Implies x y)) e ρ k = k
  boolean_below p h (Property (Next x)) e ρ k = k
  boolean_below p h (Property (Until x y)) e ρ k = k
  boolean_below p h (Property (Ticked c x)) e ρ k = let (g, j) = down s p (ok.fit p h) e in let l = g.0 in (omega arith, g.1)
  boolean_below p h (Property (Defined o)) e ρ k = k

  pub clock_boolean : {k : ℕ} {ρ : Ref} → ClockOf s k ρ → OnBoolean s ρ
  clock_boolean c_root = tt
  clock_boolean (c_part {p = p} {ρ = ρ} c a) = boolean_below p (clock-inside c) (node_at s p) refl ρ (clock_boolean c)

  pub clock_exists : (k : ℕ) → k < count s → sequence ≤ sort_at s k → (ρ : Ref) × ClockOf s k ρ × OnBoolean s ρ
  clock_exists k h z = let (ρ, c) = clock_in (count s) k h (omega arith) z in (ρ, c, clock_boolean c)
