-- The theorems of checking a table, where the versions are 1 to `newest`. Assumes nothing.
use native.Mathlib.Omega.{arith}
use mathlib.Core.Path.{◌≡◌, refl}
use mathlib.Core.Logic.{◌⊎◌, ⊎_elim}
use mathlib.Core.List.{List}
use Prim.Native.Nat.{ℕ, ◌<◌, ◌≤◌}
use Rattle.refusal.specs.declared.Verdict.{Verdict}
use Rattle.refusal.specs.Heading.{count}
use Rattle.refusal.proofs.Unique.{answers_unique}
use Rattle.meaning.specs.Parts.{Tree, seq, prop, Within}
use Rattle.meaning.specs.Syntax.{Bexp, Seq, Prop, strong, weak, implies, Clock, free}
use Rattle.derived.specs.Derived.{implies_next, followed, followed_next}
use Rattle.meaning.specs.Meaning.{Topped, Accepted}
use Rattle.meaning.specs.Pairs.{Atom, reading}
use Rattle.meaning.proofs.Entering.{AcceptedTree, within-accepted}
use Rattle.nodes.specs.declared.Node.{Node}
use Rattle.nodes.specs.Operators.{boolean, sequence, property}
use Rattle.nodes.specs.Nodes.{sort_at, node_at, root}
use Rattle.nodes.specs.NodeClock.{Ref, ClockOf, c_root, c_part}
use Rattle.table.specs.Trees.{BooleanAt, SequenceAt, PropertyAt, p_strong, p_weak, p_imp, p_implies_next, p_followed, p_followed_next, TreeAt, t_seq, t_prop, ClockAt}
use Rattle.table.specs.Check.{Asks, by_strong, by_weak, by_implies, by_implies_next, by_followed, by_followed_next, ChecksTo, refusals_to}
use Rattle.table.specs.Computed.{checked_to}
use Rattle.nodes.proofs.Built.{Built}
use Rattle.table.proofs.Reading.{unique_b, unique_s, unique_p, unique_c}
use Rattle.nodes.proofs.Shapes.{Suits, down}
use Rattle.table.proofs.Standing.{boolean_in, sequence_in, property_in, clock_in}
use Rattle.table.proofs.Topping.{accepted_at}
use Rattle.nodes.proofs.Clocking.{clock_exists, clock_unique, clock-inside, clock_boolean}
use Rattle.nodes.proofs.Placing.{part_sort}
use Rattle.table.proofs.Within.{tree_unique, read_under}
use Rattle.table.proofs.CheckingTo.{checks, sound, hollow_one, sorts, table_singles}

-- every table has one verdict
pub exists : (newest : ℕ) (s : List ℕ) → (v : Verdict) × ChecksTo newest s v
exists newest s = (checked_to newest s, checks s newest (checked_to newest s) refl)

pub unique : (newest : ℕ) (s : List ℕ) (u v : Verdict) → ChecksTo newest s u → ChecksTo newest s v → u ≡ v
unique newest s u v a b = answers_unique (refusals_to newest s) (table_singles newest s) u v a b

-- R holds of one thing alone
abbrev pub ExactlyOne : (A : Type 0) → (A → Type 0) → Type 0
ExactlyOne A R = (a : A) × R a × ((b : A) → R b → a ≡ b)

-- ---- of a table that gets none of 1 to 8

module _ (s : List ℕ) (ok : Built s) where
  -- a node that is no boolean stands for a sequence or a property
  tree_at : (k : ℕ) → k < count s → ¬ (sort_at s k ≡ boolean) → (t : Tree Atom) × TreeAt (node_at s) k t
  tree_at k h b =
      ⊎_elim (λ e. let (r, d) = sequence_in s (count s) ok.fit (count s) k h h e in (seq r, t_seq d))
      (λ e. let (P, d) = property_in s (count s) ok.fit (count s) k h h e in (prop P, t_prop d))
      (sorts s k (ok.fit k h) b)

  in_root : root s < count s
  in_root = let l = ok.some in omega arith

  clocked_in : {k : ℕ} {ρ : Ref} → ClockOf s k ρ → k < count s
  clocked_in c = clock-inside s ok c

  -- what has a clock is no boolean
  clocked_sort : {k : ℕ} {ρ : Ref} → ClockOf s k ρ → ¬ (sort_at s k ≡ boolean)
  clocked_sort c_root = ok.rooted
  clocked_sort (c_part {p = p} {k = k} c a) = let h = part_sort s k (ok.fit p (clocked_in c)) a in λ e. omega arith

  read_there : (t : Tree Atom) → TreeAt (node_at s) (root s) t → (k : ℕ) (ρ : Ref) (κ : Clock Atom) (q : Tree Atom)
      → ClockOf s k ρ → ClockAt (node_at s) ρ κ → TreeAt (node_at s) k q → Within free t κ q
  read_there t d k ρ κ q c e f =
      read_under s ok.fit (λ j σ g. clocked_in g)
      (λ j σ g. (tree_at j (clocked_in g) (clocked_sort g), clock_in s ok σ (clock_boolean s ok g)))
      t d c e f

  -- the right side of an implication stands for a property
  right : (k : ℕ) → k < count s → (y : ℕ) → Suits s k property y → (P : Prop Atom) × PropertyAt (node_at s) y P
  right k h y j = property_in s (count s) ok.fit (count s) y (let l = j.0 in omega arith) (let l = j.0 in omega arith) j.1

  -- a node that asks for the sequence r stands for a property that is accepted only if r is topped
  asking : (k : ℕ) → k < count s → {v : Node} {x : ℕ} {f : Seq Atom → Seq Atom} → Asks v x f → node_at s k ≡ v → {r : Seq Atom} → SequenceAt (node_at s) x r
      → (Q : Prop Atom) × PropertyAt (node_at s) k Q × ((κ : Clock Atom) → Accepted reading κ Q → Topped reading κ (f r))
  unfolding Accepted
  asking k h by_strong e {r} d = (strong r, p_strong e d, λ κ a. a)
  asking k h by_weak e {r} d = (weak r, p_weak e d, λ κ a. a)
  asking k h (by_implies {y = y}) e {r} d = let (P, f) = right k h y (down s k (ok.fit k h) e).1 in (implies r P, p_imp e d f, λ κ a. a.0)
  asking k h (by_implies_next {y = y}) e {r} d =
      let (P, f) = right k h y (down s k (ok.fit k h) e).1 in (implies_next r P, p_implies_next e d f, λ κ a. a.0)
  asking k h (by_followed {y = y}) e {r} d = let (P, f) = right k h y (down s k (ok.fit k h) e).1 in (followed r P, p_followed e d f, λ κ a. a.0)
  asking k h (by_followed_next {y = y}) e {r} d =
      let (P, f) = right k h y (down s k (ok.fit k h) e).1 in (followed_next r P, p_followed_next e d f, λ κ a. a.0)

-- ---- of a table that is accepted

module _ (newest : ℕ) (s : List ℕ) (v : Verdict) (c : ChecksTo newest s v) (z : v.number ≡ 0) where
  ok : Built s
  ok = (sound newest s v c z).formed

  -- each node stands for exactly one tree, of its sort
  module _ (k : ℕ) (h : k < count s) where
    pub one_boolean : sort_at s k ≡ boolean → ExactlyOne (Bexp Atom) (BooleanAt (node_at s) k)
    one_boolean e = let (b, d) = boolean_in s (count s) ok.fit (count s) k h h e in (b, d, λ q f. unique_b d f)

    pub one_sequence : sort_at s k ≡ sequence → ExactlyOne (Seq Atom) (SequenceAt (node_at s) k)
    one_sequence e = let (r, d) = sequence_in s (count s) ok.fit (count s) k h h e in (r, d, λ q f. unique_s d f)

    pub one_property : sort_at s k ≡ property → ExactlyOne (Prop Atom) (PropertyAt (node_at s) k)
    one_property e = let (P, d) = property_in s (count s) ok.fit (count s) k h h e in (P, d, λ Q f. unique_p d f)

    -- a sequence or property node has exactly one clock: the condition of the nearest clock node above it, if any
    pub one_clock : (sort_at s k ≡ sequence) ⊎ (sort_at s k ≡ property) → (ρ : Ref) × ClockOf s k ρ × ((σ : Ref) → ClockOf s k σ → ρ ≡ σ) × ExactlyOne (Clock Atom) (ClockAt (node_at s) ρ)
    one_clock e =
        let l : sequence ≤ sort_at s k = ⊎_elim (λ (q : sort_at s k ≡ sequence). omega arith) (λ (q : sort_at s k ≡ property). omega arith) e in
        let (ρ, d, o) = clock_exists s ok k h l in
        let (κ, m) = clock_in s ok ρ o in
        (ρ, d, λ σ f. clock_unique s ok d f, (κ, m, λ μ f. unique_c m f))

  -- the root stands for exactly one tree, a sequence or a property
  pub one_root : ExactlyOne (Tree Atom) (TreeAt (node_at s) (root s))
  one_root = let (t, d) = tree_at s ok (root s) (in_root s ok) ok.rooted in (t, d, λ b f. tree_unique d f)

  -- and its clocks are as the page says: each node's tree occurs in the root's, read there under the node's clock
  pub clocks_as_read : (t : Tree Atom) → TreeAt (node_at s) (root s) t → (k : ℕ) (ρ : Ref) (κ : Clock Atom) (q : Tree Atom)
      → ClockOf s k ρ → ClockAt (node_at s) ρ κ → TreeAt (node_at s) k q → Within free t κ q
  clocks_as_read = read_there s ok

  -- a property at the root is accepted by the meaning
  pub accepted_root : (P : Prop Atom) → PropertyAt (node_at s) (root s) P → Accepted reading free P
  accepted_root P d = accepted_at s (count s) ok.fit (sound newest s v c z).solid d (in_root s ok) free

-- ---- and of one that is refused with 9

refused_tree : (newest : ℕ) (s : List ℕ) (v : Verdict) → ChecksTo newest s v → v.number ≡ 9 → (t : Tree Atom) → TreeAt (node_at s) (root s) t → ¬ AcceptedTree reading free t
refused_tree newest s v c z t d a =
    let (ok, h) = hollow_one newest s v c z in
    let (Q, f, topped) = asking s ok v.node (clocked_in s ok h.clocked) h.asks refl h.stands in
    let w = read_there s ok t d v.node h.ref h.clock (prop Q) h.clocked h.means (t_prop f) in
    h.never (topped h.clock (within-accepted reading w a))

-- its root is no sequence,
pub refused_sequence : (newest : ℕ) (s : List ℕ) (v : Verdict) → ChecksTo newest s v → v.number ≡ 9 → (r : Seq Atom) → ¬ SequenceAt (node_at s) (root s) r
refused_sequence newest s v c z r d = refused_tree newest s v c z (seq r) (t_seq d) tt

-- and the property at its root is not accepted by the meaning
pub refused_root : (newest : ℕ) (s : List ℕ) (v : Verdict) → ChecksTo newest s v → v.number ≡ 9 → (P : Prop Atom) → PropertyAt (node_at s) (root s) P → ¬ Accepted reading free P
refused_root newest s v c z P d a = refused_tree newest s v c z (prop P) (t_prop d) a
