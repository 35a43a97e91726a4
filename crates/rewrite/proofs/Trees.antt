-- What a node of an accepted table stands for, the node that stands for it in the rewritten table stands for with the clocks rewritten away.
-- Assumes nothing.
use native.Mathlib.Omega.{arith}
use mathlib.Core.Path.{◌≡◌, refl, ◌∙◌, ap}
use mathlib.Core.Bool.{false}
use mathlib.Core.List.{List, map}
use Prim.Native.Nat.{ℕ, ◌<◌}
use lib.Dec as Dec
use lib.Dec.{eqb, leb, leb→le}
use Rattle.refusal.specs.Heading.{version, count, Known}
use Rattle.meaning.specs.Syntax.{Bexp, Seq, Prop, Clock}
use Rattle.meaning.specs.Rewriting.{rew_s, rew_p}
use Rattle.meaning.specs.Pairs.{Atom}
use Rattle.nodes.specs.declared.Raw.{Raw}
use Rattle.nodes.specs.declared.Node.{Node}
use Rattle.nodes.specs.declared.Node.TheVariants.{Sequence, Property}
use Rattle.nodes.specs.declared.SequenceOp.TheVariants.{Derived}
use Rattle.nodes.specs.declared.PropertyOp.TheVariants.{Defined}
use Rattle.nodes.specs.declared.DerivedSequence.{DerivedSequence}
use Rattle.nodes.specs.declared.DerivedProperty.{DerivedProperty}
use Rattle.nodes.specs.Operators.{sequence, base, operators, lookup, row_of, node_of, bytes_of, boolean_bytes, sequence_bytes, property_bytes}
use Rattle.nodes.specs.Nodes.{raw_at, node_at}
use Rattle.nodes.specs.NodeClock.{Ref, free_r, on_r, handed}
use Rattle.table.specs.Trees.{BooleanAt, b_const, b_sig, b_risen, b_fallen, b_not, b_and, b_or, SequenceAt, s_one, s_cat, s_fuse, s_alt, s_empty, s_plus, s_clock, s_repeated, s_delayed, s_goto, s_nonconsecutive, PropertyAt, p_strong, p_weak, p_neg, p_either, p_both, p_imp, p_next, p_until, p_clock, p_implies_next, p_followed, p_followed_next, p_always, p_eventually, p_strong_until, p_strong_next, ClockAt, c_free, c_on}
use Rattle.nodes.proofs.Built.{Built}
use Rattle.nodes.proofs.Coded.{coded_as}
use Rattle.nodes.proofs.Based.{not_derived, not_defined}
use Rattle.nodes.proofs.Shapes.{Formed, Suits, down}
use Rattle.clocks.specs.Clocks.{Clocks, is_clock}
use Rattle.clocks.proofs.Timing.{part_clock, clock_boolean}
use Rattle.numbers.specs.Numbers.{start_of, number_of}
use Rattle.numbers.proofs.Numbering.{stands_operand}
use Rattle.encoding.specs.Moved.{moved, moved_node}
use Rattle.blocks.specs.Blocks.{letter_block, next_block, until_block, under_block, moved_block, block_under}
use Rattle.blocks.proofs.Viewing.{listed}
use Rattle.writing.specs.Tables.{new_table}
use Rattle.rewrite.proofs.Standing.{Block, copy_else, copy_free, block}

module _ (s : List ℕ) (ok : Built s) (known : Known base (version s)) (clock : ℕ → Ref) (right : Clocks s clock) where
  abbrev n : ℕ
  n = count s

  abbrev T : ℕ → Node
  T = node_at s

  abbrev N : ℕ → Node
  N = node_at (new_table s clock)

  abbrev ν : ℕ → ℕ
  ν = number_of s clock

  -- ---- a node and its operands

  pub goes : {k : ℕ} {v : Node} → k < n → T k ≡ v → Formed (Suits s k) v
  goes {k} l e = down s k (ok.fit k l) e

  -- which is not derived
  pub no_derived : {k : ℕ} {o : DerivedSequence} → k < n → ¬ (T k ≡ Sequence (Derived o))
  no_derived {k} l e = not_derived s k (ok.fit k l) known.1 e

  pub no_defined : {k : ℕ} {o : DerivedProperty} → k < n → ¬ (T k ≡ Property (Defined o))
  no_defined {k} l e = not_defined s k (ok.fit k l) known.1 e

  pub inside : {k x sort : ℕ} → k < n → Suits s k sort x → x < n
  inside l g = let b = g.0 in omega arith

  -- node k has the clock ρ
  abbrev pub Has : ℕ → Ref → Type 0
  Has k ρ = (k < n) × (clock k ≡ ρ)

  -- a part has the clock that the node hands down
  pub part : {k x sort : ℕ} {v : Node} {ρ : Ref} → Has k ρ → T k ≡ v → Suits s k sort x → Dec.T (leb sequence sort) → Has x (handed v ρ)
  part {sort = sort} h e g l = (inside h.0 g, part_clock s ok clock right h.0 (g.2 (leb→le sequence sort l)) ∙ (λ i. handed (e i) (h.1 i)))

  -- ---- what stands for a node

  -- one node
  copied : {k : ℕ} {v : Node} → k < n → T k ≡ v → eqb (row_of (bytes_of v).op).block 0 ≡ false → listed (bytes_of v).op ≡ false → N (ν k) ≡ node_of (moved_node ν (bytes_of v))
  copied {k} l e z u = copy_else s clock ok.fit k l e z u

  free_copied : {k : ℕ} {v : Node} → Has k free_r → T k ≡ v → eqb (row_of (bytes_of v).op).block 0 ≡ false → N (ν k) ≡ node_of (moved_node ν (bytes_of v))
  free_copied {k} h e z = copy_free s clock ok.fit k h.0 e h.1 z

  -- a block
  blocked : {k c : ℕ} {v : Node} → Has k (on_r c) → T k ≡ v → (us : List Node) → eqb (row_of (bytes_of v).op).block 0 ≡ false
      → block_under ν (on_r c) (start_of s clock k) (bytes_of v) ≡ map bytes_of us → Block s clock k us
  blocked {k} {c} h e us z b = block s clock ok.fit k h.0 e c h.1 us z b

  -- an operand of a clock node stands for it
  drops : {k : ℕ} {v : Node} → k < n → T k ≡ v → (row_of (bytes_of v).op).block ≡ 0 → ν k ≡ ν (bytes_of v).y
  unfolding is_clock
  drops {k} {v = v} l e z =
      let r : raw_at s k ≡ bytes_of v = coded_as s k (ok.fit k l) e in
      stands_operand s clock ok.fit k l (ap (λ (r : Raw). eqb (row_of r.op).block 0) r ∙ rw z) ∙ ap (λ (r : Raw). ν r.y) r

  -- ---- booleans

  pub boolean_stands : {k : ℕ} {b : Bexp Atom} → BooleanAt T k b → k < n → BooleanAt N (ν k) b
  unfolding moved moved_node row_of node_of lookup operators bytes_of boolean_bytes
  boolean_stands (b_const e) l = b_const (copied l e refl refl)
  boolean_stands (b_sig e) l = b_sig (copied l e refl refl)
  boolean_stands (b_risen e) l = b_risen (copied l e refl refl)
  boolean_stands (b_fallen e) l = b_fallen (copied l e refl refl)
  boolean_stands (b_not e d) l = b_not (copied l e refl refl) (boolean_stands d (inside l (goes l e)))
  boolean_stands (b_and e d f) l = let (g, j) = goes l e in b_and (copied l e refl refl) (boolean_stands d (inside l g)) (boolean_stands f (inside l j))
  boolean_stands (b_or e d f) l = let (g, j) = goes l e in b_or (copied l e refl refl) (boolean_stands d (inside l g)) (boolean_stands f (inside l j))

  -- the condition of a node's clock
  pub condition : {k c : ℕ} {b : Bexp Atom} → Has k (on_r c) → BooleanAt T c b → BooleanAt N (ν c) b
  condition {k} {c} h d = boolean_stands d (clock_boolean s ok clock right k c h.1).0

  -- ---- sequences

  pub sequence_stands : {k : ℕ} {r : Seq Atom} {ρ : Ref} {κ : Clock Atom} → SequenceAt T k r → Has k ρ → ClockAt T ρ κ → SequenceAt N (ν k) (rew_s κ r)
  unfolding rew_s moved moved_node row_of node_of lookup operators bytes_of sequence_bytes moved_block under_block block_under
  sequence_stands (s_one e d) h c_free = s_one (free_copied h e refl) (boolean_stands d (inside h.0 (goes h.0 e)))
  sequence_stands {k} (s_one {x = x} e d) h (c_on {c = c} b) =
      let w = blocked h e (letter_block (start_of s clock k) (ν c) (ν x)) refl refl in
      let f = condition h b in
      let z = b_not (w.first tt) f in
      let waits = s_alt (w.cell 6 tt) (s_empty (w.cell 3 tt) (s_one (w.cell 2 tt) z)) (s_plus (w.cell 5 tt) (s_one (w.cell 4 tt) z)) in
      rw w.last (s_cat (w.cell 8 tt) waits (s_one (w.cell 7 tt) (b_and (w.cell 1 tt) f (boolean_stands d (inside h.0 (goes h.0 e))))))
  sequence_stands (s_cat e d f) h c =
      let (g, j) = goes h.0 e in s_cat (copied h.0 e refl refl) (sequence_stands d (part h e g tt) c) (sequence_stands f (part h e j tt) c)
  sequence_stands (s_fuse e d f) h c =
      let (g, j) = goes h.0 e in s_fuse (copied h.0 e refl refl) (sequence_stands d (part h e g tt) c) (sequence_stands f (part h e j tt) c)
  sequence_stands (s_alt e d f) h c =
      let (g, j) = goes h.0 e in s_alt (copied h.0 e refl refl) (sequence_stands d (part h e g tt) c) (sequence_stands f (part h e j tt) c)
  sequence_stands (s_empty e d) h c = s_empty (copied h.0 e refl refl) (sequence_stands d (part h e (goes h.0 e) tt) c)
  sequence_stands (s_plus e d) h c = s_plus (copied h.0 e refl refl) (sequence_stands d (part h e (goes h.0 e) tt) c)
  sequence_stands (s_clock e b d) h c = rw (drops h.0 e refl) (sequence_stands d (part h e (goes h.0 e).1 tt) (c_on b))
  sequence_stands (s_repeated e d) h c = absurd (no_derived h.0 e)
  sequence_stands (s_delayed e d f) h c = absurd (no_derived h.0 e)
  sequence_stands (s_goto e d) h c = absurd (no_derived h.0 e)
  sequence_stands (s_nonconsecutive e d) h c = absurd (no_derived h.0 e)

  -- ---- properties

  pub property_stands : {k : ℕ} {P : Prop Atom} {ρ : Ref} {κ : Clock Atom} → PropertyAt T k P → Has k ρ → ClockAt T ρ κ → PropertyAt N (ν k) (rew_p κ P)
  unfolding rew_p moved moved_node row_of node_of lookup operators bytes_of sequence_bytes property_bytes moved_block under_block block_under
  property_stands (p_strong e d) h c = p_strong (copied h.0 e refl refl) (sequence_stands d (part h e (goes h.0 e) tt) c)
  property_stands (p_weak e d) h c = p_weak (copied h.0 e refl refl) (sequence_stands d (part h e (goes h.0 e) tt) c)
  property_stands (p_neg e d) h c = p_neg (copied h.0 e refl refl) (property_stands d (part h e (goes h.0 e) tt) c)
  property_stands (p_either e d f) h c =
      let (g, j) = goes h.0 e in p_either (copied h.0 e refl refl) (property_stands d (part h e g tt) c) (property_stands f (part h e j tt) c)
  property_stands (p_both e d f) h c =
      let (g, j) = goes h.0 e in p_both (copied h.0 e refl refl) (property_stands d (part h e g tt) c) (property_stands f (part h e j tt) c)
  property_stands (p_imp e d f) h c =
      let (g, j) = goes h.0 e in p_imp (copied h.0 e refl refl) (sequence_stands d (part h e g tt) c) (property_stands f (part h e j tt) c)
  property_stands (p_next e d) h c_free = p_next (free_copied h e refl) (property_stands d (part h e (goes h.0 e) tt) c_free)
  property_stands {k} (p_next {x = x} e d) h (c_on {c = c} b) =
      let w = blocked h e (next_block (start_of s clock k) (ν c) (ν x)) refl refl in
      let f = condition h b in
      let z = b_not (w.first tt) f in
      let now = p_both (w.cell 5 tt) (p_strong (w.cell 4 tt) (s_one (w.cell 3 tt) f)) (property_stands d (part h e (goes h.0 e) tt) (c_on b)) in
      let later = p_next (w.cell 7 tt) (p_until (w.cell 6 tt) (p_strong (w.cell 2 tt) (s_one (w.cell 1 tt) z)) now) in
      rw w.last
      (p_until (w.cell 13 tt) (p_strong (w.cell 12 tt) (s_one (w.cell 11 tt) z)) (p_both (w.cell 10 tt) (p_strong (w.cell 9 tt) (s_one (w.cell 8 tt) f)) later))
  property_stands (p_until e d f) h c_free =
      let (g, j) = goes h.0 e in p_until (free_copied h e refl) (property_stands d (part h e g tt) c_free) (property_stands f (part h e j tt) c_free)
  property_stands {k} (p_until {x = x} {y = y} e d f) h (c_on {c = c} b) =
      let (g, j) = goes h.0 e in
      let w = blocked h e (until_block (start_of s clock k) (ν c) (ν x) (ν y)) refl refl in
      let o = condition h b in
      let left = p_both (w.cell 3 tt) (p_strong (w.cell 1 tt) (s_one (w.first tt) o)) (p_neg (w.cell 2 tt) (property_stands d (part h e g tt) (c_on b))) in
      let at_tick = p_both (w.cell 7 tt) (p_strong (w.cell 6 tt) (s_one (w.cell 5 tt) o)) (property_stands f (part h e j tt) (c_on b)) in
      rw w.last (p_until (w.cell 8 tt) (p_neg (w.cell 4 tt) left) at_tick)
  property_stands (p_clock e b d) h c = rw (drops h.0 e refl) (property_stands d (part h e (goes h.0 e).1 tt) (c_on b))
  property_stands (p_implies_next e d f) h c = absurd (no_defined h.0 e)
  property_stands (p_followed e d f) h c = absurd (no_defined h.0 e)
  property_stands (p_followed_next e d f) h c = absurd (no_defined h.0 e)
  property_stands (p_always e d) h c = absurd (no_defined h.0 e)
  property_stands (p_eventually e d) h c = absurd (no_defined h.0 e)
  property_stands (p_strong_until e d f) h c = absurd (no_defined h.0 e)
  property_stands (p_strong_next e d) h c = absurd (no_defined h.0 e)
