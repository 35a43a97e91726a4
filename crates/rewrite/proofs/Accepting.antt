-- The rewritten table gets none of refusals 1 to 9, where it has at most 120 nodes; and the node that stands for the root is its root. Assumes nothing.
use native.Mathlib.Omega.{arith}
use native.Mathlib.Nat.{le_refl}
use borrow.Author.Tests.{eqb-true, ne_eqb}
use mathlib.Core.Path.{◌≡◌, refl, ◌∙◌, sym, ap, subst}
use mathlib.Core.Bool.{Bool, true, false, cond}
use mathlib.Core.List.{List}
use Prim.Native.Nat.{ℕ, suc, ◌-◌, ◌<◌, ◌≤◌}
use lib.Dec.{eqb}
use Rattle.refusal.specs.Heading.{count}
use Rattle.refusal.specs.Computed.{accepted}
use Rattle.meaning.specs.Syntax.{Seq, Prop, free}
use Rattle.meaning.specs.Rewriting.{rew_s, rew_p}
use Rattle.meaning.specs.Pairs.{Atom, reading}
use Rattle.meaning.proofs.Rewriting.{accepted_rew}
use Rattle.nodes.specs.Operators.{boolean, sequence}
use Rattle.nodes.specs.Nodes.{row_at, sort_at, node_at, uses_of, root}
use Rattle.nodes.specs.NodeClock.{Ref}
use Rattle.table.specs.Trees.{SequenceAt, PropertyAt, c_free}
use Rattle.table.specs.Check.{Checks}
use Rattle.nodes.proofs.Built.{Built, root_in, root_heavy}
use Rattle.nodes.proofs.Placing.{unused}
use Rattle.table.proofs.Checking.{Sound, made_checks}
use Rattle.clocks.specs.Clocks.{Clocks, is_clock}
use Rattle.clocks.proofs.Timing.{root_clock}
use Rattle.numbers.specs.Numbers.{is_boolean, length_of, new_count, number_of}
use Rattle.numbers.proofs.Numbering.{none_under, start_fits}
use Rattle.writing.specs.Tables.{new_table}
use Rattle.writing.proofs.Lengths.{block_long, length-table}
use Rattle.rewrite.proofs.Cells.{last_at, stands_sort}
use Rattle.rewrite.proofs.Ordering.{is_other_lem, before, stands_in, stands_past, found}
use Rattle.rewrite.proofs.Trees.{sequence_stands, property_stands}
use Rattle.rewrite.proofs.Forming.{versions, new_fit}
use Rattle.rewrite.proofs.Places.{uses_new}

module _ (s : List ℕ) (sound : Sound s) (clock : ℕ → Ref) (right : Clocks s clock) where
  abbrev t : List ℕ
  t = new_table s clock

  abbrev m : ℕ
  m = new_count s clock

  abbrev ν : ℕ → ℕ
  ν = number_of s clock

  ok : Built s
  ok = sound.formed

  -- ---- the root

  root_new : ν (root s) < m
  root_new = stands_in s clock ok.fit (root s) (root_in ok)

  -- a node with new nodes is no clock node
  blocked : (k : ℕ) → 0 < length_of s clock k → is_clock s k ≡ false
  unfolding is_clock
  blocked k l = ne_eqb (row_at s k).block 0 (λ e. let z = none_under (clock k) (row_at s k).block e in omega arith)

  -- the last node stands for no boolean
  top_other : (k : ℕ) → k < count s → ν k ≡ m - 1 → sequence ≤ sort_at s k
  top_other k h q = go (is_boolean s k) refl
    where
      go : (b : Bool) → is_boolean s k ≡ b → sequence ≤ sort_at s k
      go true e =
          let l = rw e at (before s clock ok.fit k (count s) h (le_refl _)) in
          let o = stands_past s clock ok.fit (root s) (root_in ok) (root_heavy ok) in
          let p = root_new in
          absurd (let w : ⊥ = omega arith in w)
      go false e = is_other_lem s k (ok.fit k h) e

  -- and is the last of a block
  top_sort : sequence ≤ sort_at t (m - 1)
  top_sort =
      let p = root_new in
      let (k, i, h, a, e) = found s clock ok.fit (m - 1) (omega arith) in
      let z = block_long s clock ok.fit k h in
      let f = start_fits s clock k h in
      let (l, o) = last_at s clock ok.fit k h (blocked k (omega arith)) in
      let q : ν k ≡ m - 1 = omega arith in
      let u = stands_sort s clock ok.fit k h in
      let v = top_other k h q in
      subst (λ (x : ℕ). sequence ≤ sort_at t x) q (omega arith)

  -- so the node that stands for the root is the last
  pub root_last : ν (root s) ≡ m - 1
  root_last =
      let p = root_new in
      let u = uses_new s ok clock right (m - 1) (omega arith) top_sort in
      let z = unused t (m - 1) m (omega arith) (new_fit s ok sound.known clock right) in
      go (eqb (ν (root s)) (m - 1)) refl (omega arith)
    where
      go : (b : Bool) → eqb (ν (root s)) (m - 1) ≡ b → ◌≡◌ {A = ℕ} (cond b 1 0) 1 → ν (root s) ≡ m - 1
      go true e c = eqb-true (ν (root s)) (m - 1) e
      go false e c = absurd (let w : ⊥ = omega arith in w)

  -- ---- what the new table has

  pub count_new : count t ≡ m
  unfolding new_table
  count_new = refl

  root_at : root t ≡ ν (root s)
  root_at = let c = count_new in let r = root_last in omega arith

  once_new : (q : ℕ) → suc q < m → sequence ≤ sort_at t q → uses_of t q m ≡ 1
  once_new q h l =
      let u = uses_new s ok clock right q (omega arith) l in
      let r = root_last in
      let e = ne_eqb (ν (root s)) q (λ z. omega arith) in
      let c : ◌≡◌ {A = ℕ} (cond (eqb (ν (root s)) q) 1 0) 0 = rw e in
      omega arith

  built : m ≤ 120 → Built t
  unfolding new_table
  built h = record {
    some = let p = root_new in omega arith;
    few = h;
    long = length-table s clock ok.fit;
    fit = new_fit s ok sound.known clock right;
    once = once_new;
    rooted = λ e. let r = root_heavy ok in let c = stands_sort s clock ok.fit (root s) (root_in ok) in let z : sort_at t (ν (root s)) ≡ boolean = ap (sort_at t) (sym root_at) ∙ e in omega arith;
  }

  -- ---- what its root stands for

  pub sequence_root : (r : Seq Atom) → SequenceAt (node_at s) (root s) r → SequenceAt (node_at t) (root t) (rew_s free r)
  sequence_root r d =
      subst (λ (k : ℕ). SequenceAt (node_at t) k (rew_s free r)) (sym root_at) (sequence_stands s ok sound.known clock right d (root_in ok, root_clock s ok clock right) c_free)

  pub property_root : (P : Prop Atom) → PropertyAt (node_at s) (root s) P → PropertyAt (node_at t) (root t) (rew_p free P)
  property_root P d =
      subst (λ (k : ℕ). PropertyAt (node_at t) k (rew_p free P)) (sym root_at) (property_stands s ok sound.known clock right d (root_in ok, root_clock s ok clock right) c_free)

  -- ---- the new table is accepted

  pub new_checks : m ≤ 120 → Checks t accepted
  unfolding new_table
  new_checks h =
      made_checks s sound t (rew_s free) (rew_p free) sequence_root property_root (λ P a. accepted_rew reading free P a) refl (versions s ok sound.known clock right) (built h)
