-- The two flags of a sequence are what matching says of letters ⊤ alone, under every clock. So a node is hollow exactly where the page refuses it with 9,
-- and a property of a table with no such node is accepted by the meaning. Assumes nothing.
use native.Mathlib.Omega.{arith}
use borrow.Author.Tests.{not-false}
use mathlib.Core.Path.{◌≡◌, refl, ◌∙◌, sym, ap, subst}
use mathlib.Core.Bool.{Bool, true, false, not, ◌&&◌, ◌||◌, and-false}
use mathlib.Core.List.{List}
use Prim.Native.Nat.{ℕ, ◌<◌}
use lib.Dec.{T}
use Rattle.telling.specs.Tells.{Tells, some, every}
use Rattle.telling.proofs.Telling.{is_not, passed}
use Rattle.meaning.specs.Syntax.{Bexp, const, Seq, one, Prop, Clock, free, on}
use Rattle.meaning.specs.Meaning.{Topped, Accepted}
use Rattle.meaning.specs.Pairs.{Atom, reading}
use Rattle.meaning.proofs.Eval.{match_b, plus_b, top_b}
use Rattle.meaning.proofs.Leveling.{topped_b, is_topped}
use Rattle.nodes.specs.declared.Node.{Node}
use Rattle.nodes.specs.declared.Node.TheVariants.{Boolean, Sequence, Property}
use Rattle.nodes.specs.declared.PropertyOp.TheVariants.{Strong, Weak, Negated, AnyOf, BothOf, Implies, Next, Until, Ticked, Defined}
use Rattle.nodes.specs.declared.DerivedProperty.TheVariants.{ImpliesNext, Followed, FollowedNext, Always, Eventually, StrongUntil, StrongNext}
use Rattle.hollows.specs.declared.Tops.{Tops}
use Rattle.nodes.specs.declared.Raw.{Raw}
use Rattle.nodes.specs.Operators.{sequence, bytes_of, derived_sequence_bytes, derived_property_bytes, sequence_bytes, property_bytes}
use Rattle.nodes.specs.Nodes.{raw_at, sort_at, node_at, WellFormed}
use Rattle.table.specs.Trees.{SequenceAt, s_one, s_cat, s_fuse, s_alt, s_empty, s_plus, s_clock, s_repeated, s_delayed, s_goto, s_nonconsecutive, PropertyAt, p_strong, p_weak, p_neg, p_either, p_both, p_imp, p_next, p_until, p_clock, p_implies_next, p_followed, p_followed_next, p_always, p_eventually, p_strong_until, p_strong_next}
use Rattle.table.specs.Check.{Asks, by_strong, by_weak, by_implies, by_implies_next, by_followed, by_followed_next}
use Rattle.hollows.specs.Flags.{flags, tops_at, derived_tops, sequence_tops, node_tops, tops_below, hollow_derived, hollow_property, hollow_node, hollow}
use Rattle.nodes.proofs.Coded.{coded_as}
use Rattle.nodes.proofs.Shapes.{down}
use Rattle.table.proofs.Repeats.{Tested, then_same, tested_range, tested_delay, tested_goto, tested_nonconsecutive, tested_one, tested_next}
use Rattle.hollows.proofs.Keeping.{of_x, of_y, flags_at, flags_of}

-- ---- the flags of a node's operands

module _ (s : List ℕ) where
  -- the operands of a node of a known kind
  module _ {k : ℕ} {v : Node} (w : WellFormed s k) (e : node_at s k ≡ v) where
    raw_is : raw_at s k ≡ bytes_of v
    raw_is = coded_as s k w e

    x_flags : (bytes_of v).x < k → of_x s k ≡ flags_at s (bytes_of v).x
    x_flags l = ap (λ (r : Raw). tops_at (tops_below s k) r.x) raw_is ∙ flags_of s k (bytes_of v).x l

    y_flags : (bytes_of v).y < k → of_y s k ≡ flags_at s (bytes_of v).y
    y_flags l = ap (λ (r : Raw). tops_at (tops_below s k) r.y) raw_is ∙ flags_of s k (bytes_of v).y l

-- ---- the tests of matching, of letters ⊤ alone

repeat_same : (a : Tops) → a ≡ flags a.empty (a.some || ((a.empty && a.some) || false))
repeat_same a = λ i. flags a.empty (go a.empty a.some i)
  where
    go : (e m : Bool) → m ≡ (m || ((e && m) || false))
    go e true = refl
    go e false = rw (and-false e)

module _ (s : List ℕ) (n : ℕ) (fit : (k : ℕ) → k < n → WellFormed s k) where
  tested : {k : ℕ} {r : Seq Atom} → SequenceAt (node_at s) k r → k < n → (κ : Clock Atom) → flags_at s k ≡ Tested κ r
  unfolding match_b top_b plus_b some every node_tops sequence_tops derived_tops bytes_of sequence_bytes derived_sequence_bytes
  tested (s_one e d) h free = rw e
  tested (s_one e d) h (on c) = rw e
  tested {k} (s_cat {r = a} {s = b} e d f) h κ =
      let (g, j) = down s k (fit k h) e in
      rw (x_flags s (fit k h) e g.0, y_flags s (fit k h) e j.0, e, tested d (omega arith) κ, tested f (omega arith) κ) (then_same (Tested κ a) (Tested κ b))
  tested {k} (s_fuse e d f) h κ =
      let (g, j) = down s k (fit k h) e in
      rw (x_flags s (fit k h) e g.0, y_flags s (fit k h) e j.0, e, tested d (omega arith) κ, tested f (omega arith) κ)
  tested {k} (s_alt e d f) h κ =
      let (g, j) = down s k (fit k h) e in
      rw (x_flags s (fit k h) e g.0, y_flags s (fit k h) e j.0, e, tested d (omega arith) κ, tested f (omega arith) κ)
  tested (s_empty e d) h κ = rw e
  tested {k} (s_plus {r = a} e d) h κ =
      let g = down s k (fit k h) e in
      rw (x_flags s (fit k h) e g.0, e, tested d (omega arith) κ) (repeat_same (Tested κ a))
  tested {k} (s_clock {b = b} e c d) h κ =
      let (g, j) = down s k (fit k h) e in
      rw (y_flags s (fit k h) e j.0, e) (tested d (omega arith) (on b))
  tested {k} (s_repeated {m = i} {n = j} {r = a} e d) h κ =
      let g = down s k (fit k h) e in
      rw (x_flags s (fit k h) e g.0, e, tested d (omega arith) κ) (sym (tested_range κ a i j))
  tested {k} (s_delayed {m = m} {n = n} {r = a} {s = b} e d f) h κ =
      let (g, j) = down s k (fit k h) e in
      rw (x_flags s (fit k h) e g.0, y_flags s (fit k h) e j.0, e, tested d (omega arith) κ, tested f (omega arith) κ) (sym (tested_delay κ a b m n))
  tested (s_goto {m = m} {b = b} e d) h κ = rw e (sym (tested_goto κ b m))
  tested (s_nonconsecutive {m = m} {b = b} e d) h κ = rw e (sym (tested_nonconsecutive κ b m))

  topped_tells : {k : ℕ} {r : Seq Atom} → SequenceAt (node_at s) k r → k < n → (κ : Clock Atom) → Tells (flags_at s k).some (Topped reading κ r)
  unfolding topped_b
  topped_tells {r = r} d h κ = subst (λ (t : Tops). Tells t.some (Topped reading κ r)) (sym (tested d h κ)) (is_topped reading κ r)

  -- ---- what a node asks of its sequence

  module _ (k : ℕ) (h : k < n) where
    pub asked : {v : Node} {x : ℕ} {over : Seq Atom → Seq Atom} → Asks v x over → node_at s k ≡ v
        → (x < k) × (sort_at s x ≡ sequence) × ((κ : Clock Atom) (r : Seq Atom) → flags_at s x ≡ Tested κ r → hollow s k ≡ not (Tested κ (over r)).some)
    unfolding hollow hollow_node hollow_property hollow_derived bytes_of property_bytes derived_property_bytes
    asked by_strong e = let g = down s k (fit k h) e in (g.0, g.1, λ κ r z. rw (x_flags s (fit k h) e g.0, e, z))
    asked by_weak e = let g = down s k (fit k h) e in (g.0, g.1, λ κ r z. rw (x_flags s (fit k h) e g.0, e, z))
    asked by_implies e = let (g, j) = down s k (fit k h) e in (g.0, g.1, λ κ r z. rw (x_flags s (fit k h) e g.0, e, z))
    asked by_followed e = let (g, j) = down s k (fit k h) e in (g.0, g.1, λ κ r z. rw (x_flags s (fit k h) e g.0, e, z))
    asked by_implies_next e =
        let (g, j) = down s k (fit k h) e in
        (g.0, g.1, λ κ r z. rw (x_flags s (fit k h) e g.0, e, z) (ap not (sym (tested_next κ (const true) r))))
    asked by_followed_next e =
        let (g, j) = down s k (fit k h) e in
        (g.0, g.1, λ κ r z. rw (x_flags s (fit k h) e g.0, e, z) (ap not (sym (tested_next κ (const true) r))))

    -- the node is hollow exactly if that sequence is not topped, whatever the clock
    pub hollow_tells : {x : ℕ} {over : Seq Atom → Seq Atom} {r : Seq Atom} → Asks (node_at s k) x over → SequenceAt (node_at s) x r → (κ : Clock Atom)
        → Tells (hollow s k) (¬ Topped reading κ (over r))
    unfolding topped_b
    hollow_tells {over = over} {r = r} a d κ =
        let (l, z, e) = asked a refl in
        subst (λ (b : Bool). Tells b (¬ Topped reading κ (over r))) (sym (e κ r (tested d (omega arith) κ))) (is_not (is_topped reading κ (over r)))

    -- a hollow node asks for a sequence
    pub asks_of : T (hollow s k) → (x : ℕ) × (over : Seq Atom → Seq Atom) × Asks (node_at s k) x over
    unfolding hollow hollow_node hollow_property hollow_derived
    asks_of = go (node_at s k)
      where
        go : (v : Node) → T (hollow_node v (of_x s k)) → (x : ℕ) × (over : Seq Atom → Seq Atom) × Asks v x over
        go (Boolean o) t = absurd t
        go (Sequence o) t = absurd t
        go (Property (Strong x)) t = (x, _, by_strong)
        go (Property (Weak x)) t = (x, _, by_weak)
        go (Property (Negated x)) t = absurd t
        go (Property (AnyOf x y)) t = absurd t
        go (Property (BothOf x y)) t = absurd t
        go (Property (Implies x y)) t = (x, _, by_implies)
        go (Property (Next x)) t = absurd t
        go (Property (Until x y)) t = absurd t
        go (Property (Ticked c x)) t = absurd t
        go (Property (Defined (ImpliesNext x y))) t = (x, _, by_implies_next)
        go (Property (Defined (Followed x y))) t = (x, _, by_followed)
        go (Property (Defined (FollowedNext x y))) t = (x, _, by_followed_next)
        go (Property (Defined (Always x))) t = absurd t
        go (Property (Defined (Eventually x))) t = absurd t
        go (Property (Defined (StrongUntil x y))) t = absurd t
        go (Property (Defined (StrongNext x))) t = absurd t

  -- one letter ⊤ matches any boolean, 0 too
  letter_topped : (κ : Clock Atom) (b : Bexp Atom) → Topped reading κ (one b)
  unfolding topped_b
  letter_topped κ b = (is_topped reading κ (one b)).to (passed (ap (λ (t : Tops). t.some) (tested_one κ b)))

  -- ---- a property with no hollow node is accepted

  module _ (solid : (k : ℕ) → k < n → hollow s k ≡ false) where
    -- the test of a sequence that is asked for passes
    asked_topped : {k x : ℕ} {v : Node} {over : Seq Atom → Seq Atom} {r : Seq Atom} → k < n → node_at s k ≡ v → Asks v x over → SequenceAt (node_at s) x r
        → (κ : Clock Atom) → Topped reading κ (over r)
    unfolding topped_b
    asked_topped {k} {x} {over = over} {r = r} h e a d κ =
        let (l, z, f) = asked k h a e in
        (is_topped reading κ (over r)).to (passed (not-false (Tested κ (over r)).some (sym (f κ r (tested d (omega arith) κ)) ∙ solid k h)))

    pub accepted_at : {k : ℕ} {P : Prop Atom} → PropertyAt (node_at s) k P → k < n → (κ : Clock Atom) → Accepted reading κ P
    unfolding Accepted
    accepted_at (p_strong e d) h κ = asked_topped h e by_strong d κ
    accepted_at (p_weak e d) h κ = asked_topped h e by_weak d κ
    accepted_at {k} (p_neg e d) h κ = let g = down s k (fit k h) e in accepted_at d (omega arith) κ
    accepted_at {k} (p_either e d f) h κ = let (g, j) = down s k (fit k h) e in (accepted_at d (omega arith) κ, accepted_at f (omega arith) κ)
    accepted_at {k} (p_both e d f) h κ = let (g, j) = down s k (fit k h) e in (accepted_at d (omega arith) κ, accepted_at f (omega arith) κ)
    accepted_at {k} (p_imp e d f) h κ = let (g, j) = down s k (fit k h) e in (asked_topped h e by_implies d κ, accepted_at f (omega arith) κ)
    accepted_at {k} (p_next e d) h κ = let g = down s k (fit k h) e in accepted_at d (omega arith) κ
    accepted_at {k} (p_until e d f) h κ = let (g, j) = down s k (fit k h) e in (accepted_at d (omega arith) κ, accepted_at f (omega arith) κ)
    accepted_at {k} (p_clock {b = b} e c d) h κ = let (g, j) = down s k (fit k h) e in accepted_at d (omega arith) (on b)
    accepted_at {k} (p_implies_next e d f) h κ =
        let (g, j) = down s k (fit k h) e in (asked_topped h e by_implies_next d κ, accepted_at f (omega arith) κ)
    accepted_at {k} (p_followed e d f) h κ = let (g, j) = down s k (fit k h) e in (asked_topped h e by_followed d κ, accepted_at f (omega arith) κ)
    accepted_at {k} (p_followed_next e d f) h κ =
        let (g, j) = down s k (fit k h) e in (asked_topped h e by_followed_next d κ, accepted_at f (omega arith) κ)
    accepted_at {k} (p_always e d) h κ = let g = down s k (fit k h) e in (accepted_at d (omega arith) κ, letter_topped κ (const false))
    accepted_at {k} (p_eventually e d) h κ = let g = down s k (fit k h) e in (accepted_at d (omega arith) κ, letter_topped κ (const false))
    accepted_at {k} (p_strong_until e d f) h κ =
        let (g, j) = down s k (fit k h) e in
        let b = accepted_at f (omega arith) κ in
        ((accepted_at d (omega arith) κ, b), (b, letter_topped κ (const false)))
    accepted_at {k} (p_strong_next e d) h κ = let g = down s k (fit k h) e in accepted_at d (omega arith) κ
