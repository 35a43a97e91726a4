-- The sets of a clocked table's nodes tell from which positions its properties are tested: by induction on how a node stands for its tree, from the rows of the
-- rewritten table. Assumes nothing.
use mathlib.Core.Path.{◌≡◌, refl, sym, ap, subst, ◌∙◌}
use mathlib.Core.Bool.{Bool, true, false, cond, ◌&&◌, and-true, and-false}
use mathlib.Core.List.{List}
use mathlib.Core.Logic.{⊎_elim}
use Prim.Native.Nat.{ℕ, suc, ◌*◌, ◌≤◌, ◌<◌}
use native.Mathlib.Omega.{arith}
use borrow.Author.Tests.{lt-ltb}
use lib.Dec.{T, leb}
use lib.ListN.{length, get_or}
use Rattle.std.specs.Prelude.{Option, Some, None}
use Rattle.telling.specs.Tells.{Tells, some}
use Rattle.telling.proofs.Telling.{is_map, is_as, is_like, is_false, is_lt, is_some, is_test, passed, side}
use Rattle.positions.specs.Member.{has}
use Rattle.refusal.specs.Heading.{version, count, Known}
use Rattle.meaning.specs.Syntax.{Bexp, Seq, Prop, implies, Clock, free}
use Rattle.meaning.specs.Words.{Word, inside, word, none}
use Rattle.meaning.specs.Meaning.{satisfies, Match, counts, Sat}
use Rattle.meaning.specs.Tested.{Tests}
use Rattle.meaning.specs.Pairs.{Atom, Pair, reading, pairs}
use Rattle.meaning.specs.Rewriting.{rew_s, rew_p}
use Rattle.meaning.proofs.Words.{word-inside}
use Rattle.meaning.proofs.Rewriting.{match_rew, sat_rew}
use Rattle.meaning.proofs.Pairing.{length_pairs}
use Rattle.meaning.proofs.Renaming.{both_ways}
use Rattle.meaning.proofs.Testing.{inside_none}
use Rattle.nodes.specs.declared.Raw.{Raw}
use Rattle.nodes.specs.declared.Node.{Node}
use Rattle.nodes.specs.declared.Node.TheVariants.{Boolean, Sequence, Property}
use Rattle.nodes.specs.declared.SequenceOp.{SequenceOp}
use Rattle.nodes.specs.declared.SequenceOp.TheVariants.{Letter, Then, Fused, Either, Empty, Repeat, Clocked, Derived}
use Rattle.nodes.specs.declared.PropertyOp.TheVariants.{Strong, Weak, Negated, AnyOf, BothOf, Implies, Next, Until, Ticked, Defined}
use Rattle.nodes.specs.declared.DerivedProperty.{DerivedProperty}
use Rattle.nodes.specs.Operators.{sequence, base, bytes_of, sequence_bytes, property_bytes}
use Rattle.nodes.specs.Nodes.{raw_at, node_at, root}
use Rattle.nodes.specs.NodeClock.{Ref, free_r, on_r, handed}
use Rattle.nodes.specs.Computed.{named_by}
use Rattle.nodes.proofs.Built.{Built}
use Rattle.nodes.proofs.Coded.{coded_as}
use Rattle.nodes.proofs.Shapes.{Formed, Suits, down}
use Rattle.table.specs.Trees.{BooleanAt, SequenceAt, s_one, s_cat, s_fuse, s_alt, s_empty, s_plus, s_clock, s_repeated, s_delayed, s_goto, s_nonconsecutive, PropertyAt, p_strong, p_weak, p_neg, p_either, p_both, p_imp, p_next, p_until, p_clock, p_implies_next, p_followed, p_followed_next, p_always, p_eventually, p_strong_until, p_strong_next, RootP, ClockAt, c_free, c_on}
use Rattle.clocks.specs.Clocks.{Clocks}
use Rattle.clocks.specs.Computed.{ref_of, clock_by}
use Rattle.clocks.proofs.Timing.{root_clock, clock_boolean}
use Rattle.clocks.proofs.HandingDown.{versions}
use Rattle.numbers.specs.Numbers.{new_count, number_of}
use Rattle.numbers.specs.Computed.{Numbered}
use Rattle.writing.specs.Tables.{new_table}
use Rattle.writing.proofs.Passes.{number_of_lem, clock_is, clock_free, clock_on}
use Rattle.rewrite.proofs.Ordering.{stands_in}
use Rattle.rewrite.proofs.Trees as Trees
use Rattle.cells.specs.Shares.{share, longest, bit_in, HasRow}
use Rattle.cells.specs.Bits.{last_letter, starts_into}
use Rattle.cells.specs.Stored.{set64}
use Rattle.tested.specs.Computed.{Standing, clock_row, is_tick, next_tested, implies_tested, letter_matches, node_tested, standing_of, set_from, sets_below, tested_in, clock_there, node_there, Testing}
use Rattle.tested.proofs.Setting.{set_below}
use Rattle.ticking.specs.Ticks.{second_tick}
use Rattle.rowmeaning.specs.Sets.{TestedBy}
use Rattle.rowmeaning.proofs.WordBits.{in_word, has_word, off_word}
use Rattle.rowmeaning.proofs.Stepping.{ticks_satisfy, satisfies_in}
use Rattle.rowmeaning.proofs.SequenceRules.{longer_tells}
use Rattle.rowmeaning.proofs.TestedRules.{strong_tested, weak_tested, not_tested, or_tested, and_tested, implies_tested_lem, letter_tested, next_tested_lem, tick_tested_lem, until_tested_lem, under_tested}
use Rattle.judge.specs.Rows.{Filled}

module _ (s : List ℕ) (clocks : List (Option ℕ)) (numbers : List ℕ) (ok : Built s) (h : Numbered s clocks numbers) (xs d ws : List ℕ) (rows : Filled (new_table s (clock_by clocks)) xs d ws)
    (counted : count (new_table s (clock_by clocks)) ≡ new_count s (clock_by clocks)) (short : length (pairs xs) ≤ longest) where
  abbrev nodes : ℕ → Node
  nodes = node_at s

  abbrev clock : ℕ → Ref
  clock = clock_by clocks

  right : Clocks s clock
  right = h.timed.right

  known : Known base (version s)
  known = versions h.timed.table

  abbrev ν : ℕ → ℕ
  ν = number_of s clock

  abbrev w : Word Pair
  w = word (pairs xs) none

  abbrev n : ℕ
  n = length (pairs xs)

  -- the set of node k, and the sets below it
  abbrev below : ℕ → List ℕ
  below = sets_below s clocks numbers ws n

  abbrev own : ℕ → ℕ
  own k = set_from s clocks numbers ws n (below k) k

  abbrev at : ℕ → Standing
  at k = standing_of s clocks numbers k

  abbrev By : Clock Atom → Prop Atom → (ℕ → Bool) → Type 0
  By κ P X = TestedBy reading (pairs xs) κ P X

  abbrev Has : ℕ → Ref → Type 0
  Has k ρ = Trees.Has s ok known clock right k ρ

  -- ---- a node's own set

  -- a set keeps the places that its rule gives it
  kept : {κ : Clock Atom} {P : Prop Atom} {f : ℕ → Bool} → By κ P f → By κ P (has (set64 f))
  kept {f = f} b = record { tells = λ i l. is_as (has_word f i (omega arith)) (b.tells i l); past = λ i l. off_word f i (b.past i l) }

  -- an operand's
  operand : {k x : ℕ} → k < count s → x < k → get_or (below k) (named_by x) 0 ≡ own x
  unfolding named_by
  operand {k} {x} l u = let f = ok.few in rw (lt-ltb x 120 (omega arith)) (set_below s clocks numbers ws n k x u)

  -- that of a node whose kind is known, where x and y are its operands'
  own_is : {k : ℕ} {v : Node} → k < count s → nodes k ≡ v → (x y : ℕ) → get_or (below k) (named_by (bytes_of v).x) 0 ≡ x → get_or (below k) (named_by (bytes_of v).y) 0 ≡ y
      → own k ≡ set64 (node_tested ws n (at k) (has x) (has y) v)
  own_is {k} {v} l e x y ex ey =
      let r : raw_at s k ≡ bytes_of v = coded_as s k (ok.fit k l) e in
      let px = ap (λ (r : Raw). get_or (below k) (named_by r.x) 0) r ∙ ex in
      let py = ap (λ (r : Raw). get_or (below k) (named_by r.y) 0) r ∙ ey in
      λ t. set64 (node_tested ws n (at k) (has (px t)) (has (py t)) (e t))

  made : {k : ℕ} {v : Node} {κ : Clock Atom} {P : Prop Atom} → k < count s → nodes k ≡ v → (x y : ℕ) → get_or (below k) (named_by (bytes_of v).x) 0 ≡ x
      → get_or (below k) (named_by (bytes_of v).y) 0 ≡ y → By κ P (node_tested ws n (at k) (has x) (has y) v) → By κ P (has (own k))
  made {κ = κ} {P = P} l e x y ex ey b = subst (λ (u : ℕ). By κ P (has u)) (sym (own_is l e x y ex ey)) (kept b)

  -- ---- the rows that stand for what a node names

  row_of : {k : ℕ} {v : Node} → k < count s → nodes k ≡ v → (f : Raw → ℕ) → f (bytes_of v) < count s → get_or numbers (named_by (f (raw_at s k))) 0 ≡ ν (f (bytes_of v))
  row_of {k} {v} l e f u = ap (λ (r : Raw). get_or numbers (named_by (f r)) 0) (coded_as s k (ok.fit k l) e) ∙ number_of_lem s clocks numbers h (f (bytes_of v)) u

  new_in : {x : ℕ} → x < count s → ν x < count (new_table s clock)
  new_in {x} l = rw counted (stands_in s clock ok.fit x l)

  module _ {κ : Clock Atom} {ρ : Ref} (c : ClockAt nodes ρ κ) {x : ℕ} (hx : Has x ρ) where
    -- the matches of a sequence at x that are not empty, by their last letter
    matched : {r : Seq Atom} → SequenceAt nodes x r → (a : ℕ) → a ≡ ν x → (i l : ℕ) → i ≤ n → Tells (last_letter ws a i l) (Match reading κ r w i (suc l) × (i ≤ l))
    matched {r} q a ea i l u =
        let row = rows.sequences (ν x) (new_in hx.0) (rew_s κ r) (Trees.sequence_stands s ok known clock right q hx c) in
        let m = match_rew reading κ r w i (suc l) in
        rw ea (is_map (longer_tells reading (pairs xs) free ws (ν x) (rew_s κ r) row i u (suc l)) (λ z. let v = z.1 in (m.1 z.0, omega arith)) (λ z. let v = z.1 in (m.0 z.0, omega arith)))

    -- where a property at x holds, with no tail
    held : {P : Prop Atom} → PropertyAt nodes x P → (a : ℕ) → a ≡ ν x → (k : ℕ) → k ≤ n → Tells (bit_in ws a 0 k) (Sat reading κ P w k)
    held {P} q a ea k u =
        rw ea (is_like ((rows.properties (ν x) (new_in hx.0) (rew_p κ P) (Trees.property_stands s ok known clock right q hx c)).answers none k u) (sat_rew reading κ P (pairs xs) none k))

  -- ---- clocks and ticks

  -- the row of a clock's condition, and what is chosen by it
  free_clock : {k : ℕ} → Has k free_r → (at k).clock ≡ None
  free_clock {k} hk = clock_free s clocks numbers h k hk.0 hk.1

  on_clock : {k c : ℕ} → Has k (on_r c) → (at k).clock ≡ Some (ν c)
  on_clock {k} {c} hk = clock_on s clocks numbers h k hk.0 c hk.1

  next_free : {k : ℕ} {P : Prop Atom} (X : ℕ → Bool) → Has k free_r → By free P (λ i. X (suc i)) → By free P (next_tested ws n (at k).clock X)
  next_free {k} {P} X hk b = subst (λ (o : Option ℕ). By free P (next_tested ws n o X)) (sym (free_clock hk)) b

  next_on : {k c : ℕ} {κ : Clock Atom} {P : Prop Atom} (X : ℕ → Bool) → Has k (on_r c) → By κ P (second_tick (is_tick ws n (Some (ν c))) n false X) → By κ P (next_tested ws n (at k).clock X)
  next_on {k} {κ = κ} {P = P} X hk b = subst (λ (o : Option ℕ). By κ P (next_tested ws n o X)) (sym (on_clock hk)) b

  tick_free : {k : ℕ} → Has k free_r → (j : ℕ) → Tells (is_tick ws n (at k).clock j) (T (inside (w j)) × T (counts reading free (w j)))
  unfolding counts
  tick_free {k} hk j =
      rw (free_clock hk)
      (is_map (is_lt j n) (λ l. (word-inside (pairs xs) none j l, tt)) (λ q. inside_none reading (pairs xs) j q.0))

  -- the row of a boolean at c
  satisfied : {c : ℕ} {b : Bexp Atom} → c < count s → BooleanAt nodes c b → (a : ℕ) → a ≡ ν c → (j : ℕ) → Tells (bit_in ws a 0 j) (T (satisfies reading (w j) b))
  satisfied {c} {b} l q a ea j =
      let row = rows.booleans (ν c) (new_in l) b (Trees.boolean_stands s ok known clock right q l) in
      rw ea
      (⊎_elim (λ u. is_as (row.bits j u) (is_test (satisfies reading (w j) b)))
      (λ u. is_as (row.past j u) (is_false (λ t. let v = satisfies_in reading b (pairs xs) j t in absurd (omega arith)))) (side j n))

  tick_on : {k c : ℕ} {b : Bexp Atom} → Has k (on_r c) → BooleanAt nodes c b → (j : ℕ) → Tells (is_tick ws n (Some (ν c)) j) (T (satisfies reading (w j) b))
  tick_on {k} {c} hk q j = satisfied (clock_boolean s ok clock right k c hk.1).0 q (ν c) refl j

  -- for until, whatever the clock
  tick : {k : ℕ} {ρ : Ref} {κ : Clock Atom} → Has k ρ → ClockAt nodes ρ κ → (j : ℕ) → Tells (is_tick ws n (at k).clock j) (T (inside (w j)) × T (counts reading κ (w j)))
  unfolding counts
  tick hk c_free j = tick_free hk j
  tick hk (c_on {b = b} q) j =
      rw (on_clock hk)
      (is_map (tick_on hk q j) (λ t. (word-inside (pairs xs) none j (satisfies_in reading b (pairs xs) j t), t)) (λ z. z.1))

  -- ---- the left side of `|->`

  -- no place passes: the set is empty
  nowhere : (f : ℕ → Bool) → ((i : ℕ) → f i ≡ false) → some (has (set64 f)) 0 64 ≡ true → ⊥
  nowhere f z e = let (p, _, _, t) = (is_some 0 64 (λ p u v. is_test (has (set64 f) p))).to (passed e) in subst T (off_word f p (z p)) t

  empty_set : {x : ℕ} {op : SequenceOp} → nodes x ≡ Sequence op → x < count s → ((i : ℕ) → letter_matches ws (at x) op i ≡ false) → some (has (own x)) 0 64 ≡ true → ⊥
  empty_set {x} {op} e l z t = nowhere (letter_matches ws (at x) op) z (subst (λ (u : ℕ). some (has u) 0 64 ≡ true) (own_is l e _ _ refl refl) t)

  -- a set that is not empty is that of a letter with no clock
  lettered : {x : ℕ} {r : Seq Atom} {ρ : Ref} {κ : Clock Atom} {P : Prop Atom} {Y : ℕ → Bool} → SequenceAt nodes x r → Has x ρ → ClockAt nodes ρ κ
      → some (has (own x)) 0 64 ≡ true → By κ P Y → By κ (implies r P) (λ i. has (own x) i && Y i)
  unfolding bytes_of sequence_bytes
  lettered {x} (s_one {x = c} e q) hx c_free t p =
      let inside = Trees.inside s ok known clock right hx.0 (Trees.goes s ok known clock right hx.0 e) in
      let a-is = row_of hx.0 e (λ r. r.x) inside in
      letter_tested reading (pairs xs)
      (λ i.
      is_as (ap (λ (u : ℕ). has u i) (own_is hx.0 e _ _ refl refl))
      (in_word (letter_matches ws (at x) (Letter c)) i (λ t. let l = satisfies_in reading _ (pairs xs) i t in omega arith)
      (is_as (rw (free_clock hx) (and-true (bit_in ws (at x).a 0 i))) (satisfied inside q (at x).a a-is i))))
      p
  lettered {x} (s_one {x = c} e q) hx (c_on b) t p =
      absurd (empty_set e hx.0 (λ i. rw (on_clock hx) (and-false (bit_in ws (at x).a 0 i))) t)
  lettered (s_cat e q z) hx c t p = absurd (empty_set e hx.0 (λ i. refl) t)
  lettered (s_fuse e q z) hx c t p = absurd (empty_set e hx.0 (λ i. refl) t)
  lettered (s_alt e q z) hx c t p = absurd (empty_set e hx.0 (λ i. refl) t)
  lettered (s_empty e q) hx c t p = absurd (empty_set e hx.0 (λ i. refl) t)
  lettered (s_plus e q) hx c t p = absurd (empty_set e hx.0 (λ i. refl) t)
  lettered (s_clock e b q) hx c t p = absurd (empty_set e hx.0 (λ i. refl) t)
  lettered (s_repeated e q) hx c t p = absurd (empty_set e hx.0 (λ i. refl) t)
  lettered (s_delayed e q z) hx c t p = absurd (empty_set e hx.0 (λ i. refl) t)
  lettered (s_goto e q) hx c t p = absurd (empty_set e hx.0 (λ i. refl) t)
  lettered (s_nonconsecutive e q) hx c t p = absurd (empty_set e hx.0 (λ i. refl) t)

  -- `|->` by the letter's set, or by the row
  asked : {κ : Clock Atom} {r : Seq Atom} {P : Prop Atom} (a : ℕ) (X Y : ℕ → Bool) → (some X 0 64 ≡ true → By κ (implies r P) (λ i. X i && Y i))
      → By κ (implies r P) (starts_into ws n a Y) → By κ (implies r P) (implies_tested ws n a X Y)
  asked {κ} {r} {P} a X Y f g = go (some X 0 64) refl
    where
      go : (t : Bool) → some X 0 64 ≡ t → By κ (implies r P) (λ i. cond t (X i && Y i) (starts_into ws n a Y i))
      go true e = f e
      go false e = g

  -- ---- the induction

  part : {k x sort : ℕ} {v : Node} {ρ : Ref} → Has k ρ → nodes k ≡ v → Suits s k sort x → T (leb sequence sort) → Has x (handed v ρ)
  part = Trees.part s ok known clock right

  -- a node is not derived
  no_defined : {k : ℕ} {o : DerivedProperty} → k < count s → ¬ (nodes k ≡ Property (Defined o))
  no_defined = Trees.no_defined s ok known clock right

  sets_mean : {k : ℕ} {P : Prop Atom} {ρ : Ref} {κ : Clock Atom} → PropertyAt nodes k P → Has k ρ → ClockAt nodes ρ κ → By κ P (has (own k))
  unfolding bytes_of property_bytes
  sets_mean (p_strong e q) hk c = made hk.0 e _ _ refl refl (strong_tested reading (pairs xs) _ _)
  sets_mean (p_weak e q) hk c = made hk.0 e _ _ refl refl (weak_tested reading (pairs xs) _ _)
  sets_mean (p_neg e q) hk c =
      let g = Trees.goes s ok known clock right hk.0 e in
      made hk.0 e _ _ (operand hk.0 g.0) refl (not_tested reading (pairs xs) (sets_mean q (part hk e g tt) c))
  sets_mean (p_either e q z) hk c =
      let (f, g) = Trees.goes s ok known clock right hk.0 e in
      made hk.0 e _ _ (operand hk.0 f.0) (operand hk.0 g.0) (or_tested reading (pairs xs) (sets_mean q (part hk e f tt) c) (sets_mean z (part hk e g tt) c))
  sets_mean (p_both e q z) hk c =
      let (f, g) = Trees.goes s ok known clock right hk.0 e in
      made hk.0 e _ _ (operand hk.0 f.0) (operand hk.0 g.0) (and_tested reading (pairs xs) (sets_mean q (part hk e f tt) c) (sets_mean z (part hk e g tt) c))
  sets_mean {k} (p_imp e q z) hk c =
      let (f, g) = Trees.goes s ok known clock right hk.0 e in
      let hx = part hk e f tt in
      let p = sets_mean z (part hk e g tt) c in
      made hk.0 e _ _ (operand hk.0 f.0) (operand hk.0 g.0)
      (asked _ _ _ (λ t. lettered q hx c t p) (implies_tested_lem reading (pairs xs) short p (matched c hx q (at k).a (row_of hk.0 e (λ r. r.x) hx.0))))
  sets_mean (p_next {x = x} e q) hk c_free =
      let g = Trees.goes s ok known clock right hk.0 e in
      made hk.0 e _ _ (operand hk.0 g.0) refl (next_free (has (own x)) hk (next_tested_lem reading (pairs xs) (sets_mean q (part hk e g tt) c_free)))
  sets_mean (p_next {x = x} e q) hk (c_on {b = b} z) =
      let g = Trees.goes s ok known clock right hk.0 e in
      made hk.0 e _ _ (operand hk.0 g.0) refl
      (next_on (has (own x)) hk (tick_tested_lem reading (pairs xs) b (λ j. is_like (tick_on hk z j) (both_ways (ap T (ticks_satisfy reading b (pairs xs) j)))) (sets_mean q (part hk e g tt) (c_on z))))
  sets_mean {k} (p_until e q z) hk c =
      let (f, g) = Trees.goes s ok known clock right hk.0 e in
      let hx = part hk e f tt in
      let hy = part hk e g tt in
      made hk.0 e _ _ (operand hk.0 f.0) (operand hk.0 g.0)
      (until_tested_lem reading (pairs xs) (sets_mean q hx c) (sets_mean z hy c) (tick hk c) (held c hx q (at k).a (row_of hk.0 e (λ r. r.x) hx.0)) (held c hy z (at k).b (row_of hk.0 e (λ r. r.y) hy.0)))
  sets_mean (p_clock e b q) hk c =
      let (_, g) = Trees.goes s ok known clock right hk.0 e in
      made hk.0 e _ _ refl (operand hk.0 g.0) (under_tested reading (pairs xs) (sets_mean q (part hk e g tt) (c_on b)))
  sets_mean (p_implies_next e q z) hk c = absurd (no_defined hk.0 e)
  sets_mean (p_followed e q z) hk c = absurd (no_defined hk.0 e)
  sets_mean (p_followed_next e q z) hk c = absurd (no_defined hk.0 e)
  sets_mean (p_always e q) hk c = absurd (no_defined hk.0 e)
  sets_mean (p_eventually e q) hk c = absurd (no_defined hk.0 e)
  sets_mean (p_strong_until e q z) hk c = absurd (no_defined hk.0 e)
  sets_mean (p_strong_next e q) hk c = absurd (no_defined hk.0 e)

  -- what is read off the root's set
  pub tested_means : (P : Prop Atom) → RootP s P → Tells (tested_in s clocks numbers ws (length xs)) (Tests reading (pairs xs) P)
  unfolding tested_in
  tested_means P q =
      let l : root s < count s = let m = ok.some in omega arith in
      let b = sets_mean q (l, root_clock s ok clock right) c_free in
      subst (λ (m : ℕ). Tells (has (get_or (sets_below s clocks numbers ws m (count s)) (root s) 0) 0) (Tests reading (pairs xs) P)) (length_pairs xs)
      (is_as (ap (λ (u : ℕ). has u 0) (set_below s clocks numbers ws n (count s) (root s) l)) (b.tells 0 (omega arith)))

-- ---- the rows that the code asks for are there

module _ (s : List ℕ) (clocks : List (Option ℕ)) (numbers : List ℕ) (ok : Built s) (h : Numbered s clocks numbers) (ws : List ℕ) (enough : share * new_count s (clock_by clocks) ≤ length ws) where
  abbrev there : ℕ → Type 0
  there = HasRow (length ws)

  -- the row of a node
  row_there : (k x : ℕ) → k < count s → x < k → (f : Raw → ℕ) → x ≡ f (raw_at s k) → there (get_or numbers (named_by (f (raw_at s k))) 0)
  row_there k x l u f e =
      let m = stands_in s (clock_by clocks) ok.fit x (omega arith) in
      subst (λ (v : ℕ). there (get_or numbers (named_by v) 0)) e (rw (number_of_lem s clocks numbers h x (omega arith)) (omega arith))

  -- of the condition of its clock
  clock-there : (k : ℕ) → k < count s → clock_there (length ws) (standing_of s clocks numbers k).clock
  clock-there k l = go (get_or clocks k None) refl
    where
      go : (o : Option ℕ) → get_or clocks k None ≡ o → clock_there (length ws) (clock_row numbers o)
      go None e = tt
      go (Some c) e =
          let (b, _) = clock_boolean s ok (clock_by clocks) h.timed.right k c (sym (clock_is s clocks numbers h k l) ∙ ap ref_of e) in
          let m = stands_in s (clock_by clocks) ok.fit c b in
          rw (number_of_lem s clocks numbers h c b) (omega arith)

  node_there_lem : (k : ℕ) → k < count s → (v : Node) → node_at s k ≡ v → Formed (Suits s k) v → node_there (length ws) (standing_of s clocks numbers k) v
  unfolding bytes_of sequence_bytes property_bytes
  node_there_lem k l (Boolean o) e f = tt
  node_there_lem k l (Sequence (Letter x)) e f = row_there k x l f.0 (λ r. r.x) (sym (ap (λ (r : Raw). r.x) (coded_as s k (ok.fit k l) e)))
  node_there_lem k l (Sequence (Then x y)) e f = tt
  node_there_lem k l (Sequence (Fused x y)) e f = tt
  node_there_lem k l (Sequence (Either x y)) e f = tt
  node_there_lem k l (Sequence (Empty x)) e f = tt
  node_there_lem k l (Sequence (Repeat x)) e f = tt
  node_there_lem k l (Sequence (Clocked c x)) e f = tt
  node_there_lem k l (Sequence (Derived o)) e f = tt
  node_there_lem k l (Property (Strong x)) e f = tt
  node_there_lem k l (Property (Weak x)) e f = tt
  node_there_lem k l (Property (Negated x)) e f = tt
  node_there_lem k l (Property (AnyOf x y)) e f = tt
  node_there_lem k l (Property (BothOf x y)) e f = tt
  node_there_lem k l (Property (Implies x y)) e f = row_there k x l f.0.0 (λ r. r.x) (sym (ap (λ (r : Raw). r.x) (coded_as s k (ok.fit k l) e)))
  node_there_lem k l (Property (Next x)) e f = clock-there k l
  node_there_lem k l (Property (Until x y)) e f =
      let r = coded_as s k (ok.fit k l) e in
      (row_there k x l f.0.0 (λ r. r.x) (sym (ap (λ (r : Raw). r.x) r)), row_there k y l f.1.0 (λ r. r.y) (sym (ap (λ (r : Raw). r.y) r)), clock-there k l)
  node_there_lem k l (Property (Ticked c x)) e f = tt
  node_there_lem k l (Property (Defined o)) e f = tt

  pub testing : (n : ℕ) → n ≤ longest → Testing s clocks numbers ws n
  testing n short =
      let l = ok.long in
      record {
        bytes = omega arith;
        some = ok.some;
        few = ok.few;
        ready = λ k u. node_there_lem k u (node_at s k) refl (down s k (ok.fit k u) refl);
        short = short;
      }
