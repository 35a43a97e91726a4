-- The new numbers are in order: a node's operands and its clock have lower numbers than its block, and every new node is in a block. Assumes nothing.
use native.Mathlib.Omega.{arith}
use native.Mathlib.Nat.{not-suc-le-zero, le_refl}
use borrow.Author.Tests.{eqb-false, eq-eqb, ne_eqb, not-true}
use mathlib.Core.Path.{◌≡◌, refl, ◌∙◌, sym}
use mathlib.Core.Logic.{⊎_elim}
use mathlib.Core.Bool.{Bool, true, false, cond}
use mathlib.Core.List.{List}
use Prim.Native.Nat.{ℕ, zero, suc, ◌+◌, ◌-◌, ◌<◌, ◌≤◌}
use lib.ListN.{length}
use Rattle.telling.proofs.Telling.{side}
use Rattle.refusal.specs.Heading.{count}
use Rattle.nodes.specs.Operators.{boolean, sequence}
use Rattle.nodes.specs.Nodes.{raw_at, row_at, sort_at, WellFormed}
use Rattle.nodes.specs.NodeClock.{Ref}
use Rattle.clocks.specs.Clocks.{is_clock}
use Rattle.clocks.proofs.Timing.{clock_row, operand_below}
use Rattle.numbers.specs.Numbers.{sum, is_boolean, is_other, length_of, new_count, taken, start_of, number_of}
use Rattle.numbers.proofs.Sums.{sum_le, sum_in}
use Rattle.numbers.proofs.Numbering.{count_split, stands_operand}
use Rattle.writing.specs.Tables.{block_of}
use Rattle.writing.proofs.Lengths.{block_long}
use Rattle.rewrite.proofs.Cells.{last_at}

-- the test of sorts, and what it says
pub is_other_lem : (s : List ℕ) (k : ℕ) → WellFormed s k → is_boolean s k ≡ false → sequence ≤ sort_at s k
unfolding is_boolean
is_other_lem s k w e = let a = eqb-false (sort_at s k) boolean e in let b = w.known in omega arith

boolean_is : (s : List ℕ) (k : ℕ) → sort_at s k ≡ boolean → is_boolean s k ≡ true
unfolding is_boolean
boolean_is s k e = eq-eqb (sort_at s k) boolean e

pub other_is : (s : List ℕ) (k : ℕ) → sequence ≤ sort_at s k → is_boolean s k ≡ false
unfolding is_boolean
other_is s k l = ne_eqb (sort_at s k) boolean (λ e. omega arith)

module _ (s : List ℕ) (clock : ℕ → Ref) (fit : (k : ℕ) → k < count s → WellFormed s k) where
  -- the number after what the nodes below j have in the pass of a boolean, or of another
  abbrev pub after : Bool → ℕ → ℕ
  after b j = cond b (taken s clock (is_boolean s) j) (taken s clock (is_boolean s) (count s) + taken s clock (is_other s) j)

  -- ---- the node that stands for x comes before what stands for later nodes of its pass

  own_end : (x j : ℕ) → x < j → start_of s clock x + length_of s clock x ≤ after (is_boolean s x) j
  unfolding start_of
  own_end x j g = go (is_boolean s x) refl
    where
      go : (b : Bool) → is_boolean s x ≡ b → after b x + length_of s clock x ≤ after b j
      go true e = rw e at (sum_in (λ i. cond (is_boolean s i) (length_of s clock i) 0) x j g)
      go false e = let l = rw e at (sum_in (λ i. cond (is_other s i) (length_of s clock i) 0) x j g) in omega arith

  later-after : (b : Bool) (x j : ℕ) → x ≤ j → after b x ≤ after b j
  later-after true x j g = sum_le (λ i. cond (is_boolean s i) (length_of s clock i) 0) x j g
  later-after false x j g = let l = sum_le (λ i. cond (is_other s i) (length_of s clock i) 0) x j g in omega arith

  before_in : (f x : ℕ) → x < f → (j : ℕ) → x < j → j ≤ count s → number_of s clock x < after (is_boolean s x) j
  before_in zero x l j g h = absurd (not-suc-le-zero l)
  before_in (suc f) x l j g h = go (λ y. before_in f y) (is_clock s x) refl
    where
      x_in : x < count s
      x_in = omega arith

      go : ((y : ℕ) → y < f → (j : ℕ) → y < j → j ≤ count s → number_of s clock y < after (is_boolean s y) j) → (c : Bool) → is_clock s x ≡ c
          → number_of s clock x < after (is_boolean s x) j
      go ih true c =
          let w = fit x x_in in
          let (o, z, u) = clock_row s x w c in
          let b = operand_below s x w c in
          let q : sort_at s (raw_at s x).y ≡ (row_at s x).y = w.y.sorted (λ v. omega arith) in
          let i = ih (raw_at s x).y (omega arith) x b (omega arith) in
          let e : is_boolean s (raw_at s x).y ≡ is_boolean s x = other_is s (raw_at s x).y (omega arith) ∙ sym (other_is s x (omega arith)) in
          let p = later-after (is_boolean s x) x j (omega arith) in
          let i' : number_of s clock (raw_at s x).y < after (is_boolean s x) x = rw e at i in
          let t = stands_operand s clock fit x x_in c in
          omega arith
      go ih false c =
          let (p, o) = last_at s clock fit x x_in c in
          let z = block_long s clock fit x x_in in
          let t = own_end x j g in
          omega arith

  pub before : (x j : ℕ) → x < j → j ≤ count s → number_of s clock x < after (is_boolean s x) j
  before x j g h = before_in (suc x) x (omega arith) j g h

  -- a new node stands for each node, and one past the booleans for each that is none
  pub stands_in : (x : ℕ) → x < count s → number_of s clock x < new_count s clock
  stands_in x h = let t = before x (count s) h (le_refl _) in let e = count_split s clock (count s) in go (is_boolean s x) t
    where
      go : (b : Bool) → number_of s clock x < after b (count s) → number_of s clock x < new_count s clock
      go true t = let e = count_split s clock (count s) in omega arith
      go false t = let e = count_split s clock (count s) in omega arith

  past_in : (f x : ℕ) → x < f → x < count s → sequence ≤ sort_at s x → taken s clock (is_boolean s) (count s) ≤ number_of s clock x
  unfolding start_of
  past_in zero x l h g = absurd (not-suc-le-zero l)
  past_in (suc f) x l h g = go (λ y. past_in f y) (is_clock s x) refl
    where
      go : ((y : ℕ) → y < f → y < count s → sequence ≤ sort_at s y → taken s clock (is_boolean s) (count s) ≤ number_of s clock y) → (c : Bool) → is_clock s x ≡ c
          → taken s clock (is_boolean s) (count s) ≤ number_of s clock x
      go ih true c =
          let w = fit x h in
          let (o, z, u) = clock_row s x w c in
          let b = operand_below s x w c in
          let q = w.y.sorted (λ v. omega arith) in
          let i = ih (raw_at s x).y (omega arith) (omega arith) (omega arith) in
          let t = stands_operand s clock fit x h c in
          omega arith
      go ih false c =
          let (p, o) = last_at s clock fit x h c in
          let e : start_of s clock x ≡ taken s clock (is_boolean s) (count s) + taken s clock (is_other s) x = rw (other_is s x g) in
          omega arith

  pub stands_past : (x : ℕ) → x < count s → sequence ≤ sort_at s x → taken s clock (is_boolean s) (count s) ≤ number_of s clock x
  stands_past x h g = past_in (suc x) x (omega arith) h g

  -- ---- and so before the block of a node that has x as an operand, or as its clock

  module _ (k : ℕ) (h : k < count s) where
    pub boolean_before : (x : ℕ) → x < count s → sort_at s x ≡ boolean → (is_boolean s k ≡ true → x < k) → number_of s clock x < start_of s clock k
    unfolding start_of
    boolean_before x l e g = go (is_boolean s k) refl
      where
        b : is_boolean s x ≡ true
        b = boolean_is s x e

        go : (c : Bool) → is_boolean s k ≡ c → number_of s clock x < after c k
        go true q = rw b at (before x k (g q) (omega arith))
        go false q = let t = rw b at (before x (count s) l (le_refl _)) in omega arith

    pub other_before : (x : ℕ) → x < k → sequence ≤ sort_at s x → sequence ≤ sort_at s k → number_of s clock x < start_of s clock k
    unfolding start_of
    other_before x l e g = rw (other_is s k g) (rw (other_is s x e) at (before x k l (omega arith)))

  -- ---- every new node is in a block

  abbrev Found : ℕ → Type 0
  Found q = (k : ℕ) × (i : ℕ) × (k < count s) × (i < length (block_of s clock k)) × (q ≡ start_of s clock k + i)

  find : (test : ℕ → Bool) (j : ℕ) → j ≤ count s → (q : ℕ) → q < taken s clock test j
      → (k : ℕ) × (i : ℕ) × (k < count s) × (test k ≡ true) × (i < length_of s clock k) × (q ≡ taken s clock test k + i)
  unfolding sum
  find test zero h q l = absurd (not-suc-le-zero l)
  find test (suc j) h q l = ⊎_elim (λ (a : q < taken s clock test j). find test j (omega arith) q a) (λ (a : taken s clock test j ≤ q). go a (test j) refl l) (side q (taken s clock test j))
    where
      go : taken s clock test j ≤ q → (b : Bool) → test j ≡ b → q < taken s clock test j + cond b (length_of s clock j) 0
          → (k : ℕ) × (i : ℕ) × (k < count s) × (test k ≡ true) × (i < length_of s clock k) × (q ≡ taken s clock test k + i)
      go a true e w = (j, q - taken s clock test j, h, e, omega arith, omega arith)
      go a false e w = absurd (let v : ⊥ = omega arith in v)

  pub found : (q : ℕ) → q < new_count s clock → Found q
  unfolding start_of
  found q l =
      ⊎_elim
      (λ (a : q < taken s clock (is_boolean s) (count s)).
      let (k, i, h, t, b, e) = find (is_boolean s) (count s) (le_refl _) q a in
      let z = block_long s clock fit k h in
      (k, i, h, omega arith, rw t e))
      (λ (a : taken s clock (is_boolean s) (count s) ≤ q).
      let p = count_split s clock (count s) in
      let (k, i, h, t, b, e) = find (is_other s) (count s) (le_refl _) (q - taken s clock (is_boolean s) (count s)) (omega arith) in
      let z = block_long s clock fit k h in
      let c = not-true (is_boolean s k) t in
      (k, i, h, omega arith, rw c (omega arith)))
      (side q (taken s clock (is_boolean s) (count s)))
