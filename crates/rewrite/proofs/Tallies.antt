-- Counting over a table's nodes: the operand places that hold nodes of a kind are as many as the nodes of that kind. Assumes nothing.
use native.Mathlib.Omega.{arith}
use borrow.Author.Tests.{eqb-true, eqb-false, ne_eqb}
use mathlib.Core.Path.{◌≡◌, refl, ◌∙◌, sym, ap}
use mathlib.Core.Bool.{Bool, true, false, not, cond}
use mathlib.Core.List.{List}
use Prim.Native.Nat.{ℕ, zero, suc, ◌+◌, ◌<◌, ◌≤◌}
use lib.Dec.{eqb}
use Rattle.refusal.specs.Heading.{count}
use Rattle.nodes.specs.Operators.{none, sequence}
use Rattle.nodes.specs.Nodes.{raw_at, row_at, sort_at, root, hits_of, places_of, uses_of}
use Rattle.nodes.proofs.Placing.{ind, unused}
use Rattle.nodes.proofs.Built.{Built}
use Rattle.clocks.specs.Clocks.{is_clock}
use Rattle.clocks.proofs.Timing.{clock_row}
use Rattle.numbers.specs.Numbers.{sum}
use Rattle.numbers.proofs.Sums.{sum_zero, sum_same, sum_plus, sum_split, sum_swap, sum_one}

-- the uses of a node are a sum over the nodes
pub uses_sum : (s : List ℕ) (x n : ℕ) → uses_of s x n ≡ sum (places_of s x) n
unfolding uses_of sum
uses_sum s x zero = refl
uses_sum s x (suc n) = ap (λ (a : ℕ). a + places_of s x n) (uses_sum s x n)

-- 1 where the byte v is an operand, of a sort, and passes the test
unfoldable pub held_in : (ℕ → Bool) → ℕ → ℕ → ℕ
held_in A sort v = cond (eqb sort none) 0 (ind (A v))

-- how many operand places of node k hold what passes
abbrev pub held_by : List ℕ → (ℕ → Bool) → ℕ → ℕ
held_by s A k = held_in A (row_at s k).x (raw_at s k).x + held_in A (row_at s k).y (raw_at s k).y

unless_zero : (b : Bool) → ◌≡◌ {A = ℕ} (cond b 0 0) 0
unless_zero true = refl
unless_zero false = refl

-- one place, counted by what it may hold
held-sum : (A : ℕ → Bool) (n sort v : ℕ) → (¬ (sort ≡ none) → v < n) → sum (λ x. cond (A x) (hits_of sort v x) 0) n ≡ held_in A sort v
unfolding hits_of held_in
held-sum A n sort v h = go (eqb sort none) refl
  where
    turn : (a b : Bool) → cond a (ind b) 0 ≡ cond b (ind a) 0
    turn true true = refl
    turn true false = refl
    turn false true = refl
    turn false false = refl

    go : (b : Bool) → eqb sort none ≡ b → sum (λ x. cond (A x) (cond b 0 (ind (eqb v x))) 0) n ≡ cond b 0 (ind (A v))
    go true e = sum_zero (λ x. cond (A x) 0 0) n (λ x l. unless_zero (A x))
    go false e =
        sum_same (λ x. cond (A x) (ind (eqb v x)) 0) (λ x. cond (eqb v x) (ind (A x)) 0) n (λ x l. turn (A x) (eqb v x))
        ∙ sum_one (λ x. ind (A x)) v n (h (eqb-false sort none e))

cond_plus : (b : Bool) (x y : ℕ) → cond b (x + y) 0 ≡ cond b x 0 + cond b y 0
cond_plus true x y = refl
cond_plus false x y = refl

cond-sum : (b : Bool) (f : ℕ → ℕ) (n : ℕ) → cond b (sum f n) 0 ≡ sum (λ k. cond b (f k) 0) n
cond-sum true f n = refl
cond-sum false f n = sym (sum_zero (λ k. 0) n (λ k l. refl))

-- A is a test that only sequences and properties pass, and a clock node as its operand does
module _ (s : List ℕ) (ok : Built s) (A : ℕ → Bool) (high : (x : ℕ) → x < count s → A x ≡ true → sequence ≤ sort_at s x)
    (same : (k : ℕ) → k < count s → is_clock s k ≡ true → A k ≡ A (raw_at s k).y) where
  abbrev n : ℕ
  n = count s

  -- the places of node k
  places_held : (k : ℕ) → k < n → sum (λ x. cond (A x) (places_of s x k) 0) n ≡ held_by s A k
  places_held k h =
      let w = ok.fit k h in
      let p = held-sum A n (row_at s k).x (raw_at s k).x (λ z. let l = w.x.below z in omega arith) in
      let q = held-sum A n (row_at s k).y (raw_at s k).y (λ z. let l = w.y.below z in omega arith) in
      let f : ℕ → ℕ = λ x. cond (A x) (hits_of (row_at s k).x (raw_at s k).x x) 0 in
      let g : ℕ → ℕ = λ x. cond (A x) (hits_of (row_at s k).y (raw_at s k).y x) 0 in
      sum_same (λ x. cond (A x) (places_of s x k) 0) (λ x. f x + g x) n
      (λ x l. cond_plus (A x) (hits_of (row_at s k).x (raw_at s k).x x) (hits_of (row_at s k).y (raw_at s k).y x))
      ∙ sum_plus f g n ∙ omega arith

  -- all places, by node and by what they hold
  held_all : sum (λ x. cond (A x) (uses_of s x n) 0) n ≡ sum (held_by s A) n
  held_all =
      sum_same (λ x. cond (A x) (uses_of s x n) 0) (λ x. sum (λ k. cond (A x) (places_of s x k) 0) n) n
      (λ x l. ap (λ (a : ℕ). cond (A x) a 0) (uses_sum s x n) ∙ cond-sum (A x) (places_of s x) n)
      ∙ sum_swap (λ x k. cond (A x) (places_of s x k) 0) n n
      ∙ sum_same (λ k. sum (λ x. cond (A x) (places_of s x k) 0) n) (held_by s A) n places_held

  root_unused : uses_of s (root s) n ≡ 0
  root_unused = unused s (root s) n (omega arith) ok.fit

  -- a node that passes is in one place, or is the root
  used_once : (x : ℕ) → x < n → cond (A x) (uses_of s x n) 0 + cond (eqb (root s) x) (ind (A x)) 0 ≡ ind (A x)
  used_once x h = go (A x) refl (eqb (root s) x) refl
    where
      go : (a : Bool) → A x ≡ a → (b : Bool) → eqb (root s) x ≡ b → cond a (uses_of s x n) 0 + cond b (ind a) 0 ≡ ind a
      go false e b f = let z = unless_zero b in omega arith
      go true e true f = let u : uses_of s x n ≡ 0 = ap (λ (y : ℕ). uses_of s y n) (sym (eqb-true (root s) x f)) ∙ root_unused in omega arith
      go true e false f =
          let z = eqb-false (root s) x f in
          let u = ok.once x (omega arith) (high x h e) in
          omega arith

  all_used : sum (held_by s A) n + ind (A (root s)) ≡ sum (λ x. ind (A x)) n
  all_used =
      let p = held_all in
      let l = ok.some in
      let q = sum_one (λ x. ind (A x)) (root s) n (omega arith) in
      let r = sum_plus (λ x. cond (A x) (uses_of s x n) 0) (λ x. cond (eqb (root s) x) (ind (A x)) 0) n in
      let t = sum_same (λ x. cond (A x) (uses_of s x n) 0 + cond (eqb (root s) x) (ind (A x)) 0) (λ x. ind (A x)) n used_once in
      omega arith

  -- a clock node holds what passes just where it passes itself
  clock-held : (k : ℕ) → k < n → is_clock s k ≡ true → held_by s A k ≡ ind (A k)
  unfolding held_in
  clock-held k h e =
      let w = ok.fit k h in
      let (o, y, u) = clock_row s k w e in
      let l = w.x.below (λ z. omega arith) in
      let f = w.x.sorted (λ z. omega arith) in
      let p = go (A (raw_at s k).x) refl (λ z. let g = high (raw_at s k).x (omega arith) z in omega arith) in
      let r : cond (eqb (row_at s k).y none) 0 (ind (A (raw_at s k).y)) ≡ ind (A k) = rw (ne_eqb (row_at s k).y none (λ z. omega arith)) (ap ind (sym (same k h e))) in
      omega arith
    where
      go : (b : Bool) → A (raw_at s k).x ≡ b → (A (raw_at s k).x ≡ true → ⊥) → cond (eqb (row_at s k).x none) 0 (ind (A (raw_at s k).x)) ≡ 0
      go true q z = absurd (z q)
      go false q z = rw q (unless_zero (eqb (row_at s k).x none))

  -- of the nodes that are no clock nodes
  pub held_once : sum (λ k. cond (not (is_clock s k)) (held_by s A k) 0) n + ind (A (root s)) ≡ sum (λ k. cond (not (is_clock s k)) (ind (A k)) 0) n
  held_once =
      let p = all_used in
      let q = sum_split (held_by s A) (is_clock s) n in
      let r = sum_split (λ k. ind (A k)) (is_clock s) n in
      let t = sum_same (λ k. cond (is_clock s k) (held_by s A k) 0) (λ k. cond (is_clock s k) (ind (A k)) 0) n (λ k l. go k l (is_clock s k) refl) in
      omega arith
    where
      go : (k : ℕ) → k < n → (b : Bool) → is_clock s k ≡ b → cond b (held_by s A k) 0 ≡ cond b (ind (A k)) 0
      go k l true e = clock-held k l e
      go k l false e = refl
