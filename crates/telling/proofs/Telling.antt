-- What a test made of others tells, and tests that tell the same. Assumes nothing.
use mathlib.Core.Bool.{Bool, true, false, not, ◌&&◌, ◌||◌, or-false, or_assoc}
use mathlib.Core.Path.{◌≡◌, refl, sym, ap, ap₂, subst, ◌∙◌}
use mathlib.Core.Logic.{◌⊎◌, inl, inr, ⊎_elim, ◌↔◌}
use Prim.Native.Nat.{ℕ, zero, suc, ◌+◌, ◌≤◌, ◌<◌}
use native.Mathlib.Omega.{arith}
use native.Mathlib.Decide.{dec_lt}
use native.Mathlib.Nat.{eq-or-lt_of_le, zero-add, add-zero, add-suc, suc-add}
use lib.Dec.{T, leb, ltb, eqb, leb→le, le→leb, ltb→lt, lt→ltb, eqb→eq, eqb_refl}
use Rattle.telling.specs.Tells.{Tells, some, every}

pub is_map : {b : Bool} {P Q : Type 0} → Tells b P → (P → Q) → (Q → P) → Tells b Q
is_map h f g = record { to = λ t. f (h.to t); from = λ q. h.from (g q) }

-- a test that passes is true, and one that fails is false
pub passes : {b : Bool} → T b → b ≡ true
passes {b = true} t = refl
passes {b = false} t = absurd t

pub passed : {b : Bool} → b ≡ true → T b
passed e = rw e tt

pub fails : {b : Bool} {P : Type 0} → Tells b P → (¬ P) → b ≡ false
fails {b = true} h n = absurd (n (h.to tt))
fails {b = false} h n = refl

pub failed : {b : Bool} {P : Type 0} → Tells b P → b ≡ false → ¬ P
failed h e p = subst T e (h.from p)

pub is_test : (b : Bool) → Tells b (T b)
is_test b = record { to = λ t. t; from = λ t. t }

pub is_true : {P : Type 0} → P → Tells true P
is_true p = record { to = λ t. p; from = λ q. tt }

pub is_false : {P : Type 0} → (¬ P) → Tells false P
is_false n = record { to = λ t. absurd t; from = n }

pub is_and : {a b : Bool} {P Q : Type 0} → Tells a P → Tells b Q → Tells (a && b) (P × Q)
is_and {a = true} {b} h k = record { to = λ t. (h.to tt, k.to t); from = λ q. k.from q.1 }
is_and {a = false} {b} h k = record { to = λ t. absurd t; from = λ q. h.from q.0 }

pub is_or : {a b : Bool} {P Q : Type 0} → Tells a P → Tells b Q → Tells (a || b) (P ⊎ Q)
is_or {a = true} {b} h k = record { to = λ t. inl (h.to tt); from = λ q. tt }
is_or {a = false} {b} h k = record { to = λ t. inr (k.to t); from = ⊎_elim (λ p. absurd (h.from p)) k.from }

pub is_not : {a : Bool} {P : Type 0} → Tells a P → Tells (not a) (¬ P)
is_not {a = true} h = record { to = λ t. absurd t; from = λ n. n (h.to tt) }
is_not {a = false} h = record { to = λ t p. h.from p; from = λ n. tt }

pub is_imp : {a b : Bool} {P Q : Type 0} → Tells a P → Tells b Q → Tells (not a || b) (P → Q)
is_imp {a = true} {b} h k = record { to = λ t p. k.to t; from = λ f. k.from (f (h.to tt)) }
is_imp {a = false} {b} h k = record { to = λ t p. absurd (h.from p); from = λ f. tt }

pub decide : {a : Bool} {P : Type 0} → Tells a P → P ⊎ (¬ P)
decide {a = true} h = inl (h.to tt)
decide {a = false} h = inr h.from

pub test : (a : Bool) → T a ⊎ T (not a)
test true = inl tt
test false = inr tt

pub side : (p m : ℕ) → (p < m) ⊎ (m ≤ p)
side p m = go (dec_lt p m)
  where
    go : Dec (p < m) → (p < m) ⊎ (m ≤ p)
    go (yes h) = inl h
    go (no h) = inr (omega arith)

pub is_eq : (m n : ℕ) → Tells (eqb m n) (m ≡ n)
is_eq m n = record { to = eqb→eq m n; from = λ e. subst (λ x. T (eqb m x)) e (eqb_refl m) }

pub is_lt : (m n : ℕ) → Tells (ltb m n) (m < n)
is_lt m n = record { to = ltb→lt m n; from = lt→ltb m n }

pub is_le : (m n : ℕ) → Tells (leb m n) (m ≤ n)
is_le m n = record { to = leb→le m n; from = le→leb m n }

pub is_some : {f : ℕ → Bool} {P : ℕ → Type 0} (lo n : ℕ) → ((p : ℕ) → lo ≤ p → p < lo + n → Tells (f p) (P p))
    → Tells (some f lo n) ((p : ℕ) × (lo ≤ p) × (p < lo + n) × P p)
unfolding some
is_some lo zero h = is_false (λ q. omega arith)
is_some {f} {P} lo (suc n) h =
    is_map (is_or (h lo (omega arith) (omega arith)) (is_some {f = f} {P = P} (suc lo) n (λ p u v. h p (omega arith) (omega arith))))
    (⊎_elim (λ x. (lo, omega arith, omega arith, x)) (λ q. (q.0, omega arith, omega arith, q.3)))
    (λ q. ⊎_elim (λ e. inl (subst P (omega arith) q.3)) (λ l. inr (q.0, l, omega arith, q.3)) (eq-or-lt_of_le q.1))

-- the same of some position at all, where what is asked holds of these positions alone
pub is_some_at : {f : ℕ → Bool} {P : ℕ → Type 0} (lo n : ℕ) → ((p : ℕ) → P p → (lo ≤ p) × (p < lo + n))
    → ((p : ℕ) → lo ≤ p → p < lo + n → Tells (f p) (P p)) → Tells (some f lo n) ((p : ℕ) × P p)
is_some_at lo n g h = is_map (is_some lo n h) (λ q. (q.0, q.3)) (λ q. (q.0, (g q.0 q.1).0, (g q.0 q.1).1, q.1))

pub is_every : {f : ℕ → Bool} {P : ℕ → Type 0} (lo n : ℕ) → ((p : ℕ) → lo ≤ p → p < lo + n → Tells (f p) (P p))
    → Tells (every f lo n) ((p : ℕ) → lo ≤ p → p < lo + n → P p)
unfolding every
is_every lo zero h = is_true (λ p u v. absurd (omega arith))
is_every {f} {P} lo (suc n) h =
    is_map (is_and (h lo (omega arith) (omega arith)) (is_every {f = f} {P = P} (suc lo) n (λ p u v. h p (omega arith) (omega arith))))
    (λ q p u v. ⊎_elim (λ e. subst P e q.0) (λ l. q.1 p l (omega arith)) (eq-or-lt_of_le u))
    (λ g. (g lo (omega arith) (omega arith), λ p u v. g p (omega arith) (omega arith)))

-- tests that agree on the positions asked
pub some_same : {f g : ℕ → Bool} (lo n : ℕ) → ((p : ℕ) → lo ≤ p → p < lo + n → f p ≡ g p) → some f lo n ≡ some g lo n
unfolding some
some_same lo zero h = refl
some_same {f} {g} lo (suc n) h =
    ap₂ ◌||◌ (h lo (omega arith) (omega arith)) (some_same {f = f} {g = g} (suc lo) n (λ p u v. h p (omega arith) (omega arith)))

-- two statements of one test hold together
pub agree : {b : Bool} {P Q : Type 0} → Tells b P → Tells b Q → P ↔ Q
agree h k = (λ p. k.to (h.from p), λ q. h.to (k.from q))

-- and a test of one of two such statements is one of the other
pub is_like : {b : Bool} {P Q : Type 0} → Tells b P → (Q ↔ P) → Tells b Q
is_like h a = is_map h a.1 a.0

-- a test by an equal one
pub is_as : {a b : Bool} {P : Type 0} → a ≡ b → Tells b P → Tells a P
is_as {P} e h = subst (λ t. Tells t P) (sym e) h

-- the second test needs to be right only where the first passes
pub is_and_then : {a b : Bool} {P Q : Type 0} → Tells a P → (P → Tells b Q) → Tells (a && b) (P × Q)
is_and_then {a = true} {b} h k = let g = k (h.to tt) in record { to = λ t. (h.to tt, g.to t); from = λ q. g.from q.1 }
is_and_then {a = false} {b} h k = record { to = λ t. absurd t; from = λ q. h.from q.0 }

-- two tests of one statement are equal
pub same_test : {a b : Bool} {P : Type 0} → Tells a P → Tells b P → a ≡ b
same_test {a = true} {b = true} h k = refl
same_test {a = true} {b = false} h k = absurd (k.from (h.to tt))
same_test {a = false} {b = true} h k = absurd (h.from (k.to tt))
same_test {a = false} {b = false} h k = refl

-- two comparisons that hold together are equal
pub leb_same : (a b c d : ℕ) → (a ≤ b → c ≤ d) → (c ≤ d → a ≤ b) → leb a b ≡ leb c d
leb_same a b c d f g = same_test (is_map (is_le a b) f g) (is_le c d)

-- one position more is asked
some_more : (f : ℕ → Bool) (lo n : ℕ) → (some f lo n || f (lo + n)) ≡ some f lo (suc n)
unfolding some
some_more f lo zero = rw (add-zero lo) (sym (or-false (f lo)))
some_more f lo (suc n) = rw (add-suc lo n) (or_assoc (f lo) (some f (suc lo) n) (f (suc (lo + n))) ∙ ap (λ b. f lo || b) (rw (← suc-add lo n) (some_more f (suc lo) n)))

pub some_next : (f : ℕ → Bool) (n : ℕ) → (some f 0 n || f n) ≡ some f 0 (suc n)
some_next f n = rw (zero-add n) at (some_more f 0 n)
