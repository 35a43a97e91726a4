-- The order ⊥ ≤ anything ≤ ⊤ on what stands at a position, and what it does to matches. Assumes nothing.
use mathlib.Core.Bool.{Bool}
use mathlib.Core.Path.{◌≡◌, subst}
use mathlib.Core.Logic.{◌⊎◌, inl, inr, ⊎_elim}
use Prim.Native.Nat.{ℕ, suc, ◌+◌, ◌-◌, ◌≤◌, ◌<◌}
use native.Mathlib.Omega.{arith}
use lib.Dec.{T}
use Rattle.telling.proofs.Telling.{side}
use Rattle.meaning.specs.Syntax.{Bexp, nott, Seq, one, cat, fuse, alt, empty, plus, clocked, Clock, free, on}
use Rattle.meaning.specs.Words.{Cell, real, top, bot, end, Word, flip, bar}
use Rattle.meaning.proofs.Cells.{alive, is_top}
use Rattle.meaning.specs.Meaning.{Plus, last, more, satisfies, Match}

pub data Below {S : Type 0} : Cell S → Cell S → Type 0 where
  from_bot : {y : Cell S} → Below bot y
  to_top : {x : Cell S} → Below x top
  same : {x : Cell S} → Below x x

pub below_flip : {S : Type 0} {x y : Cell S} → Below x y → Below (flip y) (flip x)
below_flip from_bot = to_top
below_flip to_top = from_bot
below_flip same = same

pub top_above : {S : Type 0} (x y : Cell S) → T (is_top y) → Below x y
top_above x (real s) t = absurd t
top_above x top t = to_top
top_above x bot t = absurd t
top_above x end t = absurd t

-- what may stand later: behind ⊤, ⊥ or the end only the same. `Proper` is what the three words of a record and their bars are
pub data Keeps {S : Type 0} : Cell S → Cell S → Type 0 where
  from_real : {s : S} {y : Cell S} → Keeps (real s) y
  stay : {x : Cell S} → Keeps x x

abbrev pub Proper : {S : Type 0} → Word S → Type 0
Proper w = (p q : ℕ) → p ≤ q → Keeps (w p) (w q)

pub proper_bar : {S : Type 0} (w : Word S) → Proper w → Proper (bar w)
proper_bar {S} w h p q l = go (h p q l)
  where
    go : {x y : Cell S} → Keeps x y → Keeps (flip x) (flip y)
    go from_real = from_real
    go stay = stay

-- a stretch in a row never goes back
pub plus_le : {M : ℕ → ℕ → Type 0} → ((a b : ℕ) → M a b → a ≤ b) → {i j : ℕ} → Plus M i j → i ≤ j
plus_le h (last {i = i} {j = j} a) = h i j a
plus_le h (more {i = i} {m = m} {j = j} a q) = let u = h i m a in let v = plus_le h q in omega arith

-- each position of a row lies in one of its stretches
plus_at : {M : ℕ → ℕ → Type 0} {i j : ℕ} → Plus M i j → (p : ℕ) → i ≤ p → p < j → (a : ℕ) × (b : ℕ) × (a ≤ p) × (p < b) × M a b
plus_at (last {i = i} {j = j} h) p u v = (i, j, u, v, h)
plus_at (more {i = i} {m = m} {j = j} h q) p u v = ⊎_elim (λ x. (i, m, u, x, h)) (λ x. plus_at q p x v) (side p m)

-- a row of stretches between lo and hi is carried from p to p + d - c, stretch by stretch
plus_carry : {M N : ℕ → ℕ → Type 0} (c d lo hi : ℕ) → c ≤ lo + d → ((a b : ℕ) → M a b → a ≤ b)
    → ((a b a' b' : ℕ) → lo ≤ a → b ≤ hi → a' + c ≡ a + d → b' + c ≡ b + d → M a b → N a' b')
    → {i j : ℕ} → Plus M i j → (i' j' : ℕ) → lo ≤ i → j ≤ hi → i' + c ≡ i + d → j' + c ≡ j + d → Plus N i' j'
plus_carry c d lo hi z le f (last {i = i} {j = j} a) i' j' u v e e' = last (f i j i' j' u v e e' a)
plus_carry c d lo hi z le f (more {i = i} {m = m} {j = j} a q) i' j' u v e e' =
    let x = le i m a in
    let y = plus_le le q in
    let g : (m + d - c) + c ≡ m + d = omega arith in
    more (f i m i' (m + d - c) u (omega arith) e g a) (plus_carry c d lo hi z le f q (m + d - c) j' (omega arith) v g e')

module _ {A S : Type 0} (reads : A → S → Bool) where
  -- a higher letter satisfies more
  pub below-satisfies : {x y : Cell S} (b : Bexp A) → Below x y → T (satisfies reads x b) → T (satisfies reads y b)
  unfolding satisfies
  below-satisfies b from_bot t = absurd t
  below-satisfies b to_top t = tt
  below-satisfies b same t = t

  pub match_le : (κ : Clock A) (r : Seq A) (w : Word S) (i j : ℕ) → Match reads κ r w i j → i ≤ j
  unfolding Match
  match_le free (one b) w i j h = omega arith
  match_le (on c) (one b) w i j h = omega arith
  match_le κ (cat r s) w i j h = let u = match_le κ r w i h.0 h.1 in let v = match_le κ s w h.0 j h.2 in omega arith
  match_le κ (fuse r s) w i j h = omega arith
  match_le κ (alt r s) w i j (inl h) = match_le κ r w i j h
  match_le κ (alt r s) w i j (inr h) = match_le κ s w i j h
  match_le κ (empty r) w i j h = omega arith
  match_le κ (plus r) w i j h = plus_le (match_le κ r w) h
  match_le κ (clocked c r) w i j h = match_le (on c) r w i j h

  -- a match is carried from each p to q with q + c ≡ p + d, to letters that are no lower
  pub carry : (κ : Clock A) (r : Seq A) (f g : Word S) (c d i j i' j' : ℕ) → i' + c ≡ i + d → j' + c ≡ j + d
      → ((p q : ℕ) → q + c ≡ p + d → i ≤ p → p < j → Below (f p) (g q)) → Match reads κ r f i j → Match reads κ r g i' j'
  unfolding Match
  carry free (one b) f g c d i j i' j' e e' up h = (omega arith, below-satisfies b (up i i' e (omega arith) (omega arith)) h.1)
  carry (on t) (one b) f g c d i j i' j' e e' up (k, x, y, tc, tb, early) =
      let at = up k (k + d - c) (omega arith) (omega arith) (omega arith) in (
        k + d - c,
        omega arith,
        omega arith,
        below-satisfies t at tc,
        below-satisfies b at tb,
        λ m a z.
            below-satisfies (nott t) (up (m + c - d) m (omega arith) (omega arith) (omega arith)) (early (m + c - d) (omega arith) (omega arith)),
      )
  carry κ (cat r s) f g c d i j i' j' e e' up (m, a, b) =
      let x = match_le κ r f i m a in
      let y = match_le κ s f m j b in
      let z : (m + d - c) + c ≡ m + d = omega arith in (
        m + d - c,
        carry κ r f g c d i m i' (m + d - c) e z (λ p q z u v. up p q z u (omega arith)) a,
        carry κ s f g c d m j (m + d - c) j' z e' (λ p q z u v. up p q z (omega arith) v) b,
      )
  carry κ (fuse r s) f g c d i j i' j' e e' up (m, x, y, a, b) =
      let z : (m + d - c) + c ≡ m + d = omega arith in (
        m + d - c,
        omega arith,
        omega arith,
        carry κ r f g c d i (suc m) i' (suc (m + d - c)) e (omega arith) (λ p q z u v. up p q z u (omega arith)) a,
        carry κ s f g c d m j (m + d - c) j' z e' (λ p q z u v. up p q z (omega arith) v) b,
      )
  carry κ (alt r s) f g c d i j i' j' e e' up (inl h) = inl (carry κ r f g c d i j i' j' e e' up h)
  carry κ (alt r s) f g c d i j i' j' e e' up (inr h) = inr (carry κ s f g c d i j i' j' e e' up h)
  carry κ (empty r) f g c d i j i' j' e e' up h = omega arith
  carry κ (plus r) f g c d i j i' j' e e' up h =
      plus_carry c d i j (omega arith) (match_le κ r f)
      (λ a b a' b' u v x y m. carry κ r f g c d a b a' b' x y (λ p q z k l. up p q z (omega arith) (omega arith)) m) h i' j' (omega arith) (omega arith) e e'
  carry κ (clocked t r) f g c d i j i' j' e e' up h = carry (on t) r f g c d i j i' j' e e' up h

  pub match_mono : (κ : Clock A) (r : Seq A) (f g : Word S) (i j : ℕ) → ((p : ℕ) → i ≤ p → p < j → Below (f p) (g p))
      → Match reads κ r f i j → Match reads κ r g i j
  match_mono κ r f g i j up h =
      carry κ r f g 0 0 i j i j (omega arith) (omega arith) (λ p q e u v. subst (λ x. Below (f p) (g x)) (omega arith) (up p u v)) h

  satisfies-alive : (x : Cell S) (b : Bexp A) → T (satisfies reads x b) → T (alive x)
  unfolding satisfies
  satisfies-alive (real s) b t = tt
  satisfies-alive top b t = tt
  satisfies-alive bot b t = t
  satisfies-alive end b t = t

  -- no match holds a ⊥ letter, and none goes past the end
  pub match_alive : (κ : Clock A) (r : Seq A) (w : Word S) (i j : ℕ) → Match reads κ r w i j → (p : ℕ) → i ≤ p → p < j → T (alive (w p))
  unfolding Match
  match_alive free (one b) w i j (e, t) p u v = subst (λ x. T (alive (w x))) (omega arith) (satisfies-alive (w i) b t)
  match_alive (on c) (one b) w i j (k, e, l, tc, tb, early) p u v = go (side p k)
    where
      go : (p < k) ⊎ (k ≤ p) → T (alive (w p))
      go (inl x) = satisfies-alive (w p) (nott c) (early p u x)
      go (inr x) = subst (λ x. T (alive (w x))) (omega arith) (satisfies-alive (w k) c tc)
  match_alive κ (cat r s) w i j (m, a, b) p u v =
      ⊎_elim (λ x. match_alive κ r w i m a p u x) (λ x. match_alive κ s w m j b p x v) (side p m)
  match_alive κ (fuse r s) w i j (m, x, y, a, b) p u v =
      ⊎_elim (λ x. match_alive κ r w i (suc m) a p u (omega arith)) (λ x. match_alive κ s w m j b p x v) (side p m)
  match_alive κ (alt r s) w i j (inl h) p u v = match_alive κ r w i j h p u v
  match_alive κ (alt r s) w i j (inr h) p u v = match_alive κ s w i j h p u v
  match_alive κ (empty r) w i j h p u v = absurd (omega arith)
  match_alive κ (plus r) w i j h p u v = let (a, b, x, y, m) = plus_at h p u v in match_alive κ r w a b m p x y
  match_alive κ (clocked c r) w i j h p u v = match_alive (on c) r w i j h p u v
