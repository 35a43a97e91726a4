-- The ends that are reached from a set's places. Assumes nothing.
use mathlib.Core.Path.{◌≡◌, refl, ap, ap₂, ◌∙◌}
use mathlib.Core.Bool.{Bool, true, false, ◌&&◌}
use mathlib.Core.List.{List}
use Prim.Native.Nat.{ℕ, suc, ◌≤◌}
use native.Mathlib.Omega.{arith}
use lib.ListN.{get_or}
use Rattle.telling.specs.Tells.{Tells, some}
use Rattle.telling.proofs.Telling.{is_and, is_map, is_some, some_same}
use Rattle.positions.specs.Member.{has, Is}
use Rattle.cells.specs.Bits.{reached}

-- what `reached` tells: some place up to n is in the set and has the end
pub is_reached : {s : ℕ → Bool} {P Q : ℕ → Type 0} (M : ℕ → ℕ → Bool) (n j : ℕ) → ((m : ℕ) → Tells (s m) (P m)) → ((m : ℕ) → Tells (M m j) (Q m))
    → Tells (reached s M n j) ((m : ℕ) × (m ≤ n) × P m × Q m)
unfolding reached
is_reached M n j hs hM =
    is_map (is_some 0 (suc n) (λ m u v. is_and (hs m) (hM m))) (λ q. (q.0, omega arith, q.3.0, q.3.1)) (λ q. (q.0, omega arith, omega arith, (q.2, q.3)))

pub reached_same : {s t : ℕ → Bool} (M N : ℕ → ℕ → Bool) (n j : ℕ) → ((m : ℕ) → m ≤ n → s m ≡ t m) → ((m : ℕ) → M m j ≡ N m j) → reached s M n j ≡ reached t N n j
unfolding reached
reached_same M N n j e f = some_same 0 (suc n) (λ m u v. ap₂ ◌&&◌ (e m (omega arith)) (f m))

pub reached_as : {s t : ℕ → Bool} (M : ℕ → ℕ → Bool) (n r : ℕ) → Is r (reached s M n) → ((m : ℕ) → s m ≡ t m) → Is r (reached t M n)
reached_as M n r h e j = h j ∙ reached_same M M n j (λ m u. e m) (λ m. refl)

-- the ends matter only from the places of the set
pub reached_where : (s : ℕ → Bool) (M N : ℕ → ℕ → Bool) (n j : ℕ) → ((m : ℕ) → m ≤ n → s m ≡ true → M m j ≡ N m j) → reached s M n j ≡ reached s N n j
unfolding reached
reached_where s M N n j f = some_same 0 (suc n) (λ m u v. guarded (s m) (f m (omega arith)))
  where
    guarded : (a : Bool) {b d : Bool} → (a ≡ true → b ≡ d) → (a && b) ≡ (a && d)
    guarded true h = h refl
    guarded false h = refl

-- the ends by their words, one for each place up to n
pub reached_by : (s : ℕ → Bool) (words : List ℕ) (M : ℕ → ℕ → Bool) (n r : ℕ) → Is r (reached s (λ m j. has (get_or words m 0) j) n)
    → ((m : ℕ) → m ≤ n → Is (get_or words m 0) (M m)) → Is r (reached s M n)
reached_by s words M n r h e j = h j ∙ reached_where s (λ m j. has (get_or words m 0) j) M n j (λ m u t. e m u j)

-- whether two sets have a place in common, the one told by its places, the other by its word
pub meets_as : (t : Bool) (x y z : ℕ) (f : ℕ → Bool) → t ≡ some (λ k. has x k && has y k) 0 64 → Is x f → y ≡ z → t ≡ some (λ k. f k && has z k) 0 64
meets_as t x y z f e h w = e ∙ some_same 0 64 (λ k u v. ap₂ ◌&&◌ (h k) (ap (λ v. has v k) w))
