-- A run of P that leads up to Q, by doubling the distance that is looked at. Assumes nothing.
use mathlib.Core.Path.{◌≡◌, refl, sym, ap, ap₂, ◌∙◌}
use mathlib.Core.Logic.{◌⊎◌, inl, inr, ⊎_elim}
use mathlib.Core.Bool.{Bool, ◌||◌, ◌&&◌, or-false, and-true}
use Prim.Native.Nat.{ℕ, suc, ◌+◌, ◌-◌, ◌*◌, ◌%◌, ◌^◌, ◌≤◌, ◌<◌}
use native.Mathlib.Nat.{mod-eq_of_lt, one-mul}
use native.Mathlib.Numerals.{add-one}
use native.Mathlib.Omega.{arith}
use lib.Dec.{T}
use lib.Pow.{pow-lt}
use Rattle.telling.specs.Tells.{Tells, some, every}
use Rattle.telling.proofs.Telling.{is_map, is_test, is_and, is_or, is_some, is_every, same_test, side}
use Rattle.positions.specs.Member.{has, Is}
use Rattle.runs.specs.declared.Led.{Led}
use Rattle.runs.specs.Runs.{leads_up, led, Further}

-- some place of Q at a distance below d from i, with P from i up to it; and P at all those places
unfoldable pub reach : (ℕ → Bool) → (ℕ → Bool) → ℕ → ℕ → Bool
reach P Q d i = some (λ j. Q j && every P i (j - i)) i d

pub reach_is : (P Q : ℕ → Bool) (i : ℕ) → reach P Q 64 i ≡ leads_up P Q i
unfolding reach leads_up
reach_is P Q i = refl

abbrev pub run : (ℕ → Bool) → ℕ → ℕ → Bool
run P d i = every P i d

-- what the two tests tell
abbrev Run : (ℕ → Bool) → ℕ → ℕ → Type 0
Run P d i = (k : ℕ) → i ≤ k → k < i + d → T (P k)

abbrev Reach : (ℕ → Bool) → (ℕ → Bool) → ℕ → ℕ → Type 0
Reach P Q d i = (j : ℕ) × (i ≤ j) × (j < i + d) × (T (Q j) × Run P (j - i) i)

run_tells : (P : ℕ → Bool) (d i : ℕ) → Tells (run P d i) (Run P d i)
run_tells P d i = is_every i d (λ k u v. is_test (P k))

reach_tells : (P Q : ℕ → Bool) (d i : ℕ) → Tells (reach P Q d i) (Reach P Q d i)
unfolding reach
reach_tells P Q d i = is_some i d (λ j u v. is_and (is_test (Q j)) (run_tells P (j - i) i))

-- ---- the distance 1, and the sum of two distances

pub run_one : (P : ℕ → Bool) (i : ℕ) → run P 1 i ≡ P i
unfolding every
run_one P i = and-true (P i)

pub reach_one : (P Q : ℕ → Bool) (i : ℕ) → reach P Q 1 i ≡ Q i
unfolding reach some every
reach_one P Q i =
    let e : i - i ≡ 0 = omega arith in
    or-false (Q i && every P i (i - i)) ∙ ap (λ d. Q i && every P i d) e ∙ and-true (Q i)

run_more : (P : ℕ → Bool) (d e i : ℕ) → run P (d + e) i ≡ (run P d i && run P e (d + i))
run_more P d e i =
    same_test (run_tells P (d + e) i)
    (is_map (is_and (run_tells P d i) (run_tells P e (d + i)))
    (λ (q : Run P d i × Run P e (d + i)) k u v. ⊎_elim (λ (h : k < d + i). q.0 k u (omega arith)) (λ (h : d + i ≤ k). q.1 k h (omega arith)) (side k (d + i)))
    (λ (q : Run P (d + e) i). (λ k u v. q k u (omega arith), λ k u v. q k (omega arith) (omega arith))))

pub reach_more : (P Q : ℕ → Bool) (d e i : ℕ) → reach P Q (d + e) i ≡ (reach P Q d i || (run P d i && reach P Q e (d + i)))
reach_more P Q d e i =
    same_test (reach_tells P Q (d + e) i)
    (is_map (is_or (reach_tells P Q d i) (is_and (run_tells P d i) (reach_tells P Q e (d + i)))) there back)
  where
    there : Reach P Q d i ⊎ (Run P d i × Reach P Q e (d + i)) → Reach P Q (d + e) i
    there (inl (j, u, v, (t, r))) = (j, u, omega arith, (t, r))
    there (inr (s, (j, u, v, (t, r)))) =
        (j, omega arith, omega arith, (t, λ k a b. ⊎_elim (λ (h : k < d + i). s k a (omega arith)) (λ (h : d + i ≤ k). r k h (omega arith)) (side k (d + i))))

    back : Reach P Q (d + e) i → Reach P Q d i ⊎ (Run P d i × Reach P Q e (d + i))
    back (j, u, v, (t, r)) =
        ⊎_elim
        (λ (h : j < d + i). inl (j, u, omega arith, (t, r)))
        (λ (h : d + i ≤ j). inr (λ k a b. r k a (omega arith), (j, h, omega arith, (t, λ k a b. r k (omega arith) (omega arith)))))
        (side j (d + i))

-- ---- the code's sets

-- x has the runs of length d, and the places from which a shorter one leads up
pub record LedBy (l : Led) (d : ℕ) (x : Led) : Type 0 where
  pub runs : Is x.runs.bits (run (has l.runs.bits) d)
  pub out : Is x.out.bits (reach (has l.runs.bits) (has l.out.bits) d)

pub led_one : (l : Led) → LedBy l 1 l
led_one l = record { runs = λ k. sym (run_one _ k); out = λ k. sym (reach_one _ _ k) }

pub led_turn : (l : Led) (d : ℕ) (x y : Led) → LedBy l d x → Further x d y → LedBy l (d + d) y
led_turn l d x y h f = record {
  runs = λ k. f.runs k ∙ ap₂ ◌&&◌ (h.runs k) (h.runs (d + k)) ∙ sym (run_more _ d d k);
  out = λ k. f.out k ∙ ap₂ ◌||◌ (h.out k) (ap₂ ◌&&◌ (h.runs k) (h.out (d + k))) ∙ sym (reach_more _ _ d d k);
}

-- ---- by the number of turns, each of which shifts 1 by one place more

shifted : (i : ℕ) → i < 6 → (1 * 2 ^ i) % 2 ^ 64 ≡ 2 ^ i
shifted i t =
    let small : i < 64 = omega arith in
    rw (one-mul, mod-eq_of_lt (pow-lt small))

pub shifted_most : (i : ℕ) → i < 6 → (1 * 2 ^ i) % 2 ^ 64 ≤ 63
shifted_most i t = omega (arith, shifted i t, pow-lt t)

pub led_next : (l : Led) (i : ℕ) (x y : Led) → i < 6 → LedBy l (2 ^ i) x → Further x ((1 * 2 ^ i) % 2 ^ 64) y → LedBy l (2 ^ (i + 1)) y
led_next l i x y t h f =
    let next : 2 ^ i + 2 ^ i ≡ 2 ^ suc i = omega arith in
    rw (add-one, ← next) (led_turn l (2 ^ i) x y h (rw (shifted i t) at f))

pub led_out : (l : Led) (i : ℕ) (x : Led) → i ≡ 6 → LedBy l (2 ^ i) x → Is x.out.bits (led l)
led_out l i x e h k = (rw e at h).out k ∙ reach_is _ _ k
