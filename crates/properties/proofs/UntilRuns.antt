-- P until Q as a run of P that leads up to Q. Assumes nothing.
use mathlib.Core.Path.{◌≡◌, refl, sym, ap, ◌∙◌}
use mathlib.Core.Bool.{Bool, true, false, ◌||◌, ◌&&◌, or-false, and-true, and-false}
use Prim.Native.Nat.{ℕ, zero, suc, ◌+◌, ◌-◌, ◌≤◌, ◌<◌}
use native.Mathlib.Omega.{arith}
use lib.Dec.{eqb, leb, ltb}
use borrow.Author.Tests.{lt-ltb, le-ltb, eq-eqb, ne_eqb, leb-true, leb-false}
use Rattle.positions.specs.Member.{has, Is}
use Rattle.cells.specs.Bits.{until_from, until_bit}
use Rattle.runs.specs.declared.Led.{Led}
use Rattle.runs.specs.Runs.{led}
use Rattle.runs.proofs.Leading.{reach, reach_is, reach_one, run_one, reach_more}
use Rattle.properties.specs.Shapes.{Begins}

-- ---- P until Q: a run of P below n, up to a place of Q below n or up to n

-- at i itself, or one place on
reach_now : (P Q : ℕ → Bool) (d i : ℕ) → reach P Q (suc d) i ≡ (Q i || (P i && reach P Q d (suc i)))
reach_now P Q d i =
    let e : suc d ≡ 1 + d = omega arith in
    let f : 1 + i ≡ suc i = omega arith in
    ap (λ m. reach P Q m i) e ∙ reach_more P Q 1 d i ∙ rw (reach_one P Q i, run_one P i, f)

module _ (P Q P' Q' : ℕ → Bool) (last : Bool) (n : ℕ) (eP : (k : ℕ) → P' k ≡ (P k && ltb k n)) (eQ : (k : ℕ) → Q' k ≡ ((Q k && ltb k n) || (last && eqb k n))) where
  -- at n - m
  until_reach : (m d i : ℕ) → i + m ≡ n → m < d → reach P' Q' d i ≡ until_from P Q last n m
  unfolding until_from
  until_reach m zero i e l = absurd (omega arith)
  until_reach zero (suc d) i e l =
      reach_now P' Q' d i ∙ rw (eQ i, eP i, le-ltb i n (omega arith), eq-eqb i n (omega arith), and-false (Q i), and-false (P i), and-true last, or-false last)
  until_reach (suc m) (suc d) i e l =
      let at : n - suc m ≡ i = omega arith in
      reach_now P' Q' d i
      ∙ rw (eQ i, eP i, lt-ltb i n (omega arith), ne_eqb i n (λ (z : i ≡ n). omega arith), and-true (Q i), and-true (P i), and-false last, or-false (Q i), at, until_reach m d (suc i) (omega arith) (omega arith))

  until_led : (i : ℕ) → n ≤ 63 → reach P' Q' 64 i ≡ until_bit P Q last n i
  until_led i h = go (leb i n) refl
    where
      go : (t : Bool) → leb i n ≡ t → reach P' Q' 64 i ≡ (t && until_from P Q last n (n - i))
      go true e = until_reach (n - i) 64 i (omega (arith, leb-true i n e)) (omega arith)
      go false e =
          let g = leb-false i n e in
          reach_now P' Q' 63 i ∙ rw (eQ i, eP i, le-ltb i n (omega arith), ne_eqb i n (λ (z : i ≡ n). omega arith), and-false (Q i), and-false (P i), and-false last)

-- the set from which the runs lead up is P until Q
pub until_made : (p q r : ℕ) (last : Bool) (n : ℕ) (l : Led) → n ≤ 63 → Begins p q last n l → Is r (led l) → Is r (until_bit (has p) (has q) last n)
until_made p q r last n l h b e i =
    e i ∙ sym (reach_is (has l.runs.bits) (has l.out.bits) i) ∙ until_led (has p) (has q) (has l.runs.bits) (has l.out.bits) last n b.runs b.out i h
