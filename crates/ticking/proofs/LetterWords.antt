-- The words of a letter, from what the calls of the code give. Assumes nothing.
use mathlib.Core.Path.{◌≡◌, refl, subst, sym, ap, ◌∙◌}
use mathlib.Core.Bool.{Bool, true, false, not, ◌||◌, ◌&&◌}
use mathlib.Core.List.{List}
use mathlib.Core.Logic.{⊎_elim}
use Prim.Native.Nat.{ℕ, ◌+◌, ◌-◌, ◌^◌, ◌≤◌, ◌<◌}
use native.Mathlib.Omega.{arith}
use native.Mathlib.Nat.{eq-or-lt_of_le}
use lib.Dec.{T, T_not, eqb, leb, ltb}
use lib.ListN.{length, get_or, set, length-set, replicate}
use lib.Seq.{get_or-set_same, get_or-set_other}
use borrow.Author.Tests.{le-leb, lt-leb, ne_eqb}
use Rattle.telling.specs.Tells.{Tells, some}
use Rattle.telling.proofs.Telling.{is_map, is_as, is_and, is_eq, is_le, is_test, same_test, some_same, fails, passed, side}
use Rattle.telling.proofs.Filled.{filled}
use Rattle.positions.specs.Member.{has, Is, Lowest}
use Rattle.positions.proofs.Laws.{collected}
use Rattle.cells.specs.Shares.{share, longest}
use Rattle.cells.specs.Stored.{set64}
use Rattle.cells.proofs.Laying.{word_is}
use Rattle.cells.proofs.Loops.{taken_none, taken_more, asked_upto}
use Rattle.ticking.specs.Ticks.{letter_bit, letter_top, letter_word}
use Rattle.ticking.proofs.FirstTicks.{First, letter_tells}

module _ (b t i f k : ℕ) (ef : Is f (λ m. has t m && leb i m)) (low : Lowest 64 f k) where
  ahead : (m : ℕ) → Tells (has f m) (T (has t m) × (i ≤ m))
  ahead m = is_as (ef m) (is_and (is_test (has t m)) (is_le i m))

  none_before : (m : ℕ) → m < k → T (has t m) → i ≤ m → ⊥
  none_before m l y u = subst T (low.below m l) ((ahead m).from (y, u))

  pub letter_found : k < 63 → (x : ℕ) → Is x (λ j. eqb j (k + 1)) → (h : Bool) → h ≡ has b k → (y : ℕ) → y < 2 ^ 64 → Is y (λ j. has x j && h)
      → y ≡ set64 (letter_bit (has b) (has t) i)
  letter_found l x ex h eh y hy ey =
      collected 64 y (letter_bit (has b) (has t) i) hy
      (λ j _. ey j ∙ ap (λ z. z && h) (ex j) ∙ rw eh (same_test (is_map (is_and (is_eq j (k + 1)) (is_test (has b k))) (there j) (back j)) (letter_tells (has b) (has t) i j)))
    where
      here : T (has t k) × (i ≤ k)
      here = (ahead k).to (passed (low.there (omega arith)))

      quiet : (m : ℕ) → i ≤ m → m < k → T (not (has t m))
      quiet m u v = not_passed (has t m) (λ y. none_before m v y u)
        where
          not_passed : (c : Bool) → (T c → ⊥) → T (not c)
          not_passed true n = n tt
          not_passed false n = tt

      there : (j : ℕ) → (j ≡ k + 1) × T (has b k) → First (has b) (has t) i j
      there j (e, z) =
          let g : k ≡ j - 1 = omega arith in
          let a = here.1 in
          (omega arith, (subst (λ m. T (has t m)) g here.0, (subst (λ m. T (has b m)) g z, λ m u v. quiet m u (omega arith))))

      back : (j : ℕ) → First (has b) (has t) i j → (j ≡ k + 1) × T (has b k)
      back j (u, (y, (z, q))) =
          let a = here.1 in
          let g : j - 1 ≡ k =
          ⊎_elim (λ (v : j - 1 < k). absurd (none_before (j - 1) v y (omega arith)))
          (λ (v : k ≤ j - 1). ⊎_elim (λ e. sym e) (λ (w : k < j - 1). absurd (T_not (has t k) (q k a w) here.0)) (eq-or-lt_of_le v)) (side (j - 1) k) in
          (omega arith, subst (λ m. T (has b m)) g z)

  pub letter_lost : 63 ≤ k → (y : ℕ) → y < 2 ^ 64 → Is y (λ j. false) → y ≡ set64 (letter_bit (has b) (has t) i)
  letter_lost l y hy ey =
      collected 64 y (letter_bit (has b) (has t) i) hy
      (λ j v. ey j ∙ sym (fails (letter_tells (has b) (has t) i j) (λ q. let u = q.0 in none_before (j - 1) (omega arith) q.1.0 (omega arith))))

-- ---- the loop over the starts

-- the words below i are there, and the others 0; tops has the starts below i with no tick from there on
pub record Lettered (b t i tops : ℕ) (out : List ℕ) : Type 0 where
  pub long : length out ≡ share
  pub word : (m : ℕ) → m < i → get_or out m 0 ≡ set64 (letter_bit (has b) (has t) m)
  pub rest : (m : ℕ) → i ≤ m → get_or out m 0 ≡ 0
  pub late : Is tops (λ j. ltb j i && not (some (λ m. has t m && leb j m) 0 64))
  pub small : tops < 2 ^ 64

pub lettered_none : (b t tops : ℕ) → tops < 2 ^ 64 → Is tops (λ j. false) → Lettered b t 0 tops (replicate 65 0)
lettered_none b t tops small e =
    record { long = refl; word = λ m l. absurd (omega arith); rest = λ m l. filled 0 65 m; late = taken_none _ tops e; small = small }

pub lettered_more : (b t i to tops : ℕ) (out : List ℕ) (v from tops' : ℕ) (empty : Bool) → Lettered b t i tops out → i < share → to ≡ i + 1
    → v ≡ set64 (letter_bit (has b) (has t) i) → Is from (λ m. has t m && leb i m) → empty ≡ not (some (has from) 0 64)
    → tops' < 2 ^ 64 → Is tops' (λ j. has tops j || (empty && eqb j i)) → Lettered b t to tops' (set out i v)
lettered_more b t i to tops out v from tops' empty h l next e ef ee small et =
    rw next (record {
      long = length-set out i v ∙ h.long;
      word = λ m u. ⊎_elim (λ (q : m ≡ i). rw (q, get_or-set_same out i v 0 (omega (arith, h.long))) e) (λ (q : m < i). get_or-set_other out i m v 0 (λ z. omega arith) ∙ h.word m q) (eq-or-lt_of_le (let g : m ≤ i = omega arith in g));
      rest = λ m u. get_or-set_other out i m v 0 (λ z. omega arith) ∙ h.rest m (omega arith);
      late = taken_more _ i tops tops' empty h.late (ee ∙ ap not (some_same 0 64 (λ k u v. ef k))) et;
      small = small;
    })

pub letter_done : (b t n : ℕ) (out : List ℕ) (v : ℕ) → n ≤ longest → Lettered b t (n + 1) v out
    → (m : ℕ) → m < share → get_or (set out 64 v) m 0 ≡ letter_word (has b) (has t) n m
letter_done b t n out v short h m l =
    ⊎_elim
    (λ (q : m < n + 1). rw (le-leb m n (omega arith)) (get_or-set_other out 64 m v 0 (λ z. omega arith) ∙ h.word m (omega arith)))
    (λ (q : n + 1 ≤ m).
    rw (lt-leb m n (omega arith))
    (⊎_elim (λ (g : m ≡ 64). rw (g, get_or-set_same out 64 v 0 (omega (arith, h.long))) (word_is v (letter_top (has t) n) h.small (asked_upto v (n + 1) n _ h.late refl)))
    (λ (g : m < 64). rw (ne_eqb m 64 (λ z. let bad : ⊥ = omega arith in bad)) (get_or-set_other out 64 m v 0 (λ z. omega arith) ∙ h.rest m (omega arith)))
    (eq-or-lt_of_le (let g : m ≤ 64 = omega arith in g))))
    (side m (n + 1))
