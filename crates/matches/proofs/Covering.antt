-- The ends that are reached from a set's places, while the places are taken out one after the other. Along words that chain the walk may stop once all
-- places that are left are reached. Assumes nothing.
use mathlib.Core.Path.{◌≡◌, sym, ap, ◌∙◌, subst}
use mathlib.Core.Bool.{Bool, true, false, not, ◌||◌, ◌&&◌}
use mathlib.Core.Logic.{◌⊎◌, inl, inr, ⊎_elim}
use Prim.Native.Nat.{ℕ, ◌+◌, ◌≤◌, ◌<◌}
use native.Mathlib.Nat.{eq-or-lt_of_le, le_of_suc-le-suc}
use native.Mathlib.Numerals.{add-one}
use native.Mathlib.Omega.{arith}
use lib.Dec.{T, eqb, leb}
use Rattle.telling.specs.Tells.{Tells, some}
use Rattle.telling.proofs.Telling.{passes, passed, fails, is_test, is_and, is_or, is_not, is_eq, is_le, is_map, is_as, is_some, decide, side, same_test}
use Rattle.positions.specs.Member.{has, Is, Lowest}
use Rattle.positions.proofs.Laws.{has_none}
use Rattle.positions.proofs.Lowest.{lowest_in}
use Rattle.cells.specs.Bits.{reached}
use Rattle.matches.specs.Shapes.{Chains}
use Rattle.matches.proofs.Walking.{is_reached}

-- ---- whether the one set lies within the other

tells_within : (x y : ℕ) → Tells (not (some (λ k. has x k && not (has y k)) 0 64)) (¬ ((k : ℕ) × (0 ≤ k) × (k < 0 + 64) × T (has x k) × ¬ T (has y k)))
tells_within x y =
    is_not (is_map (is_some 0 64 (λ k u v. is_and (is_test (has x k)) (is_not (is_test (has y k))))) (λ q. (q.0, q.1, q.2, q.3.0, q.3.1)) (λ q. (q.0, q.1, q.2, (q.3, q.4))))

-- a set that does not is not empty
pub some_left : (x y : ℕ) (r : Bool) → r ≡ not (some (λ k. has x k && not (has y k)) 0 64) → r ≡ false → x ≡ 0 → ⊥
some_left x y r e f z =
    subst T (sym e ∙ f) ((tells_within x y).from (λ q. subst T (ap (λ v. has v q.0) z ∙ has_none q.0) q.3))

-- a set of places up to n that does
within_all : (x y n : ℕ) (r : Bool) → n ≤ 63 → ((k : ℕ) → n < k → has x k ≡ false) → r ≡ not (some (λ k. has x k && not (has y k)) 0 64) → r ≡ true
    → (k : ℕ) → T (has x k) → T (has y k)
within_all x y n r short inside e f k t =
    ⊎_elim (λ u. u) (λ d. absurd (⊎_elim (λ (h : n < k). subst T (inside k h) t) (λ (h : k ≤ n). (tells_within x y).to (passed (sym e ∙ f)) (k, omega arith, omega arith, t, d)) (side n k))) (decide (is_test (has y k)))

-- ---- the walk

-- out has the ends from the places of s, up to n, that are taken out of left, and those lie below what is left
pub record Going (s : ℕ → Bool) (W : ℕ → ℕ → Bool) (n out left : ℕ) : Type 0 where
  pub inside : (k : ℕ) → n < k → has left k ≡ false
  pub sub : (k : ℕ) → T (has left k) → T (s k)
  pub from : (j : ℕ) → T (has out j) → (p : ℕ) × (p ≤ n) × T (s p) × T (W p j) × ((k : ℕ) → T (has left k) → p < k)
  pub all : (p j : ℕ) → p ≤ n → T (s p) → T (W p j) → T (has left p) ⊎ T (has out j)

-- one turn: the lowest place l of what is left is taken out, and its ends are joined
module _ (s : ℕ → Bool) (W : ℕ → ℕ → Bool) (n out left l : ℕ) (short : n ≤ 63) (not_None : left ≡ 0 → ⊥) (low : Lowest 64 left l) (g : Going s W n out left) where
  pub going_at : (l ≤ n) × (has left l ≡ true)
  going_at = lowest_in 64 n left l (omega arith) g.inside not_None low

  pub going_turn : (ends out' left' : ℕ) → Is ends (W l) → Is out' (λ k. has out k || has ends k) → Is left' (λ k. has left k && not (eqb k l)) → Going s W n out' left'
  going_turn ends out' left' its joined taken =
      record {
        inside = λ k h. taken k ∙ ap (λ b. b && not (eqb k l)) (g.inside k h);
        sub = λ k t. g.sub k ((lefts k).to t).0;
        from = λ j t. ⊎_elim (λ o. let q = g.from j o in (q.0, q.1, q.2, q.3, λ k u. q.4 k ((lefts k).to u).0)) (λ w. (l, going_at.0, g.sub l (passed going_at.1), w, above)) ((outs j).to t);
        all = λ p j h sp w. ⊎_elim (λ u. ⊎_elim (λ e. inr ((outs j).from (inr (subst (λ m. T (W m j)) e w)))) (λ d. inl ((lefts p).from (u, d))) (decide (is_eq p l))) (λ o. inr ((outs j).from (inl o))) (g.all p j h sp w);
      }
    where
      outs : (j : ℕ) → Tells (has out' j) (T (has out j) ⊎ T (W l j))
      outs j = is_as (joined j) (is_or (is_test (has out j)) (is_as (its j) (is_test (W l j))))

      lefts : (k : ℕ) → Tells (has left' k) (T (has left k) × ¬ (k ≡ l))
      lefts k = is_as (taken k) (is_and (is_test (has left k)) (is_not (is_eq k l)))

      above : (k : ℕ) → T (has left' k) → l < k
      above k t =
          let q = (lefts k).to t in
          ⊎_elim (λ (h : k < l). absurd (subst T (low.below k h) q.0)) (λ (h : l ≤ k). omega (arith, q.1)) (side k l)

-- the walk may stop where what a place that is left has is reached already
module _ (W : ℕ → ℕ → Bool) (n s cut out left : ℕ) (cuts : Is cut (λ k. has s k && leb k n)) (g : Going (has cut) W n out left) where
  taken : (k : ℕ) → Tells (has cut k) (T (has s k) × (k ≤ n))
  taken k = is_as (cuts k) (is_and (is_test (has s k)) (is_le k n))

  going_stop : ((p j : ℕ) → p ≤ n → T (has s p) → T (W p j) → T (has left p) → T (has out j)) → Is out (reached (has s) W n)
  going_stop along j =
      same_test
      (is_map (is_test (has out j)) (λ t. let q = g.from j t in (q.0, q.1, ((taken q.0).to q.2).0, q.3)) (λ q. ⊎_elim (λ t. along q.0 j q.1 q.2 q.3 t) (λ o. o) (g.all q.0 j q.1 ((taken q.0).from (q.2, q.1)) q.3)))
      (is_reached W n j (λ m. is_test (has s m)) (λ m. is_test (W m j)))

  -- all that are left are covered: reached already, by words that chain
  pub going_end : (covered : ℕ) (chain r : Bool) → n ≤ 63 → (chain ≡ true → Chains (has s) W n) → Is covered (λ k. has out k && chain)
      → r ≡ not (some (λ k. has left k && not (has covered k)) 0 64) → r ≡ true → Is out (reached (has s) W n)
  going_end covered chain r short chains cover e f = going_stop along
    where
      along : (p j : ℕ) → p ≤ n → T (has s p) → T (W p j) → T (has left p) → T (has out j)
      along p j l sp w t =
          let c = (is_as (cover p) (is_and (is_test (has out p)) (is_test chain))).to (within_all left covered n r short g.inside e f p t) in
          let q = g.from p c.0 in
          ⊎_elim
          (λ u. let z = q.4 q.0 u in absurd (omega arith))
          (λ o. o)
          (g.all q.0 j q.1 q.2 ((chains (passes c.1)).on q.0 p j q.1 l ((taken q.0).to q.2).0 sp q.3 w))

-- ---- whether the words of a row lead back

-- back has what the words below i have below their starts
abbrev pub Behind : (ℕ → ℕ → Bool) → ℕ → ℕ → Type 0
Behind f i back = (j : ℕ) → Tells (has back j) ((m : ℕ) × (m < i) × (j < m) × T (f m j))

-- word i is looked at: w, of which x has the places below i
behind_more : (f : ℕ → ℕ → Bool) (i back w above x back' : ℕ) → Behind f i back → Is w (f i) → Is above (λ k. has w k && leb i k)
    → Is x (λ k. has w k && not (has above k)) → Is back' (λ k. has back k || has x k) → Behind f (i + 1) back'
behind_more f i back w above x back' inv ew el ex eb j =
    is_map
    (is_as (eb j) (is_or (inv j) (is_as (ex j) (is_and its (is_not (is_as (el j) (is_and its (is_le i j))))))))
    (⊎_elim (λ q. (q.0, omega arith, q.2, q.3)) (λ q. (i, omega arith, below q.0 q.1, q.0)))
    (λ q. ⊎_elim (λ e. inr (subst (λ m. T (f m j)) e q.3, λ z. omega arith)) (λ (u : q.0 < i). inl (q.0, u, q.2, q.3)) (eq-or-lt_of_le (le_of_suc-le-suc (rw add-one at q.1))))
  where
    its : Tells (has w j) (T (f i j))
    its = is_as (ew j) (is_test (f i j))

    below : T (f i j) → ¬ (T (f i j) × (i ≤ j)) → j < i
    below t d = ⊎_elim (λ h. h) (λ h. absurd (d (t, h))) (side j i)

-- the last turn of `0..=n`
pub behind_last : (f : ℕ → ℕ → Bool) (i n back w above x back' : ℕ) → i ≡ n → Behind f i back → Is w (f i) → Is above (λ k. has w k && leb i k)
    → Is x (λ k. has w k && not (has above k)) → Is back' (λ k. has back k || has x k) → Behind f (n + 1) back'
behind_last f i n back w above x back' q inv ew el ex eb = subst (λ m. Behind f (m + 1) back') q (behind_more f i back w above x back' inv ew el ex eb)

-- all words up to n are looked at
pub behind_all : (f : ℕ → ℕ → Bool) (n back : ℕ) (r : Bool) → n ≤ 63 → Behind f (n + 1) back → r ≡ not (some (has back) 0 64)
    → Tells r ((m j : ℕ) → m ≤ n → j < m → f m j ≡ false)
behind_all f n back r short inv e =
    is_map
    (is_as e (is_not (is_some 0 64 (λ k u v. inv k))))
    (λ q m j u v. fails (is_test (f m j)) (λ t. q (j, omega arith, omega arith, (m, omega arith, v, t))))
    (λ h q. let m = q.3.0 in subst T (h m q.0 (omega (arith, q.3.1)) q.3.2) q.3.3)
