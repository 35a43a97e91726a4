-- The derived operators of document 02, request 4, each by its definition in source 000, F.2.3, whose words stand above it. Their meaning is that of
-- these trees, and nothing else is defined. Assumes nothing.
use Rattle.std.specs.Prelude.{true, false, cond, ℕ, zero, suc, ltb}
use Rattle.meaning.specs.Syntax.{Bexp, const, nott, Seq, one, cat, fuse, alt, empty, plus, Prop, weak, neg, both, implies, next, until}

module _ {A : Type 0} where
  -- ---- consecutive repetition

  -- let m > 0: R[*m] ≡ (R[*m-1] ##1 R)
  unfoldable pub times : Seq A → ℕ → Seq A
  times r zero = empty r
  times r (suc m) = cat (times r m) r

  -- R[*m:m] ≡ R[*m]; let m < n: R[*m:n] ≡ (R[*m:n-1] or R[*n])
  unfoldable pub range : Seq A → ℕ → ℕ → Seq A
  range r m zero = times r m
  range r m (suc n) = cond (ltb m (suc n)) (alt (range r m n) (times r (suc n))) (times r m)

  -- R[*0:$] ≡ (R[*0] or R[*1:$])
  abbrev pub any : Seq A → Seq A
  any r = alt (empty r) (plus r)

  -- ---- delay and concatenation

  -- let m > 0: (R ##[m:n] S) ≡ (R ##1 1[*m-1:n-1] ##1 S); here with m - 1 and n - 1
  abbrev pub later : Seq A → Seq A → ℕ → ℕ → Seq A
  later r s m n = cat (cat r (range (one (const true)) m n)) s

  -- (R ##[0:0] S) ≡ (R ##0 S); let n > 0: (R ##[0:n] S) ≡ ((R ##0 S) or (R ##[1:n] S)). No table has m > n
  unfoldable pub delay : Seq A → Seq A → ℕ → ℕ → Seq A
  delay r s m zero = fuse r s
  delay r s zero (suc n) = alt (fuse r s) (later r s zero n)
  delay r s (suc m) (suc n) = later r s m n

  -- ---- nonconsecutive repetition

  -- b[->m] ≡ (!b[*0:$] ##1 b)[*m]
  abbrev pub goto : Bexp A → ℕ → Seq A
  goto b m = times (cat (any (one (nott b))) (one b)) m

  -- b[=m] ≡ (b[->m] ##1 !b[*0:$])
  abbrev pub nonconsecutive : Bexp A → ℕ → Seq A
  nonconsecutive b m = cat (goto b m) (any (one (nott b)))

  -- ---- properties

  -- (R |=> P) ≡ ((R ##1 1) |-> P)
  abbrev pub implies_next : Seq A → Prop A → Prop A
  implies_next r P = implies (cat r (one (const true))) P

  -- (R #-# P) ≡ (not (R |-> not P))
  abbrev pub followed : Seq A → Prop A → Prop A
  followed r P = neg (implies r (neg P))

  -- (R #=# P) ≡ (not (R |=> not P))
  abbrev pub followed_next : Seq A → Prop A → Prop A
  followed_next r P = neg (implies_next r (neg P))

  -- (always P) ≡ (P until 0), and a sequence in an assertion is weak: 0 is weak(0)
  abbrev pub always : Prop A → Prop A
  always P = until P (weak (one (const false)))

  -- (s_eventually P) ≡ (not (always (not P)))
  abbrev pub eventually : Prop A → Prop A
  eventually P = neg (always (neg P))

  -- (P s_until Q) ≡ ((P until Q) and s_eventually Q)
  abbrev pub strong_until : Prop A → Prop A → Prop A
  strong_until P Q = both (until P Q) (eventually Q)

  -- (s_nexttime P) ≡ (not nexttime not P)
  abbrev pub strong_next : Prop A → Prop A
  strong_next P = neg (next (neg P))
