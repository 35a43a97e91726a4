-- What the derived sequences match of letters ⊤ alone, by what their operands match. Assumes nothing.
use native.Mathlib.Omega.{arith}
use native.Mathlib.Numerals.{sub-one}
use borrow.Author.Tests.{ne_eqb, lt-ltb, le-ltb}
use mathlib.Core.Path.{◌≡◌, refl, ◌∙◌, sym, ap}
use mathlib.Core.Logic.{⊎_elim}
use mathlib.Core.Bool.{Bool, true, false, not, ◌&&◌, ◌||◌, or-false}
use Prim.Native.Nat.{ℕ, zero, suc, ◌<◌, ◌≤◌}
use lib.Dec.{eqb}
use Rattle.telling.specs.Tells.{some, every}
use Rattle.telling.proofs.Telling.{side}
use Rattle.meaning.specs.Syntax.{Bexp, const, nott, Seq, one, cat, fuse, alt, empty, Clock, free, on}
use Rattle.meaning.specs.Words.{top}
use Rattle.meaning.specs.Pairs.{Atom, reading}
use Rattle.meaning.proofs.Eval.{match_b, plus_b, top_b}
use Rattle.derived.specs.Derived.{times, range, any, later, delay, goto, nonconsecutive}
use Rattle.hollows.specs.declared.Tops.{Tops}
use Rattle.hollows.specs.Flags.{flags, then_tops, fused_tops, either_tops, range_tops, later_tops, delay_tops}

-- whether no letter matches, and whether some k letters ⊤ do, k at least 1
abbrev pub Tested : Clock Atom → Seq Atom → Tops
Tested κ r = flags (match_b reading κ r (λ p. top) 0 0) (top_b reading κ r (λ p. top) 0 0)

pub then_same : (a b : Tops) → then_tops a b ≡ flags ((a.empty && b.empty) || false) (((a.empty && b.some) || false) || (a.some && (b.empty || b.some)))
then_same a b = rw (or-false (a.empty && b.empty), or-false (a.empty && b.some))

-- ---- of pairs of flags

then_none : (x : Tops) → then_tops (flags true false) x ≡ x
then_none x = λ i. flags x.empty (or-false x.some i)

then_self : (x : Tops) → then_tops x x ≡ x
then_self x = go x.empty x.some
  where
    go : (e m : Bool) → flags (e && e) ((e && m) || (m && (e || m))) ≡ flags e m
    go true true = refl
    go true false = refl
    go false true = refl
    go false false = refl

either_self : (x : Tops) → either_tops x x ≡ x
either_self x = go x.empty x.some
  where
    go : (e m : Bool) → flags (e || e) (m || m) ≡ flags e m
    go true true = refl
    go true false = refl
    go false true = refl
    go false false = refl

either_none : (b : Bool) (x : Tops) → either_tops (flags true (b && x.some)) x ≡ flags true x.some
either_none b x = go b x.some
  where
    go : (b m : Bool) → flags true ((b && m) || m) ≡ flags true m
    go true true = refl
    go true false = refl
    go false m = refl

-- ---- of sequences

module _ (κ : Clock Atom) where
  tested_cat : (r s : Seq Atom) → Tested κ (cat r s) ≡ then_tops (Tested κ r) (Tested κ s)
  unfolding match_b top_b some
  tested_cat r s = sym (then_same (Tested κ r) (Tested κ s))

  tested_fuse : (r s : Seq Atom) → Tested κ (fuse r s) ≡ fused_tops (Tested κ r) (Tested κ s)
  unfolding match_b top_b some
  tested_fuse r s = refl

  tested_alt : (r s : Seq Atom) → Tested κ (alt r s) ≡ either_tops (Tested κ r) (Tested κ s)
  unfolding match_b top_b
  tested_alt r s = refl

  tested_empty : (r : Seq Atom) → Tested κ (empty r) ≡ flags true false
  unfolding match_b top_b
  tested_empty r = refl

  tested_times : (r : Seq Atom) (m : ℕ) → Tested κ (times r (suc m)) ≡ Tested κ r
  unfolding times
  tested_times r zero = tested_cat (empty r) r ∙ ap (λ (t : Tops). then_tops t (Tested κ r)) (tested_empty r) ∙ then_none (Tested κ r)
  tested_times r (suc m) = tested_cat (times r (suc m)) r ∙ ap (λ (t : Tops). then_tops t (Tested κ r)) (tested_times r m) ∙ then_self (Tested κ r)

  tested_none : (r : Seq Atom) → Tested κ (times r zero) ≡ flags true false
  unfolding times
  tested_none r = tested_empty r

  -- m is 0, or not
  pub tested_range : (r : Seq Atom) (m n : ℕ) → Tested κ (range r m n) ≡ range_tops m n (Tested κ r)
  unfolding range
  tested_range r zero zero = tested_none r
  tested_range r (suc m) zero = tested_times r m ∙ rw (ne_eqb (suc m) 0 (λ e. omega arith))
  tested_range r zero (suc n) =
      rw (lt-ltb zero (suc n) (omega arith))
      (tested_alt (range r zero n) (times r (suc n))
      ∙ ap (λ (t : Tops). either_tops t (Tested κ (times r (suc n)))) (tested_range r zero n)
      ∙ ap (either_tops (range_tops zero n (Tested κ r))) (tested_times r n)
      ∙ either_none (not (eqb n 0)) (Tested κ r)
      ∙ rw (ne_eqb (suc n) 0 (λ e. omega arith)))
  tested_range r (suc m) (suc n) =
      ⊎_elim
      (λ (l : suc m < suc n).
      rw (lt-ltb (suc m) (suc n) l)
      (tested_alt (range r (suc m) n) (times r (suc n))
      ∙ ap (λ (t : Tops). either_tops t (Tested κ (times r (suc n)))) (tested_range r (suc m) n)
      ∙ ap (either_tops (range_tops (suc m) n (Tested κ r))) (tested_times r n)
      ∙ rw (ne_eqb (suc m) 0 (λ e. omega arith)) (either_self (Tested κ r))))
      (λ (l : suc n ≤ suc m). rw (le-ltb (suc m) (suc n) l) (tested_times r m ∙ rw (ne_eqb (suc m) 0 (λ e. omega arith))))
      (side (suc m) (suc n))

pub tested_one : (κ : Clock Atom) (b : Bexp Atom) → Tested κ (one b) ≡ flags false true
unfolding match_b top_b some every
tested_one free b = refl
tested_one (on c) b = refl

module _ (κ : Clock Atom) where
  tested_any : (b : Bexp Atom) → Tested κ (any (one b)) ≡ flags true true
  unfolding match_b top_b plus_b some every
  tested_any b = go κ
    where
      go : (κ : Clock Atom) → Tested κ (any (one b)) ≡ flags true true
      go free = refl
      go (on c) = refl

  tested_later : (r s : Seq Atom) (m n : ℕ) → Tested κ (later r s m n) ≡ later_tops m n (Tested κ r) (Tested κ s)
  tested_later r s m n =
      let t = one (const true) in
      tested_cat κ (cat r (range t m n)) s
      ∙ ap (λ (u : Tops). then_tops u (Tested κ s))
      (tested_cat κ r (range t m n) ∙ ap (then_tops (Tested κ r)) (tested_range κ t m n ∙ ap (range_tops m n) (tested_one κ (const true))))

  pub tested_delay : (r s : Seq Atom) (m n : ℕ) → Tested κ (delay r s m n) ≡ delay_tops m n (Tested κ r) (Tested κ s)
  unfolding delay delay_tops
  tested_delay r s zero zero = tested_fuse κ r s
  tested_delay r s (suc m) zero = tested_fuse κ r s
  tested_delay r s zero (suc n) =
      tested_alt κ (fuse r s) (later r s zero n)
      ∙ ap (λ (u : Tops). either_tops u (Tested κ (later r s zero n))) (tested_fuse κ r s)
      ∙ ap (either_tops (fused_tops (Tested κ r) (Tested κ s))) (tested_later r s zero n)
      ∙ rw (ne_eqb (suc n) 0 (λ e. omega arith), sub-one (suc n))
  tested_delay r s (suc m) (suc n) =
      tested_later r s m n ∙ rw (ne_eqb (suc n) 0 (λ e. omega arith), ne_eqb (suc m) 0 (λ e. omega arith), sub-one (suc n), sub-one (suc m))

  group : (b : Bexp Atom) → Tested κ (cat (any (one (nott b))) (one b)) ≡ flags false true
  group b =
      tested_cat κ (any (one (nott b))) (one b)
      ∙ ap (λ (u : Tops). then_tops u (Tested κ (one b))) (tested_any (nott b)) ∙ ap (then_tops (flags true true)) (tested_one κ b)

  pub tested_goto : (b : Bexp Atom) (m : ℕ) → Tested κ (goto b m) ≡ flags (eqb m 0) (not (eqb m 0))
  tested_goto b zero = tested_none κ (cat (any (one (nott b))) (one b))
  tested_goto b (suc m) = tested_times κ (cat (any (one (nott b))) (one b)) m ∙ group b ∙ rw (ne_eqb (suc m) 0 (λ e. omega arith))

  pub tested_nonconsecutive : (b : Bexp Atom) (m : ℕ) → Tested κ (nonconsecutive b m) ≡ flags (eqb m 0) true
  tested_nonconsecutive b m =
      tested_cat κ (goto b m) (any (one (nott b)))
      ∙ ap (λ (u : Tops). then_tops u (Tested κ (any (one (nott b))))) (tested_goto b m)
      ∙ ap (then_tops (flags (eqb m 0) (not (eqb m 0)))) (tested_any (nott b)) ∙ go (eqb m 0)
    where
      go : (e : Bool) → flags (e && true) ((e && true) || (not e && (true || true))) ≡ flags e true
      go true = refl
      go false = refl

  -- and with one letter more
  pub tested_next : (t : Bexp Atom) (r : Seq Atom) → (Tested κ (cat r (one t))).some ≡ ((Tested κ r).empty || (Tested κ r).some)
  tested_next t r =
      ap (λ (u : Tops). u.some) (tested_cat κ r (one t) ∙ ap (then_tops (Tested κ r)) (tested_one κ t)) ∙ go (Tested κ r).empty (Tested κ r).some
    where
      go : (e m : Bool) → ((e && true) || (m && (false || true))) ≡ (e || m)
      go true m = refl
      go false true = refl
      go false false = refl
