-- What stands where in a word: in a cut word, and in a record's words, among the samples and in the tail; and which words lie above which.
-- Assumes nothing.
use borrow.Author.Tests.{lt-ltb, le-ltb}
use mathlib.Core.Bool.{Bool, true, false, not, cond}
use mathlib.Core.Path.{◌≡◌, refl, sym, ap, ◌∙◌, fun_ext}
use mathlib.Core.Logic.{⊎_elim}
use mathlib.Core.List.{List, [], ◌∷◌, ◌++◌, append-nil}
use Prim.Native.Nat.{ℕ, zero, suc, ◌≤◌, ◌<◌, min}
use native.Mathlib.Omega.{arith}
use native.Mathlib.Nat.{le_of_suc-le-suc}
use lib.Dec.{T}
use lib.ListN.{length}
use Rattle.telling.specs.Tells.{Tells}
use Rattle.telling.proofs.Telling.{side, is_true, is_false}
use Rattle.meaning.specs.Words.{Cell, real, top, Word, inside, is_bot, bar, cut, NoBot, word, Tail, none, tops, bots, after, other}
use Rattle.meaning.proofs.Cells.{is_top}
use Rattle.meaning.proofs.Order.{Below, from_bot, to_top, same, from_real, stay, Proper}

-- from i on there is nothing but ⊤, or nothing but ⊥
abbrev pub AllTop : {S : Type 0} → Word S → ℕ → Type 0
AllTop w i = (p : ℕ) → i ≤ p → T (is_top (w p))

abbrev pub AllBot : {S : Type 0} → Word S → ℕ → Type 0
AllBot w i = (p : ℕ) → i ≤ p → T (is_bot (w p))

-- ---- a cut word

module _ {S : Type 0} where
  pub cut_in : (w : Word S) (n p : ℕ) → p < n → cut w n p ≡ w p
  cut_in w n p l = ap (λ b. cond b (w p) top) (lt-ltb p n l)

  pub cut_out : (w : Word S) (n p : ℕ) → n ≤ p → cut w n p ≡ top
  cut_out w n p l = ap (λ b. cond b (w p) top) (le-ltb p n l)

  pub cut-top : (b : Bool) (x : Cell S) → T (is_top x) → T (is_top (cond b x top))
  cut-top true x t = t
  cut-top false x t = tt

-- ---- tails

-- how many positions there are, the tail counted as one
abbrev pub span : Tail → ℕ → ℕ
span none n = n
span tops n = suc n
span bots n = suc n

abbrev pub ended : Tail → Bool
ended none = true
ended tops = false
ended bots = false

abbrev pub botted : Tail → Bool
botted none = false
botted tops = false
botted bots = true

pub span_le : (t : Tail) (n : ℕ) → span t n ≤ suc n
span_le none n = omega arith
span_le tops n = omega arith
span_le bots n = omega arith

pub is_ended : (S : Type 0) (t : Tail) → Tells (ended t) (T (not (inside {S = S} (after t))))
is_ended S none = is_true tt
is_ended S tops = is_false (λ x. x)
is_ended S bots = is_false (λ x. x)

is_unbotted : (S : Type 0) (t : Tail) → Tells (not (botted t)) (T (not (is_bot {S = S} (after t))))
is_unbotted S none = is_true tt
is_unbotted S tops = is_true tt
is_unbotted S bots = is_false (λ x. x)

-- a tail in which nothing matches
abbrev pub shut : Tail → Bool
shut none = true
shut tops = false
shut bots = true

-- ---- a record's words

module _ {S : Type 0} where
  -- inside the samples the tail does not matter, outside there is nothing else
  pub word_in : (xs : List S) (t u : Tail) (p : ℕ) → p < length xs → word xs t p ≡ word xs u p
  unfolding word
  word_in [] t u p l = absurd (omega arith)
  word_in (x ∷ xs) t u zero l = refl
  word_in (x ∷ xs) t u (suc p) l = word_in xs t u p (le_of_suc-le-suc l)

  pub word_out : (xs : List S) (t : Tail) (p : ℕ) → length xs ≤ p → word xs t p ≡ after t
  unfolding word
  word_out [] t p l = refl
  word_out (x ∷ xs) t zero l = absurd (omega arith)
  word_out (x ∷ xs) t (suc p) l = word_out xs t p (le_of_suc-le-suc l)

  -- what stands among the samples is one
  word_real : (xs : List S) (t : Tail) (p : ℕ) → p < length xs → (x : S) × (word xs t p ≡ real x)
  unfolding word
  word_real [] t p l = absurd (omega arith)
  word_real (x ∷ xs) t zero l = (x, refl)
  word_real (x ∷ xs) t (suc p) l = word_real xs t p (le_of_suc-le-suc l)

  pub word-inside : (xs : List S) (t : Tail) (p : ℕ) → p < length xs → T (inside (word xs t p))
  word-inside xs t p l = rw (word_real xs t p l).1 tt

  pub word_not_bot : (xs : List S) (t : Tail) (p : ℕ) → p < length xs → T (not (is_bot (word xs t p)))
  word_not_bot xs t p l = rw (word_real xs t p l).1 tt

  -- the samples then ⊤ for ever
  abbrev pub full : List S → Word S
  full xs = word xs tops

  pub full-top : (xs : List S) → AllTop (full xs) (length xs)
  full-top xs p l = rw (word_out xs tops p l) tt

  -- every position of the tail is as position n
  pub word_fold : (xs : List S) (t : Tail) (p : ℕ) → word xs t p ≡ word xs t (min p (length xs))
  word_fold xs t p =
      ⊎_elim (λ x. ap (word xs t) (omega arith)) (λ x. word_out xs t p x ∙ sym (word_out xs t (min p (length xs)) (omega arith))) (side p (length xs))

  pub span-inside : (xs : List S) (t : Tail) (p : ℕ) → p < span t (length xs) → T (inside (word xs t p))
  span-inside xs none p l = word-inside xs none p l
  span-inside xs tops p l = ⊎_elim (word-inside xs tops p) (λ x. rw (word_out xs tops p x) tt) (side p (length xs))
  span-inside xs bots p l = ⊎_elim (word-inside xs bots p) (λ x. rw (word_out xs bots p x) tt) (side p (length xs))

  pub inside-span : (xs : List S) (t : Tail) (p : ℕ) → T (inside (word xs t p)) → min p (length xs) < span t (length xs)
  inside-span xs none p h = ⊎_elim (λ x. omega arith) (λ x. absurd (rw (word_out xs none p x) at h)) (side p (length xs))
  inside-span xs tops p h = omega arith
  inside-span xs bots p h = omega arith

  pub no_bot : (xs : List S) (t : Tail) (i : ℕ) → T (not (botted t)) → NoBot (word xs t) i
  unfolding NoBot
  no_bot xs t i b p u = ⊎_elim (word_not_bot xs t p) (λ x. rw (word_out xs t p x) ((is_unbotted S t).to b)) (side p (length xs))

  pub is_no_bot : (xs : List S) (t : Tail) (i : ℕ) → i ≤ length xs → Tells (not (botted t)) (NoBot (word xs t) i)
  unfolding NoBot
  is_no_bot xs t i l =
      record { to = no_bot xs t i; from = λ h. (is_unbotted S t).from (rw (word_out xs t (length xs) (omega arith)) at (h (length xs) l)) }

  pub bar-word : (xs : List S) (t : Tail) → bar (word xs t) ≡ word xs (other t)
  unfolding word
  bar-word xs t = fun_ext (at xs t)
    where
      at : (xs : List S) (t : Tail) (p : ℕ) → bar (word xs t) p ≡ word xs (other t) p
      at [] none p = refl
      at [] tops p = refl
      at [] bots p = refl
      at (x ∷ xs) t zero = refl
      at (x ∷ xs) t (suc p) = at xs t p

-- ---- words above others

abbrev pub ◌⊑◌ : {S : Type 0} → Word S → Word S → Type 0
w ⊑ v = (p : ℕ) → Below (w p) (v p)

infix 40 ◌⊑◌
module _ {S : Type 0} where
  pub word_proper : (xs : List S) (t : Tail) → Proper (word xs t)
  unfolding word
  word_proper [] t p q l = stay
  word_proper (x ∷ xs) t zero q l = from_real
  word_proper (x ∷ xs) t (suc p) zero l = absurd (omega arith)
  word_proper (x ∷ xs) t (suc p) (suc q) l = word_proper xs t p q (le_of_suc-le-suc l)

  -- the samples then ⊥ for ever lie below every continuation, the samples then ⊤ for ever above
  pub bots_below : (xs ys : List S) (t : Tail) → word xs bots ⊑ word (xs ++ ys) t
  unfolding word
  bots_below [] ys t p = from_bot
  bots_below (x ∷ xs) ys t zero = same
  bots_below (x ∷ xs) ys t (suc p) = bots_below xs ys t p

  pub tops_above : (xs ys : List S) (t : Tail) → word (xs ++ ys) t ⊑ word xs tops
  unfolding word
  tops_above [] ys t p = to_top
  tops_above (x ∷ xs) ys t zero = same
  tops_above (x ∷ xs) ys t (suc p) = tops_above xs ys t p

  pub tail_below : (xs : List S) (t : Tail) → word xs bots ⊑ word xs t
  tail_below xs t = rw append-nil at (bots_below xs [] t)

  pub tail_above : (xs : List S) (t : Tail) → word xs t ⊑ word xs tops
  tail_above xs t = rw append-nil at (tops_above xs [] t)

  -- a cut word lies above, and a cut at the end of the samples or later below what has ⊤ for ever
  pub cut_above : (w : Word S) (m q : ℕ) → Below (w q) (cut w m q)
  cut_above w m q = ⊎_elim (λ x. rw (cut_in w m q x) same) (λ x. rw (cut_out w m q x) to_top) (side q m)

  pub full_above : (xs : List S) (t : Tail) (m q : ℕ) → length xs ≤ m → Below (cut (word xs t) m q) (full xs q)
  full_above xs t m q l =
      ⊎_elim (λ x. rw (cut_in (word xs t) m q (omega arith), word_in xs t tops q x) same) (λ x. rw (word_out xs tops q x) to_top) (side q (length xs))

  pub full-below : (xs : List S) (t : Tail) (m q : ℕ) → m ≤ length xs → Below (full xs q) (cut (word xs t) m q)
  full-below xs t m q l =
      ⊎_elim (λ x. rw (cut_in (word xs t) m q x, word_in xs tops t q (omega arith)) same) (λ x. rw (cut_out (word xs t) m q x) to_top) (side q m)
