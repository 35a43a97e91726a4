-- Laws of the bytes of a line, put piece by piece. Assumes nothing.
use native.Mathlib.Omega.{arith}
use borrow.Author.Tests.{lt-ltb, le-ltb, eq-eqb, ne_eqb}
use mathlib.Core.Path.{◌≡◌, refl, ◌∙◌, sym, ap, subst}
use mathlib.Core.Logic.{⊎_elim}
use mathlib.Core.Bool.{Bool, true, false, cond}
use mathlib.Core.List.{List, [], ◌∷◌, ◌++◌, append_assoc}
use Prim.Native.Nat.{ℕ, zero, suc, ◌+◌, ◌/◌, ◌%◌, ◌<◌, ◌≤◌}
use lib.Dec.{ltb}
use lib.ListN.{length, take, drop, set, length-append, length-set}
use lib.Seq.{sets-eq, take-length, drop-drop, paste, paste-zero, take-paste, drop-paste}
use Rattle.telling.proofs.Telling.{decide, is_lt}
use Rattle.refusal.specs.declared.Verdict.{Verdict}
use Rattle.linetext.specs.Text.{codes, digit, decimal_in, decimal, yes_no, level_line, refused_line}
use Rattle.linetext.specs.Computed.{line_of, Puts}

-- ---- pieces

module _ (d : List ℕ) (at : ℕ) where
  -- a digit
  pub puts_digit : (x : ℕ) → at < length d → Puts d at (digit x ∷ []) (at + 1) (set d at (digit x))
  puts_digit x l = record { next = refl; bytes = sets-eq (digit x ∷ []) d at (omega arith); size = length-set d at (digit x) }

  -- nothing
  puts_none : Puts d at [] at d
  puts_none = record { next = omega arith; bytes = paste-zero d at []; size = refl }

  pastes : (t u : List ℕ) → at + length t ≤ length d → paste (paste d at t (length t)) (at + length t) u (length u) ≡ paste d at (t ++ u) (length (t ++ u))
  pastes t u l =
      let n : ℕ = at + length t in
      let e : List ℕ = paste d at t (length t) in
      let before : take n e ≡ take at d ++ t = take-paste d at t (length t) (omega arith) (omega arith) ∙ ap (λ (x : List ℕ). take at d ++ x) (take-length t) in
      let after : drop (n + length u) e ≡ drop (n + length u) d =
      sym (drop-drop (length u) n e) ∙ ap (drop (length u)) (drop-paste d at t (length t) (omega arith) (omega arith)) ∙ drop-drop (length u) n d in
      let long : n + length u ≡ at + length (t ++ u) = rw (length-append t u) (omega arith) in
      rw (before, after, take-length u, take-length (t ++ u), append_assoc (take at d) t u, long)

  -- one after another
  pub puts_then : (t u : List ℕ) (r q : ℕ) (e f : List ℕ) → at + length t ≤ length d → Puts d at t r e → Puts e r u q f → Puts d at (t ++ u) q f
  puts_then t u r q e f l a b =
      let n = a.next in
      let m = b.next in
      let k = length-append t u in
      record { next = omega arith; bytes = b.bytes ∙ rw (a.bytes, n) (pastes t u l); size = b.size ∙ a.size }

-- ---- a number

-- fewer than ten, in any number of steps
one_digit : (steps n : ℕ) → n < 10 → decimal_in steps n ≡ digit n ∷ []
unfolding decimal_in
one_digit zero n l = refl
one_digit (suc steps) n l = rw (lt-ltb n 10 l)

more_digits : (steps n : ℕ) → 10 ≤ n → decimal_in (suc steps) n ≡ decimal_in steps (n / 10) ++ (digit (n % 10) ∷ [])
unfolding decimal_in
more_digits steps n h = rw (le-ltb n 10 h)

two_digits : (steps n : ℕ) → 10 ≤ n → n < 100 → decimal_in (suc steps) n ≡ digit (n / 10) ∷ digit (n % 10) ∷ []
two_digits steps n h l = more_digits steps n h ∙ ap (λ (t : List ℕ). t ++ (digit (n % 10) ∷ [])) (one_digit steps (n / 10) (omega arith))

decimal_one : (n : ℕ) → n < 10 → decimal n ≡ digit n ∷ []
unfolding decimal
decimal_one n l = one_digit n n l

decimal_two : (n : ℕ) → 10 ≤ n → n < 100 → decimal n ≡ digit (n / 10) ∷ digit (n % 10) ∷ []
unfolding decimal
decimal_two zero h l = absurd (omega arith)
decimal_two (suc n) h l = two_digits n (suc n) h l

decimal_three : (n : ℕ) → 100 ≤ n → n < 1000 → decimal n ≡ digit (n / 100) ∷ digit (n / 10 % 10) ∷ digit (n % 10) ∷ []
unfolding decimal
decimal_three zero h l = absurd (omega arith)
decimal_three (suc zero) h l = absurd (omega arith)
decimal_three (suc (suc k)) h l =
    let n : ℕ = suc (suc k) in
    let e : n / 10 / 10 ≡ n / 100 = omega arith in
    more_digits (suc k) n (omega arith)
    ∙ ap (λ (t : List ℕ). t ++ (digit (n % 10) ∷ [])) (two_digits k (n / 10) (omega arith) (omega arith))
    ∙ ap (λ (d : ℕ). digit d ∷ digit (n / 10 % 10) ∷ digit (n % 10) ∷ []) e

-- a digit, or none
abbrev pub digit_if : Bool → ℕ → List ℕ
digit_if wanted d = cond wanted (digit d ∷ []) []

-- its digits: hundreds and tens where there are any
abbrev digits : ℕ → List ℕ
digits n = digit_if (ltb 99 n) (n / 100) ++ digit_if (ltb 9 n) (n / 10 % 10) ++ (digit (n % 10) ∷ [])

decimal_is : (n : ℕ) → n < 1000 → decimal n ≡ digits n
decimal_is n l = ⊎_elim one (λ g. ⊎_elim (two g) three (decide (is_lt n 100))) (decide (is_lt n 10))
  where
    one : n < 10 → decimal n ≡ digits n
    one h = let e : n ≡ n % 10 = omega arith in decimal_one n h ∙ rw (le-ltb 99 n (omega arith), le-ltb 9 n (omega arith)) (ap (λ (d : ℕ). digit d ∷ []) e)

    two : ¬ (n < 10) → n < 100 → decimal n ≡ digits n
    two g h =
        let e : n / 10 ≡ n / 10 % 10 = omega arith in
        decimal_two n (omega arith) h ∙ rw (le-ltb 99 n (omega arith), lt-ltb 9 n (omega arith)) (ap (λ (d : ℕ). digit d ∷ digit (n % 10) ∷ []) e)

    three : ¬ (n < 100) → decimal n ≡ digits n
    three g = decimal_three n (omega arith) l ∙ rw (lt-ltb 99 n (omega arith), lt-ltb 9 n (omega arith))

-- a digit where it is wanted: what is left is e, and r the place after it
module _ (d : List ℕ) (at x : ℕ) {wanted : Bool} {r : ℕ} {e : List ℕ} where
  pub puts_wanted : {q : ℕ} {f : List ℕ} → r ≡ q → e ≡ f → wanted ≡ true → Puts d at (digit x ∷ []) q f → Puts d at (digit_if wanted x) r e
  puts_wanted next bytes w p = rw (w, next, bytes) p

  pub puts_unwanted : r ≡ at → e ≡ d → wanted ≡ false → Puts d at (digit_if wanted x) r e
  puts_unwanted next bytes w = rw (w, next, bytes) (puts_none d at)

digit_short : (wanted : Bool) (x : ℕ) → length (digit_if wanted x) ≤ 1
digit_short true x = omega arith
digit_short false x = omega arith

puts_decimal : (d : List ℕ) (at n : ℕ) → at + 3 ≤ length d → n < 1000 → (r q p : ℕ) (e f g : List ℕ) → Puts d at (digit_if (ltb 99 n) (n / 100)) r e
    → Puts e r (digit_if (ltb 9 n) (n / 10 % 10)) q f → Puts f q (digit (n % 10) ∷ []) p g → Puts d at (decimal n) p g × (p ≤ at + 3)
puts_decimal d at n l h r q p e f g a b c =
    let i = a.next in
    let j = b.next in
    let k = c.next in
    let m = digit_short (ltb 99 n) (n / 100) in
    let o = digit_short (ltb 9 n) (n / 10 % 10) in
    let two = puts_then d at _ _ r q e f (omega arith) a b in
    (subst (λ (t : List ℕ). Puts d at t p g) (sym (decimal_is n h)) (puts_then d at _ _ q p f g (let n = two.next in omega arith) two c), omega arith)

-- a text and a number
pub puts_number : (d : List ℕ) (at : ℕ) (t : List ℕ) (n : ℕ) → at + length t + 3 ≤ length d → n < 1000 → (q r₁ r₂ r₃ : ℕ) (c e₁ e₂ e₃ : List ℕ) → Puts d at t q c
    → Puts c q (digit_if (ltb 99 n) (n / 100)) r₁ e₁ → Puts e₁ r₁ (digit_if (ltb 9 n) (n / 10 % 10)) r₂ e₂ → Puts e₂ r₂ (digit (n % 10) ∷ []) r₃ e₃
    → Puts d at (t ++ decimal n) r₃ e₃ × (r₃ ≤ at + length t + 3)
puts_number d at t n l h q r₁ r₂ r₃ c e₁ e₂ e₃ text one two three =
    let k = text.next in
    let m = text.size in
    let number = puts_decimal c q n (omega arith) h r₁ r₂ r₃ e₁ e₂ e₃ one two three in
    (puts_then d at t (decimal n) q r₃ c e₃ (omega arith) text number.0, omega arith)

-- ---- the two lines

module _ (d : List ℕ) (long : 19 ≤ length d) where
  pub puts_refusal : (v : Verdict) (n : ℕ) → n ≡ v.number → (r₁ : ℕ) (e₁ : List ℕ) → Puts d 0 (codes "refused " ++ decimal n) r₁ e₁ → r₁ ≤ 0 + length (codes "refused ") + 3
      → (r₂ : ℕ) (e₂ : List ℕ) → Puts e₁ r₁ (codes " at " ++ decimal v.node) r₂ e₂ → r₂ ≤ r₁ + length (codes " at ") + 3 → (r₃ : ℕ) (e₃ : List ℕ) → Puts e₂ r₂ (codes "\n") r₃ e₃
      → Puts d 0 (refused_line v) r₃ e₃
  unfolding refused_line
  puts_refusal v n is r₁ e₁ a l₁ r₂ e₂ b l₂ r₃ e₃ c =
      let i = a.next in
      let number = subst (λ (n : ℕ). Puts d 0 (codes "refused " ++ decimal n) r₁ e₁) is a in
      let node = puts_then d 0 _ _ r₁ r₂ e₁ e₂ (omega arith) number b in
      let j = node.next in
      let same = sym (append_assoc (codes "refused " ++ decimal v.number) (codes " at ") (decimal v.node)) in
      subst (λ (t : List ℕ). Puts d 0 (t ++ codes "\n") r₃ e₃) same (puts_then d 0 _ _ r₂ r₃ e₂ e₃ (omega arith) node c)

  module _ (level : ℕ) (low : level < 10) (r₁ : ℕ) (e₁ : List ℕ) (word : Puts d 0 (codes "level ") r₁ e₁) (n : ℕ) (is : n ≡ level) (r₂ : ℕ) (e₂ : List ℕ)
      (number : Puts e₁ r₁ (digit n ∷ []) r₂ e₂) (tested : Bool) (r₃ : ℕ) (e₃ : List ℕ) where
    puts_level : Puts e₂ r₂ (codes " tested " ++ yes_no tested ++ codes "\n") r₃ e₃ → Puts d 0 (level_line level tested) r₃ e₃
    unfolding level_line
    puts_level rest =
        let two = puts_then d 0 _ _ r₁ r₂ e₁ e₂ (omega arith) word number in
        rw (decimal_one level low, ← is) (puts_then d 0 _ _ r₂ r₃ e₂ e₃ (omega arith) two rest)

    pub puts_yes : tested ≡ true → Puts e₂ r₂ (codes " tested yes\n") r₃ e₃ → Puts d 0 (level_line level tested) r₃ e₃
    puts_yes t rest = puts_level (rw t rest)

    pub puts_no : tested ≡ false → Puts e₂ r₂ (codes " tested no\n") r₃ e₃ → Puts d 0 (level_line level tested) r₃ e₃
    puts_no t rest = puts_level (rw t rest)

-- which of them
module _ (table read : Verdict) (level : ℕ) (tested : Bool) where
  pub told-table : ¬ (table.number ≡ 0) → line_of table read level tested ≡ refused_line table
  unfolding line_of
  told-table z = rw (ne_eqb table.number 0 z)

  module _ (z : table.number ≡ 0) where
    pub told_record : ¬ (read.number ≡ 0) → line_of table read level tested ≡ refused_line read
    unfolding line_of
    told_record y = rw (eq-eqb table.number 0 z, ne_eqb read.number 0 y)

    pub told_level : read.number ≡ 0 → line_of table read level tested ≡ level_line level tested
    unfolding line_of
    told_level y = rw (eq-eqb table.number 0 z, eq-eqb read.number 0 y)

-- what is put from the start on is the first of the bytes that are left
pub puts_within : (d t : List ℕ) (r : ℕ) (d' : List ℕ) → Puts d 0 t r d' → r ≤ length d'
puts_within d t r d' p =
    let n = p.next in
    let b : length d' ≡ length (t ++ drop (0 + length t) d) = ap length (p.bytes ∙ ap (λ (u : List ℕ). u ++ drop (0 + length t) d) (take-length t)) in
    let a = length-append t (drop (0 + length t) d) in
    omega arith
