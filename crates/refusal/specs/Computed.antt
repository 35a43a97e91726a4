-- The first refusal that applies, the lowest node that a test passes, and the tests of the first six bytes, as antt computes them: what the code is
-- held to. `proofs/Deciding.antt` and `proofs/Headings.antt` show that they are those of First.antt and Heading.antt. Assumes nothing.
use Rattle.std.specs.Prelude.{Bool, not, cond, ◌&&◌, List, [], ◌∷◌, ℕ, zero, suc, ◌-◌, ltb, leb, eqb, length, get_or, Option, Some, None}
use Rattle.refusal.specs.declared.Verdict.{Verdict}
use Rattle.refusal.specs.Heading.{version}

abbrev pub refused : ℕ → ℕ → Verdict
refused number node = record { number = number; node = node }

abbrev pub accepted : Verdict
accepted = refused 0 0

-- of the m numbers from i on, the first at which p passes, or the number after them
unfoldable pub first_of : (ℕ → Bool) → ℕ → ℕ → ℕ
first_of p i zero = i
first_of p i (suc m) = cond (p i) i (first_of p (suc i) m)

-- the first number from i on and below n at which p passes, or n
abbrev pub first : (ℕ → Bool) → ℕ → ℕ → ℕ
first p i n = first_of p i (n - i)

-- the first number below n at which p passes, if there is one
abbrev pub found : (ℕ → Bool) → ℕ → Option ℕ
found p n = cond (ltb (first p 0 n) n) (Some (first p 0 n)) None

-- a refusal as a test, and the answer where it passes
pub record Case : Type 0 where
  pub applies : Bool
  pub answer : Verdict

abbrev pub at0 : ℕ → Bool → Case
at0 i b = record { applies = b; answer = refused i 0 }

abbrev pub at_first : ℕ → ℕ → (ℕ → Bool) → Case
at_first i n p = record { applies = ltb (first p 0 n) n; answer = refused i (first p 0 n) }

unfoldable pub first_case : List Case → Verdict
first_case [] = accepted
first_case (c ∷ cs) = cond c.applies c.answer (first_case cs)

-- ---- the first six bytes

unfoldable pub is_marked : ℕ → List ℕ → Bool
is_marked letter s = eqb (get_or s 0 0) 83 && (eqb (get_or s 1 0) 86 && eqb (get_or s 2 0) letter)

abbrev pub is_known : ℕ → ℕ → Bool
is_known newest v = leb 1 v && leb v newest

unfoldable pub heading_cases : ℕ → ℕ → List ℕ → List Case
heading_cases letter newest s =
    at0 1 (ltb (length s) 6) ∷ at0 2 (not (is_marked letter s)) ∷ at0 3 (not (is_known newest (version s))) ∷ []
