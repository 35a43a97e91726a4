-- Document 01, "Program": the line, `level 1 tested yes` or `refused 9 at 3` with a newline, as bytes. Assumes nothing.
use Rattle.std.specs.Prelude.{Bool, cond, List, [], ◌∷◌, ◌++◌, ℕ, zero, suc, ◌+◌, ◌/◌, ◌%◌, ltb}
use Prim.Native.Char.{code}
use Prim.Native.String.{String, len, char_at}
use Rattle.refusal.specs.declared.Verdict.{Verdict}

-- k codes of a text's characters, from place i on
abbrev codes_from : String → ℕ → ℕ → List ℕ
codes_from t i zero = []
codes_from t i (suc k) = code (char_at t i) ∷ codes_from t (suc i) k

-- a text as bytes, each the code of a character
abbrev pub codes : String → List ℕ
codes t = codes_from t 0 (len t)

-- a decimal digit
abbrev pub digit : ℕ → ℕ
digit d = 48 + d

-- a number in decimal, with no zero before it; `steps` are at least as many as it has digits
unfoldable pub decimal_in : ℕ → ℕ → List ℕ
decimal_in zero n = digit n ∷ []
decimal_in (suc steps) n = cond (ltb n 10) (digit n ∷ []) (decimal_in steps (n / 10) ++ (digit (n % 10) ∷ []))

unfoldable pub decimal : ℕ → List ℕ
decimal n = decimal_in n n

abbrev pub yes_no : Bool → List ℕ
yes_no b = cond b (codes "yes") (codes "no")

unfoldable pub level_line : ℕ → Bool → List ℕ
level_line level tested = codes "level " ++ decimal level ++ (codes " tested " ++ yes_no tested ++ codes "\n")

unfoldable pub refused_line : Verdict → List ℕ
refused_line v = codes "refused " ++ decimal v.number ++ codes " at " ++ decimal v.node ++ codes "\n"
