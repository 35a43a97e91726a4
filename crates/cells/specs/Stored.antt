-- Words laid in a workspace. Assumes nothing.
use Rattle.std.specs.Prelude.{◌≡◌, ◌⊎◌, Bool, List, [], ◌∷◌, ◌++◌, ℕ, zero, suc, ◌+◌, ◌*◌, ◌<◌, ◌≤◌, length, get_or, take, drop}
use Rattle.positions.specs.Member.{collect}
use Rattle.cells.specs.Shares.{share}

-- the first n values of f
unfoldable pub tab : (ℕ → ℕ) → ℕ → List ℕ
tab f zero = []
tab f (suc n) = tab f n ++ (f n ∷ [])

-- a word: the set of the places that pass the test
abbrev pub set64 : (ℕ → Bool) → ℕ
set64 f = collect 64 f

-- the workspace d with the row r laid in at node k
unfoldable pub with_row : List ℕ → ℕ → List ℕ → List ℕ
with_row d k r = take (share * k) d ++ r ++ drop (share * k + share) d

-- out is d with the words `from` to `to` - 1 of the share at `at` made anew, so that P holds of each and its number; all others stay
pub record Stored (P : ℕ → ℕ → Type 0) (d : List ℕ) (at from to : ℕ) (out : List ℕ) : Type 0 where
  pub long : length out ≡ length d
  pub there : (m : ℕ) → from ≤ m → m < to → P m (get_or out (at + m) 0)
  pub stay : (j : ℕ) → (j < at + from) ⊎ (at + to ≤ j) → get_or out j 0 ≡ get_or d j 0

-- what `Stored` says of a word that is made 0
abbrev pub None : ℕ → ℕ → Type 0
None m x = x ≡ 0
