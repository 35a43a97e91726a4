-- Document 01, "Numbers of refusal": a refusal, "the lowest such node" and "the first that applies", for every entry point alike.
-- Assumes nothing.
use Rattle.std.specs.Prelude.{◌≡◌, ◌⊎◌, List, [], ◌∷◌, ◌++◌, ℕ, ◌<◌}
use Rattle.refusal.specs.declared.Verdict.{Verdict}

-- a row of the table of refusals: its number, and the node at which it is given
pub record Refusal : Type 1 where
  pub number : ℕ
  pub given : ℕ → Type 0

-- k is the lowest such node, of n
pub record LowestSuch (n : ℕ) (Such : ℕ → Type 0) (k : ℕ) : Type 0 where
  pub below : k < n
  pub such : Such k
  pub lowest : (j : ℕ) → j < k → ¬ Such j

-- given exactly when this holds, at node 0
abbrev pub when : ℕ → Type 0 → Refusal
when i Holds = record { number = i; given = λ k. (k ≡ 0) × Holds }

-- given exactly when this holds of one of n nodes, at the lowest such
abbrev pub at_lowest : ℕ → ℕ → (ℕ → Type 0) → Refusal
at_lowest i n Such = record { number = i; given = LowestSuch n Such }

-- the first that applies is answered; an acceptance has number and node 0
unfoldable pub Answers : List Refusal → Verdict → Type 0
Answers [] v = (v.number ≡ 0) × (v.node ≡ 0)
Answers (r ∷ rs) v = ((v.number ≡ r.number) × r.given v.node) ⊎ (((k : ℕ) → ¬ r.given k) × Answers rs v)

-- ---- what the theorems of a demand speak of

-- no refusal of the list is given
abbrev pub NotGiven : List Refusal → Type 0
NotGiven [] = Unit {0}
NotGiven (r ∷ rs) = ((k : ℕ) → ¬ r.given k) × NotGiven rs

-- the answer is the number of a refusal of the list that is given at its node, with none before it
pub record FirstGiven (rs : List Refusal) (v : Verdict) : Type 1 where
  pub before : List Refusal
  pub refusal : Refusal
  pub after : List Refusal
  pub listed : rs ≡ before ++ (refusal ∷ after)
  pub none : NotGiven before
  pub number : v.number ≡ refusal.number
  pub given : refusal.given v.node
