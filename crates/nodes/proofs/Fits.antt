-- When bytes are right where they stand, so that the node is well formed. Assumes nothing.
use native.Mathlib.Omega.{arith}
use mathlib.Core.Path.{◌≡◌, refl, sym, subst}
use mathlib.Core.List.{List}
use Prim.Native.Nat.{ℕ, ◌<◌}
use Rattle.refusal.specs.Heading.{version}
use Rattle.nodes.specs.declared.Raw.{Raw}
use Rattle.nodes.specs.Operators.{none, row_of, Fourth}
use Rattle.nodes.specs.Nodes.{raw_at, sort_at, Operand, KnownIn, WellFormed}

-- the bytes r are right as node q of t
pub record Right (t : List ℕ) (q : ℕ) (r : Raw) : Type 0 where
  pub known : ¬ ((row_of r.op).own ≡ none)
  pub in_version : KnownIn (row_of r.op) (version t)
  pub x : Operand t q (row_of r.op).x (row_of r.op).limit r.x
  pub y : Operand t q (row_of r.op).y 1 r.y
  pub fourth : Fourth (row_of r.op).fourth r.fourth

pub right_fit : (t : List ℕ) (q : ℕ) {r : Raw} → raw_at t q ≡ r → Right t q r → WellFormed t q
unfolding sort_at
right_fit t q e h =
    let f = subst (Right t q) (sym e) h in
    record { known = f.known; in_version = f.in_version; x = f.x; y = f.y; fourth = f.fourth }

-- 0 is right as a fourth byte of any kind
pub zero_fourth : (kind : ℕ) → Fourth kind 0
zero_fourth kind = record { zero = λ _. refl; range = λ _. omega arith; count = λ _. omega arith }

-- ---- operand bytes

module _ (t : List ℕ) (q : ℕ) where
  -- a lower node of the sort
  abbrev pub Lower : ℕ → ℕ → Type 0
  Lower sort v = (v < q) × (sort_at t v ≡ sort)

  pub lower : {sort v : ℕ} (limit : ℕ) → ¬ (sort ≡ none) → Lower sort v → Operand t q sort limit v
  lower limit z f = record { number = λ e. absurd (z e); below = λ _. f.0; sorted = λ _. f.1 }

  -- a number
  pub number : {v limit : ℕ} → v < limit → Operand t q none limit v
  number l = record { number = λ _. l; below = λ z. absurd (z refl); sorted = λ z. absurd (z refl) }
