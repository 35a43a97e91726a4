-- An array that is filled with its default, as the code begins the arrays that it keeps: each element is that, and past the end too. Assumes nothing.
use mathlib.Core.Path.{◌≡◌, refl}
use Prim.Native.Nat.{ℕ, zero, suc}
use lib.ListN.{get_or, replicate}

pub filled : {A : Type 0} (a : A) (n k : ℕ) → get_or (replicate n a) k a ≡ a
filled a zero k = refl
filled a (suc n) zero = refl
filled a (suc n) (suc k) = filled a n k
