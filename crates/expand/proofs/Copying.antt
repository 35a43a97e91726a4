-- A table as it is copied, byte by byte. Assumes nothing.
use mathlib.Core.Path.{◌≡◌, refl, ◌∙◌, sym}
use mathlib.Core.List.{List, ◌++◌}
use Prim.Native.Nat.{ℕ, suc, ◌+◌, ◌≤◌, ◌<◌}
use native.Mathlib.Numerals.{add-one}
use native.Mathlib.Omega.{arith}
use lib.ListN.{length, get_or, take, drop, set}
use lib.Seq.{length-take-le, take-length, take-suc, drop-cons, set_at, append_snoc}

module _ (t d : List ℕ) where
  pub none_copied : d ≡ take 0 t ++ drop 0 d
  none_copied = refl

  -- i bytes are copied
  module _ (fits : length t ≤ length d) (d' : List ℕ) (i : ℕ) (copied : d' ≡ take i t ++ drop i d) where
    pub one_copied : i < length t → (x : ℕ) → x ≡ get_or t i 0 → set d' i x ≡ take (i + 1) t ++ drop (i + 1) d
    one_copied l x e =
        let h : i < length d = omega arith in
        rw (copied, add-one i, e, drop-cons d i 0, take-suc t i 0 l)
        (set_at (take i t) (get_or d i 0) (drop (suc i) d) (get_or t i 0) i (length-take-le i t (omega arith)) ∙ sym (append_snoc (take i t) (get_or t i 0) (drop (suc i) d)))

    pub all_copied : i ≡ length t → d' ≡ t ++ drop (length t) d
    all_copied e = rw (copied, e, take-length t) refl
