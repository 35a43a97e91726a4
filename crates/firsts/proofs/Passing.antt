-- The pass, node by node: the number of node k is stored, and what it gives is put. Assumes nothing.
use native.Mathlib.Omega.{arith}
use native.Mathlib.Nat.{not-suc-le-zero, eq-or-lt_of_le}
use native.Mathlib.Numerals.{add-one}
use mathlib.Core.Path.{◌≡◌, refl, ◌∙◌, sym, ap}
use mathlib.Core.Logic.{⊎_elim}
use mathlib.Core.List.{List}
use Prim.Native.Nat.{ℕ, ◌+◌, ◌*◌, ◌<◌, ◌≤◌}
use lib.ListN.{length, set, length-set, length-map}
use lib.Seq.{get_or-set_same, get_or-set_other}
use Rattle.encoding.specs.Encoding.{encoded, put}
use Rattle.encoding.proofs.Putting.{put_none, put_more, encoded-append}
use Rattle.expansion.specs.Booleans.{number_of, given_at, booleans_below}
use Rattle.expansion.proofs.Numbering.{number_le, length-booleans}
use Rattle.expansion.specs.Formed.{NumberedBelow}
use Rattle.firsts.specs.Firsts.{FirstsPut}

-- none
pub no_firsts : (s d numbers : List ℕ) → length numbers ≡ 121 → FirstsPut s 0 d 0 numbers d
unfolding number_of booleans_below encoded
no_firsts s d numbers e = record {
  count = refl;
  numbered = record { size = e; right = λ j l. absurd (not-suc-le-zero l) };
  bytes = put_none d 6;
}

module _ (s : List ℕ) (k : ℕ) (d : List ℕ) (at : ℕ) (numbers out : List ℕ) (h : FirstsPut s k d at numbers out) (n : ℕ) (l : k < n) (few : n ≤ 120) where
  -- the number of a node is below 120
  pub room : at < 120
  room = let e = h.count in let b = number_le s k in omega arith

  -- that of node k is stored
  pub stored : NumberedBelow s k (set numbers k at)
  stored = record {
    size = simp length-set h.numbered.size;
    right = λ j m. get_or-set_other numbers k j at 0 (λ e. omega arith) ∙ h.numbered.right j m;
  }

  -- and what it gives is put
  pub more_firsts : 486 ≤ length d → (r : ℕ) → r ≡ at + length (given_at s k) → (out' : List ℕ) → out' ≡ put out (4 * at + 6) (encoded (given_at s k))
      → FirstsPut s (k + 1) d r (set numbers k at) out'
  unfolding number_of booleans_below
  more_firsts long r er out' eo = record {
    count = rw (add-one k) (simp length-map at (er ∙ ap (λ (a : ℕ). a + length (given_at s k)) h.count));
    numbered = record {
      size = stored.size;
      right =
          λ j m.
          ⊎_elim (λ (z : j ≡ k). rw z (get_or-set_same numbers k at 0 (let q = h.numbered.size in omega arith) ∙ h.count)) (λ (i : j < k). stored.right j i)
          (eq-or-lt_of_le (let q : j ≤ k = omega arith in q));
    };
    bytes =
        let us = booleans_below s k in
        let t = length-booleans s k in
        let e = h.count in
        let b = room in
        let a : at ≡ 0 + length us = omega arith in
        let p = put_more d out 0 us h.bytes (omega arith) (encoded (given_at s k)) in
        eo ∙ rw (a, add-one k) (p ∙ ap (put d 6) (sym (encoded-append us (given_at s k))));
  }
