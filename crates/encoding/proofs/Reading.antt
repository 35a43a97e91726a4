-- The nodes of a table that is a heading and the bytes of nodes. Assumes nothing.
use native.Mathlib.Omega.{arith}
use native.Mathlib.Nat.{not-suc-le-zero, le_of_suc-le-suc}
use mathlib.Core.Path.{◌≡◌, refl, ◌∙◌}
use mathlib.Core.List.{List, [], ◌∷◌, ◌++◌}
use Prim.Native.Nat.{ℕ, zero, suc, ◌+◌, ◌*◌, ◌<◌}
use lib.ListN.{length, get_or, get_or-append}
use lib.Seq.{get_or-append-add}
use Rattle.nodes.specs.declared.Raw.{Raw}
use Rattle.nodes.specs.Nodes.{raw_at}
use Rattle.encoding.specs.Encoding.{heading, four_bytes, encoded, blank}

-- byte j of node q
encoded_at : (rs : List Raw) (q j : ℕ) → j < 4 → q < length rs → get_or (encoded rs) (4 * q + j) 0 ≡ get_or (four_bytes (get_or rs q blank)) j 0
unfolding encoded
encoded_at [] q j l h = absurd (not-suc-le-zero h)
encoded_at (r ∷ rs) zero j l h = let e : 4 * 0 + j ≡ j = omega arith in rw e (get_or-append (four_bytes r) (encoded rs) 0 j l)
encoded_at (r ∷ rs) (suc q) j l h =
    let e : 4 * suc q + j ≡ suc (suc (suc (suc (4 * q + j)))) = omega arith in rw e (encoded_at rs q j l (le_of_suc-le-suc h))

module _ (a b m : ℕ) (rs : List Raw) (q : ℕ) (h : q < length rs) where
  byte : (i j : ℕ) → j < 4 → i ≡ 4 * q + 6 + j → get_or (heading a b m ++ encoded rs) i 0 ≡ get_or (four_bytes (get_or rs q blank)) j 0
  byte i j l e =
      let z : i ≡ 6 + (4 * q + j) = omega arith in
      rw z (get_or-append-add (heading a b m) (encoded rs) (4 * q + j) 0 ∙ encoded_at rs q j l h)

  -- node q of a heading and the bytes of nodes
  pub raw_of : raw_at (heading a b m ++ encoded rs) q ≡ get_or rs q blank
  raw_of =
      let e = byte (4 * q + 6) 0 (omega arith) (omega arith) in
      let f = byte (4 * q + 6 + 1) 1 (omega arith) refl in
      let g = byte (4 * q + 6 + 2) 2 (omega arith) refl in
      let k = byte (4 * q + 6 + 3) 3 (omega arith) refl in
      λ i. record { op = e i; x = f i; y = g i; fourth = k i }
