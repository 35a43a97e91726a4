-- Laws of the bytes of nodes, and of bytes put into a list. Assumes nothing.
use native.Mathlib.Omega.{arith}
use native.Mathlib.Nat.{add-zero}
use native.Mathlib.Numerals.{add-one}
use mathlib.Core.Path.{◌≡◌, refl, ◌∙◌, sym, ap}
use mathlib.Core.List.{List, [], ◌∷◌, ◌++◌, append_assoc, append-nil}
use Prim.Native.Nat.{ℕ, suc, ◌+◌, ◌*◌, ◌<◌, ◌≤◌}
use lib.ListN.{length, get_or, take, drop, set, length-append, take-append-drop}
use lib.Seq.{length-take-le, take_at, drop_at, drop-drop, take-suc, sets-eq}
use Rattle.nodes.specs.declared.Raw.{Raw}
use Rattle.encoding.specs.Encoding.{heading, four_bytes, encoded, blank, put}

-- ---- bytes put into a list

pub put_none : (d : List ℕ) (at : ℕ) → d ≡ put d at []
unfolding put
put_none d at = sym (rw (add-zero at, append-nil (take at d)) (take-append-drop at d))

-- what is put after what was put
pub put-put : (d : List ℕ) (at : ℕ) (xs ys : List ℕ) → at + length xs ≤ length d → put (put d at xs) (at + length xs) ys ≡ put d at (xs ++ ys)
unfolding put
put-put d at xs ys h =
    let head : List ℕ = take at d ++ xs in
    let rest : List ℕ = drop (at + length xs) d in
    let l : length head ≡ at + length xs = length-append (take at d) xs ∙ ap (λ (n : ℕ). n + length xs) (length-take-le at d (omega arith)) in
    let a : take (at + length xs) (head ++ rest) ≡ head = take_at head rest (at + length xs) l in
    let b : drop (at + length xs) (head ++ rest) ≡ rest = drop_at head rest (at + length xs) l in
    let c : drop (at + length xs + length ys) (head ++ rest) ≡ drop (at + length xs + length ys) d =
    sym (drop-drop (length ys) (at + length xs) (head ++ rest)) ∙ ap (drop (length ys)) b ∙ drop-drop (length ys) (at + length xs) d in
    let e : at + length xs + length ys ≡ at + length (xs ++ ys) = rw (length-append xs ys) (omega arith) in
    ap (λ (u : List ℕ). u ++ ys ++ drop (at + length xs + length ys) (head ++ rest)) a
    ∙ ap (λ (u : List ℕ). head ++ ys ++ u) c
    ∙ ap (λ (u : List ℕ). u ++ drop (at + length xs + length ys) d) (append_assoc (take at d) xs ys)
    ∙ ap (λ (n : ℕ). take at d ++ (xs ++ ys) ++ drop n d) e

-- what is put before what was put
pub put_before : (d hs xs : List ℕ) → length hs ≤ length d → put (put d (length hs) xs) 0 hs ≡ put d 0 (hs ++ xs)
unfolding put
put_before d hs xs h =
    let a : take (length hs) d ++ xs ++ drop (length hs + length xs) d ≡ take (length hs) d ++ (xs ++ drop (length hs + length xs) d) =
    append_assoc (take (length hs) d) xs (drop (length hs + length xs) d) in
    let b = drop_at (take (length hs) d) (xs ++ drop (length hs + length xs) d) (0 + length hs) (length-take-le (length hs) d h ∙ omega arith) in
    let e : length hs + length xs ≡ 0 + length (hs ++ xs) = rw (length-append hs xs) (omega arith) in
    ap (λ (u : List ℕ). hs ++ drop (0 + length hs) u) a ∙ ap (λ (u : List ℕ). hs ++ u) b ∙ sym (append_assoc hs xs (drop (length hs + length xs) d))
    ∙ ap (λ (n : ℕ). (hs ++ xs) ++ drop n d) e

-- the stores of a node
pub put_four : (d : List ℕ) (i a b x y : ℕ) → i + 4 ≤ length d → set (set (set (set d i a) (i + 1) b) (i + 2) x) (i + 3) y ≡ put d i (a ∷ b ∷ x ∷ y ∷ [])
unfolding put
put_four d i a b x y h =
    let p : i + 1 ≡ suc i = omega arith in
    let q : i + 2 ≡ suc (suc i) = omega arith in
    let r : i + 3 ≡ suc (suc (suc i)) = omega arith in
    rw (p, q, r) (sets-eq (a ∷ b ∷ x ∷ y ∷ []) d i h)

-- a copy, byte by byte
pub put_byte : (d out : List ℕ) (i : ℕ) (xs : List ℕ) → out ≡ put d 0 (take i xs) → i < length xs → i < length d → length out ≡ length d
    → set out i (get_or xs i 0) ≡ put d 0 (take (i + 1) xs)
unfolding put
put_byte d out i xs e l h same =
    let a = get_or xs i 0 in
    let long : length (take i xs) ≡ i = length-take-le i xs (omega arith) in
    let at : i ≡ 0 + length (take i xs) = omega arith in
    sets-eq (a ∷ []) out i (omega arith) ∙ ap (λ (u : List ℕ). put u i (a ∷ [])) e ∙ ap (λ (j : ℕ). put (put d 0 (take i xs)) j (a ∷ [])) at
    ∙ put-put d 0 (take i xs) (a ∷ []) (omega arith) ∙ ap (put d 0) (sym (take-suc xs i 0 l) ∙ ap (λ (j : ℕ). take j xs) (sym (add-one i)))

-- the stores of the heading
pub put_six : (d : List ℕ) (a b m r : ℕ) → 6 ≤ length d → r ≡ m → set (set (set (set (set (set d 0 83) 1 86) 2 84) 3 a) 4 b) 5 r ≡ put d 0 (heading a b m)
unfolding put
put_six d a b m r h e = rw e (sets-eq (heading a b m) d 0 h)

-- ---- bytes of nodes

pub length-encoded : (rs : List Raw) → length (encoded rs) ≡ 4 * length rs
unfolding encoded
length-encoded [] = refl
length-encoded (r ∷ rs) = let h = length-encoded rs in omega arith

pub encoded-append : (us vs : List Raw) → encoded (us ++ vs) ≡ encoded us ++ encoded vs
unfolding encoded
encoded-append [] vs = refl
encoded-append (u ∷ us) vs = ap (λ (b : List ℕ). four_bytes u ++ b) (encoded-append us vs)

-- one more node of a list
pub encoded_more : (vs : List Raw) (i : ℕ) → i < length vs → encoded (take (i + 1) vs) ≡ encoded (take i vs) ++ four_bytes (get_or vs i blank)
unfolding encoded
encoded_more vs i h = rw (add-one i, take-suc vs i blank h) (encoded-append (take i vs) (get_or vs i blank ∷ []))

-- ---- one more part of what is put, node by node or block by block

module _ (d out : List ℕ) (at : ℕ) (us : List Raw) (e : out ≡ put d (4 * at + 6) (encoded us)) (room : 4 * (at + length us) + 6 ≤ length d) where
  pub put_more : (xs : List ℕ) → put out (4 * (at + length us) + 6) xs ≡ put d (4 * at + 6) (encoded us ++ xs)
  put_more xs =
      let l = length-encoded us in
      let place : 4 * (at + length us) + 6 ≡ 4 * at + 6 + length (encoded us) = omega arith in
      rw (place, e) (put-put d (4 * at + 6) (encoded us) xs (omega arith))
