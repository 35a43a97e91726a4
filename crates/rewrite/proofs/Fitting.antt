-- The listed blocks, node by node: each node is well formed and no clock node, where the operands are lower nodes of the sorts that it asks. Assumes nothing.
use native.Mathlib.Omega.{arith}
use native.Mathlib.Nat.{not-suc-le-zero, le_of_suc-le-suc, add-zero, add-suc, suc-add}
use mathlib.Core.Path.{◌≡◌, ◌∙◌, sym, subst}
use mathlib.Core.Bool.{Bool, not, ◌&&◌}
use mathlib.Core.List.{List, [], ◌∷◌, map}
use Prim.Native.Nat.{ℕ, zero, suc, ◌+◌, ◌<◌, ◌≤◌}
use lib.Dec.{T, eqb, leb}
use lib.ListN.{length, get_or}
use Rattle.telling.specs.Tells.{Tells}
use Rattle.telling.proofs.Telling.{is_and, is_not, is_eq, is_le}
use Rattle.refusal.specs.Heading.{version, Known}
use Rattle.nodes.specs.declared.Raw.{Raw}
use Rattle.nodes.specs.Operators.{none, boolean, property, base, operators, lookup, row_of, bytes, bytes_of, boolean_bytes, sequence_bytes, property_bytes}
use Rattle.nodes.specs.Nodes.{sort_at, Operand, KnownIn}
use Rattle.nodes.proofs.Fits.{Right, zero_fourth, Lower, lower, number}
use Rattle.blocks.specs.Blocks.{letter_block, next_block, until_block}
use Rattle.encoding.specs.Encoding.{blank}

-- ---- what a list of new nodes has, node by node

-- P of each node of a list, the first of which is number at + j
abbrev pub AllFrom : (ℕ → Raw → Type 0) → ℕ → ℕ → List Raw → Type 0
AllFrom P at j [] = Unit {0}
AllFrom P at j (r ∷ rs) = P (at + j) r × AllFrom P at (suc j) rs

pub all_at : (P : ℕ → Raw → Type 0) (at j : ℕ) (rs : List Raw) → AllFrom P at j rs → (i : ℕ) → i < length rs → P (at + (j + i)) (get_or rs i blank)
all_at P at j [] a i h = absurd (not-suc-le-zero h)
all_at P at j (r ∷ rs) a zero h = subst (λ (k : ℕ). P (at + k) r) (sym (add-zero j)) a.0
all_at P at j (r ∷ rs) a (suc i) h =
    subst (λ (k : ℕ). P (at + k) (get_or rs i blank)) (suc-add j i ∙ sym (add-suc j i)) (all_at P at (suc j) rs a.1 i (le_of_suc-le-suc h))

-- the bytes r are right as node q of t, which is then no clock node
pub record Blocked (t : List ℕ) (q : ℕ) (r : Raw) : Type 0 where
  pub right : Right t q r
  pub block : ¬ ((row_of r.op).block ≡ 0)

-- an operator of every version with an operand x and none y, or with both, that has a block
abbrev takes : (Bool → Bool) → ℕ → Bool
takes second op =
    (not (eqb (row_of op).own none) && (leb (row_of op).first 1 && leb base (row_of op).last))
    && (not (eqb (row_of op).block 0) && (not (eqb (row_of op).x none) && second (eqb (row_of op).y none)))

-- it is known, and so in each of a table's versions
abbrev Ever : ℕ → Type 0
Ever op = (¬ ((row_of op).own ≡ none)) × (((row_of op).first ≤ 1) × (base ≤ (row_of op).last))

differs : (a b : ℕ) → Tells (not (eqb a b)) (¬ (a ≡ b))
differs a b = is_not (is_eq a b)

ever_tells : (op : ℕ) → Tells (not (eqb (row_of op).own none) && (leb (row_of op).first 1 && leb base (row_of op).last)) (Ever op)
ever_tells op = is_and (differs (row_of op).own none) (is_and (is_le (row_of op).first 1) (is_le base (row_of op).last))

module _ (t : List ℕ) (versions : Known base (version t)) (q op x : ℕ) where
  in_version : Ever op → KnownIn (row_of op) (version t)
  in_version (k, (f, l)) = (let a = versions.0 in omega arith, let b = versions.1 in omega arith)

  unary : T (takes (λ b. b) op) → Lower t q (row_of op).x x → Blocked t q (bytes op x 0)
  unary e l =
      let (k, (b, (f, g))) = (is_and (ever_tells op) (is_and (differs (row_of op).block 0) (is_and (differs (row_of op).x none) (is_eq (row_of op).y none)))).to e in
      record {
        right =
            record {
              known = k.0;
              in_version = in_version k;
              x = lower t q (row_of op).limit f l;
              y = subst (λ (sort : ℕ). Operand t q sort 1 0) (sym g) (number t q (omega arith));
              fourth = zero_fourth _;
            };
        block = b;
      }

  binary : (y : ℕ) → T (takes not op) → Lower t q (row_of op).x x → Lower t q (row_of op).y y → Blocked t q (bytes op x y)
  binary y e l m =
      let (k, (b, (f, g))) = (is_and (ever_tells op) (is_and (differs (row_of op).block 0) (is_and (differs (row_of op).x none) (differs (row_of op).y none)))).to e in
      record {
        right = record { known = k.0; in_version = in_version k; x = lower t q (row_of op).limit f l; y = lower t q 1 g m; fourth = zero_fourth _ };
        block = b;
      }

-- ---- the listed blocks, whose first node is number `at` and whose nodes have their sorts in t

abbrev pub Sorted : List ℕ → ℕ → List Raw → Type 0
Sorted t at rs = (i : ℕ) → i < length rs → sort_at t (at + i) ≡ (row_of (get_or rs i blank).op).own

module _ (t : List ℕ) (versions : Known base (version t)) (at c : ℕ) (hc : Lower t at boolean c) where
  up : (j : ℕ) {sort x : ℕ} → Lower t at sort x → Lower t (at + j) sort x
  up j f = (let l = f.0 in omega arith, f.1)

  zeroth : {sort : ℕ} → sort_at t (at + 0) ≡ sort → sort_at t at ≡ sort
  zeroth e = rw (add-zero at) at e

  pub letter_right : (b : ℕ) → Lower t at boolean b → Sorted t at (map bytes_of (letter_block at c b)) → AllFrom (Blocked t) at 0 (map bytes_of (letter_block at c b))
  unfolding row_of lookup operators bytes_of boolean_bytes sequence_bytes property_bytes
  letter_right b hb s = (
    unary t versions (at + 0) 2 c tt (up 0 hc),
    (
      binary t versions (at + 1) 3 c b tt (up 1 hc) (up 1 hb),
      (
        unary t versions (at + 2) 16 at tt (omega arith, zeroth (s 0 (omega arith))),
        (
          unary t versions (at + 3) 20 (at + 2) tt (omega arith, s 2 (omega arith)),
          (
            unary t versions (at + 4) 16 at tt (omega arith, zeroth (s 0 (omega arith))),
            (
              unary t versions (at + 5) 21 (at + 4) tt (omega arith, s 4 (omega arith)),
              (
                binary t versions (at + 6) 19 (at + 3) (at + 5) tt (omega arith, s 3 (omega arith)) (omega arith, s 5 (omega arith)),
                (
                  unary t versions (at + 7) 16 (at + 1) tt (omega arith, s 1 (omega arith)),
                  (binary t versions (at + 8) 17 (at + 6) (at + 7) tt (omega arith, s 6 (omega arith)) (omega arith, s 7 (omega arith)), tt),
                ),
              ),
            ),
          ),
        ),
      ),
    ),
  )

  pub next_right : (p : ℕ) → Lower t at property p → Sorted t at (map bytes_of (next_block at c p)) → AllFrom (Blocked t) at 0 (map bytes_of (next_block at c p))
  unfolding row_of lookup operators bytes_of boolean_bytes sequence_bytes property_bytes
  next_right p hp s = (
    unary t versions (at + 0) 2 c tt (up 0 hc),
    (
      unary t versions (at + 1) 16 at tt (omega arith, zeroth (s 0 (omega arith))),
      (
        unary t versions (at + 2) 32 (at + 1) tt (omega arith, s 1 (omega arith)),
        (
          unary t versions (at + 3) 16 c tt (up 3 hc),
          (
            unary t versions (at + 4) 32 (at + 3) tt (omega arith, s 3 (omega arith)),
            (
              binary t versions (at + 5) 36 (at + 4) p tt (omega arith, s 4 (omega arith)) (up 5 hp),
              (
                binary t versions (at + 6) 39 (at + 2) (at + 5) tt (omega arith, s 2 (omega arith)) (omega arith, s 5 (omega arith)),
                (
                  unary t versions (at + 7) 38 (at + 6) tt (omega arith, s 6 (omega arith)),
                  (
                    unary t versions (at + 8) 16 c tt (up 8 hc),
                    (
                      unary t versions (at + 9) 32 (at + 8) tt (omega arith, s 8 (omega arith)),
                      (
                        binary t versions (at + 10) 36 (at + 9) (at + 7) tt (omega arith, s 9 (omega arith)) (omega arith, s 7 (omega arith)),
                        (
                          unary t versions (at + 11) 16 at tt (omega arith, zeroth (s 0 (omega arith))),
                          (
                            unary t versions (at + 12) 32 (at + 11) tt (omega arith, s 11 (omega arith)),
                            (binary t versions (at + 13) 39 (at + 12) (at + 10) tt (omega arith, s 12 (omega arith)) (omega arith, s 10 (omega arith)), tt),
                          ),
                        ),
                      ),
                    ),
                  ),
                ),
              ),
            ),
          ),
        ),
      ),
    ),
  )

  pub until_right : (p r : ℕ) → Lower t at property p → Lower t at property r → Sorted t at (map bytes_of (until_block at c p r)) → AllFrom (Blocked t) at 0 (map bytes_of (until_block at c p r))
  unfolding row_of lookup operators bytes_of boolean_bytes sequence_bytes property_bytes
  until_right p r hp hr s = (
    unary t versions (at + 0) 16 c tt (up 0 hc),
    (
      unary t versions (at + 1) 32 at tt (omega arith, zeroth (s 0 (omega arith))),
      (
        unary t versions (at + 2) 34 p tt (up 2 hp),
        (
          binary t versions (at + 3) 36 (at + 1) (at + 2) tt (omega arith, s 1 (omega arith)) (omega arith, s 2 (omega arith)),
          (
            unary t versions (at + 4) 34 (at + 3) tt (omega arith, s 3 (omega arith)),
            (
              unary t versions (at + 5) 16 c tt (up 5 hc),
              (
                unary t versions (at + 6) 32 (at + 5) tt (omega arith, s 5 (omega arith)),
                (
                  binary t versions (at + 7) 36 (at + 6) r tt (omega arith, s 6 (omega arith)) (up 7 hr),
                  (binary t versions (at + 8) 39 (at + 4) (at + 7) tt (omega arith, s 4 (omega arith)) (omega arith, s 7 (omega arith)), tt),
                ),
              ),
            ),
          ),
        ),
      ),
    ),
  )
