-- Which operators a version knows, by their numbers: version 1 those of document 01, version 2 the rising and falling signals of document 02 besides,
-- version 3 its derived operators besides.
-- Assumes nothing.
use native.Mathlib.Omega.{arith}
use mathlib.Core.Path.{◌≡◌}
use mathlib.Core.Logic.{◌⊎◌, ⊎_elim, ◌↔◌}
use mathlib.Core.Bool.{Bool, not, ◌&&◌, ◌||◌}
use Prim.Native.Nat.{ℕ, ◌<◌, ◌≤◌}
use lib.Dec.{T, eqb, leb}
use Rattle.telling.specs.Tells.{Tells, every}
use Rattle.telling.proofs.Telling.{is_and, is_or, is_not, is_eq, is_le, is_imp, is_every}
use Rattle.nodes.specs.Operators.{none, operators, lookup, row_of}
use Rattle.nodes.specs.Nodes.{KnownIn}
use Rattle.nodes.proofs.Lookup.{line_of}

-- the operator op is known in the version v
abbrev pub KnownAt : ℕ → ℕ → Type 0
KnownAt v op = (¬ ((row_of op).own ≡ none)) × KnownIn (row_of op) v

-- the numbers of the page: booleans 0 to b, sequences 16 to q, properties 32 to p
abbrev pub Page : ℕ → ℕ → ℕ → ℕ → Type 0
Page b q p op = (op ≤ b) ⊎ (((16 ≤ op) × (op ≤ q)) ⊎ ((32 ≤ op) × (op ≤ p)))

is_page : ℕ → ℕ → ℕ → ℕ → Bool
is_page b q p op = leb op b || ((leb 16 op && leb op q) || (leb 32 op && leb op p))

page_tells : (b q p op : ℕ) → Tells (is_page b q p op) (Page b q p op)
unfolding is_page
page_tells b q p op = is_or (is_le op b) (is_or (is_and (is_le 16 op) (is_le op q)) (is_and (is_le 32 op) (is_le op p)))

is_known_at : ℕ → ℕ → Bool
is_known_at v op = not (eqb (row_of op).own none) && (leb (row_of op).first v && leb v (row_of op).last)

known_tells : (v op : ℕ) → Tells (is_known_at v op) (KnownAt v op)
unfolding is_known_at
known_tells v op = is_and (is_not (is_eq (row_of op).own none)) (is_and (is_le (row_of op).first v) (is_le v (row_of op).last))

-- the two tests agree
agree : ℕ → ℕ → ℕ → ℕ → ℕ → Bool
agree v b q p op = (not (is_known_at v op) || is_page b q p op) && (not (is_page b q p op) || is_known_at v op)

-- antt computes them for all numbers of the page, and no known operator is past those
module _ (v b q p : ℕ) (low : (b ≤ 47) × (q ≤ 47) × (p ≤ 47)) (computed : T (every (agree v b q p) 0 48)) where
  within : (op : ℕ) → op < 48 → (KnownAt v op → Page b q p op) × (Page b q p op → KnownAt v op)
  unfolding agree
  within op l =
      (is_every 0 48 (λ op u w. is_and (is_imp (known_tells v op) (page_tells b q p op)) (is_imp (page_tells b q p op) (known_tells v op)))).to computed op (omega arith)
      (omega arith)

  known_low : (op : ℕ) → KnownAt v op → op < 48
  unfolding operators
  known_low op k =
      let (e, r, o, t) = line_of (λ e. leb e.code 47) tt op k.0 in
      let l = (is_le e.code 47).to t in
      omega arith

  page_low : (op : ℕ) → Page b q p op → op < 48
  page_low op =
      let (lb, lq, lp) = low in
      ⊎_elim (λ (l : op ≤ b). omega arith) (⊎_elim (λ h. let l = h.1 in omega arith) (λ h. let l = h.1 in omega arith))

  knows : (op : ℕ) → KnownAt v op ↔ Page b q p op
  knows op = (λ k. (within op (known_low op k)).0 k, λ p. (within op (page_low op p)).1 p)

pub version_one_operators : (op : ℕ) → KnownAt 1 op ↔ Page 4 22 40 op
unfolding every agree is_known_at is_page row_of lookup operators
version_one_operators = knows 1 4 22 40 (omega arith, omega arith, omega arith) tt

pub version_two_operators : (op : ℕ) → KnownAt 2 op ↔ Page 6 22 40 op
unfolding every agree is_known_at is_page row_of lookup operators
version_two_operators = knows 2 6 22 40 (omega arith, omega arith, omega arith) tt

pub version_three_operators : (op : ℕ) → KnownAt 3 op ↔ Page 6 26 47 op
unfolding every agree is_known_at is_page row_of lookup operators
version_three_operators = knows 3 6 26 47 (omega arith, omega arith, omega arith) tt
