-- In the rewritten table each sequence or property node but the root stands in one operand place. Assumes nothing.
use native.Mathlib.Omega.{arith}
use native.Mathlib.Nat.{add-zero}
use borrow.Author.Tests.{eqb-true, eqb-false}
use mathlib.Core.Path.{◌≡◌, refl, ◌∙◌, sym, ap}
use mathlib.Core.Bool.{Bool, true, false, not, cond}
use mathlib.Core.List.{List, []}
use Prim.Native.Nat.{ℕ, zero, suc, ◌+◌, ◌-◌, ◌<◌, ◌≤◌}
use lib.Dec.{eqb}
use lib.ListN.{get_or}
use Rattle.refusal.specs.Heading.{count}
use Rattle.nodes.specs.Operators.{boolean, sequence}
use Rattle.nodes.specs.Nodes.{raw_at, row_at, sort_at, root, places_of, uses_of}
use Rattle.nodes.specs.NodeClock.{Ref}
use Rattle.nodes.proofs.Built.{Built}
use Rattle.nodes.proofs.Placing.{ind}
use Rattle.clocks.specs.Clocks.{Clocks, is_clock}
use Rattle.clocks.proofs.Timing.{clock_boolean}
use Rattle.numbers.specs.Numbers.{sum, is_boolean, is_other, length_of, new_count, start_of, number_of}
use Rattle.numbers.proofs.Sums.{sum_same, sum_plus, sum_split}
use Rattle.numbers.proofs.Numbering.{some_under, none_under, stands_last, stands_operand}
use Rattle.encoding.specs.Encoding.{blank}
use Rattle.writing.specs.Tables.{block_of, laid, new_nodes, new_table}
use Rattle.writing.proofs.Lengths.{block_long, length_new}
use Rattle.rewrite.proofs.Cells.{raw_at_lem, cell_sort, stands_sort}
use Rattle.rewrite.proofs.Tallies.{uses_sum, held_by, held_once}
use Rattle.rewrite.proofs.Tiling.{within, in_one, more_within}
use Rattle.rewrite.proofs.Hits.{hits_by, hits_in, inner, hits_append, hits_sum, under_hits}

module _ (s : List ℕ) (clock : ℕ → Ref) (q : ℕ) where
  -- the places of the blocks of those nodes below k that pass the test
  laid_hits : (test : ℕ → Bool) (k : ℕ) → hits_in q (laid s clock test k) ≡ sum (λ j. cond (test j) (hits_in q (block_of s clock j)) 0) k
  unfolding laid sum hits_in
  laid_hits test zero = refl
  laid_hits test (suc k) =
      hits_append q (laid s clock test k) (cond (test k) (block_of s clock k) [])
      ∙ (let e = laid_hits test k in let p = go (test k) in omega arith)
    where
      go : (b : Bool) → hits_in q (cond b (block_of s clock k) []) ≡ cond b (hits_in q (block_of s clock k)) 0
      go true = refl
      go false = refl

  -- the blocks of all nodes
  new_hits : hits_in q (new_nodes s clock) ≡ sum (λ k. hits_in q (block_of s clock k)) (count s)
  new_hits =
      let a = hits_append q (laid s clock (is_boolean s) (count s)) (laid s clock (is_other s) (count s)) in
      let b = laid_hits (is_boolean s) (count s) in
      let d = laid_hits (is_other s) (count s) in
      let e = sum_split (λ k. hits_in q (block_of s clock k)) (is_boolean s) (count s) in
      omega arith

module _ (s : List ℕ) (ok : Built s) (clock : ℕ → Ref) (right : Clocks s clock) where
  abbrev t : List ℕ
  t = new_table s clock

  abbrev at : ℕ → ℕ
  at = start_of s clock

  abbrev long : ℕ → ℕ
  long = length_of s clock

  uses_hits : (q : ℕ) → uses_of t q (new_count s clock) ≡ sum (λ k. hits_in q (block_of s clock k)) (count s)
  unfolding hits_by
  uses_hits q =
      uses_sum t q (new_count s clock)
      ∙ sum_same (places_of t q) (λ j. hits_by q (get_or (new_nodes s clock) j blank)) (new_count s clock) (λ j l. ap (hits_by q) (raw_at_lem s clock ok.fit j l))
      ∙ ap (sum (λ j. hits_by q (get_or (new_nodes s clock) j blank))) (sym (length_new s clock ok.fit))
      ∙ hits_sum q (new_nodes s clock)
      ∙ new_hits s clock q

  module _ (q : ℕ) (high : sequence ≤ sort_at t q) where
    -- q stands for x
    abbrev stands_for : ℕ → Bool
    stands_for x = eqb (number_of s clock x) q

    -- a boolean is not q
    off : (x : ℕ) → sort_at t x ≡ boolean → ind (eqb x q) ≡ 0
    off x e = go (eqb x q) refl
      where
        go : (b : Bool) → eqb x q ≡ b → ind b ≡ 0
        go true z = let f : sort_at t q ≡ boolean = ap (sort_at t) (sym (eqb-true x q z)) ∙ e in absurd (omega arith)
        go false z = refl

    -- each block's places: one for each of its own nodes but the last, and those of its node
    block_hits : (k : ℕ) → k < count s → hits_in q (block_of s clock k) ≡ inner (at k) (long k) q + cond (not (is_clock s k)) (held_by s stands_for k) 0
    unfolding is_clock
    block_hits k h =
        under_hits q (number_of s clock) (at k) (raw_at s k) (clock k)
        (λ c e. let (l, b) = clock_boolean s ok clock right k c e in off (number_of s clock c) (stands_sort s clock ok.fit c l ∙ b))
        (λ i l b. off (at k + i) (cell_sort s clock ok.fit k i h l ∙ b))
        ∙ ap (λ (l : ℕ). inner (at k) l q + cond (not (is_clock s k)) (held_by s stands_for k) 0) (block_long s clock ok.fit k h)

    -- the node that stands for k is the last of its block
    last_in : (k : ℕ) → k < count s → inner (at k) (long k) q + cond (not (is_clock s k)) (ind (stands_for k)) 0 ≡ ind (within (at k) (long k) q)
    unfolding is_clock
    last_in k h = go (is_clock s k) refl
      where
        go : (b : Bool) → is_clock s k ≡ b → inner (at k) (long k) q + cond (not b) (ind (stands_for k)) 0 ≡ ind (within (at k) (long k) q)
        go true e =
            let z : long k ≡ 0 = none_under (clock k) (row_at s k).block (eqb-true (row_at s k).block 0 e) in
            ap (λ (l : ℕ). inner (at k) l q + 0) z ∙ add-zero _ ∙ ap (λ (l : ℕ). ind (within (at k) l q)) (sym z)
        go false e =
            let p = some_under (clock k) (row_at s k).block (eqb-false (row_at s k).block 0 e) in
            let z : suc (long k - 1) ≡ long k = omega arith in
            let y : number_of s clock k ≡ at k + (long k - 1) = stands_last s clock ok.fit k h e ∙ omega arith in
            ap (λ (x : ℕ). inner (at k) (long k) q + ind (eqb x q)) y ∙ sym (more_within (at k) (long k - 1) q) ∙ ap (λ (l : ℕ). ind (within (at k) l q)) z

    -- what q stands for is a sequence or a property
    for_high : (x : ℕ) → x < count s → stands_for x ≡ true → sequence ≤ sort_at s x
    for_high x l e =
        let o : sort_at t q ≡ sort_at s x = ap (sort_at t) (sym (eqb-true (number_of s clock x) q e)) ∙ stands_sort s clock ok.fit x l in omega arith

    for_operand : (k : ℕ) → k < count s → is_clock s k ≡ true → stands_for k ≡ stands_for (raw_at s k).y
    for_operand k l e = ap (λ (x : ℕ). eqb x q) (stands_operand s clock ok.fit k l e)

    all_once : q < new_count s clock → uses_of t q (new_count s clock) + ind (stands_for (root s)) ≡ 1
    all_once h =
        let inside : ℕ → ℕ = λ k. inner (at k) (long k) q in
        let places : ℕ → ℕ = λ k. cond (not (is_clock s k)) (held_by s stands_for k) 0 in
        let nodes : ℕ → ℕ = λ k. cond (not (is_clock s k)) (ind (stands_for k)) 0 in
        let a = uses_hits q in
        let b = sum_same (λ k. hits_in q (block_of s clock k)) (λ k. inside k + places k) (count s) block_hits in
        let c = sum_plus inside places (count s) in
        let d = held_once s ok stands_for for_high for_operand in
        let e = sum_plus inside nodes (count s) in
        let f = sum_same (λ k. inside k + nodes k) (λ k. ind (within (at k) (long k) q)) (count s) last_in in
        let g = in_one s clock q h in
        omega arith

  -- each sequence or property node but the root stands in one operand place, and the root in none
  pub uses_new : (q : ℕ) → q < new_count s clock → sequence ≤ sort_at (new_table s clock) q
      → uses_of (new_table s clock) q (new_count s clock) + cond (eqb (number_of s clock (root s)) q) 1 0 ≡ 1
  uses_new q h high = all_once q high h
