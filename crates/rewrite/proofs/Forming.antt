-- Every node of the rewritten table is well formed, and none is a clock node. Assumes nothing.
use native.Mathlib.Omega.{arith}
use native.Mathlib.Nat.{add-zero}
use borrow.Author.Tests.{eqb-false, ne_eqb}
use mathlib.Core.Path.{◌≡◌, refl, ◌∙◌, sym, ap, subst}
use mathlib.Core.Logic.{⊎_elim}
use mathlib.Core.Bool.{true, false, true≢false}
use mathlib.Core.List.{List}
use Prim.Native.Nat.{ℕ, ◌+◌, ◌<◌, ◌≤◌}
use lib.Dec.{eqb}
use lib.ListN.{length, get_or}
use Rattle.telling.proofs.Telling.{side}
use Rattle.refusal.specs.Heading.{version, count, Known}
use Rattle.nodes.specs.declared.Raw.{Raw}
use Rattle.nodes.specs.Operators.{none, boolean, sequence, property, base, operators, lookup, row_of}
use Rattle.nodes.specs.Nodes.{raw_at, row_at, sort_at, Operand, KnownIn, WellFormed}
use Rattle.nodes.specs.NodeClock.{Ref, on_r}
use Rattle.nodes.proofs.Built.{Built}
use Rattle.nodes.proofs.Placing.{fine_row}
use Rattle.nodes.proofs.Fits.{right_fit, zero_fourth, Lower}
use Rattle.clocks.specs.Clocks.{Clocks, is_clock}
use Rattle.clocks.proofs.Timing.{clock_boolean}
use Rattle.numbers.specs.Numbers.{is_boolean, new_count, start_of, number_of}
use Rattle.encoding.specs.Moved.{moved, moved_node}
use Rattle.encoding.specs.Encoding.{blank}
use Rattle.encoding.proofs.Renumbering.{operand_moved}
use Rattle.blocks.proofs.Viewing.{none_is, single_is, letter_is, next_is, until_is, View, of_none, of_single, of_letter, of_next, of_until, view}
use Rattle.writing.specs.Tables.{block_of, new_table}
use Rattle.rewrite.proofs.Cells.{version_new, cell_at, cell_sort, stands_sort}
use Rattle.rewrite.proofs.Ordering.{other_is, boolean_before, other_before, found}
use Rattle.rewrite.proofs.Fitting.{AllFrom, all_at, Blocked, Sorted, letter_right, next_right, until_right}

module _ (s : List ℕ) (ok : Built s) (known : Known base (version s)) (clock : ℕ → Ref) (right : Clocks s clock) where
  abbrev t : List ℕ
  t = new_table s clock

  abbrev ν : ℕ → ℕ
  ν = number_of s clock

  same_version : version t ≡ version s
  same_version = version_new s clock (let l = ok.long in omega arith)

  pub versions : Known base (version t)
  versions = subst (Known base) (sym same_version) known

  module _ (k : ℕ) (h : k < count s) where
    abbrev at : ℕ
    at = start_of s clock k

    abbrev raw : Raw
    raw = raw_at s k

    -- ---- the operands of k by their new numbers, and its clock

    boolean_lower : (x : ℕ) → x < count s → sort_at s x ≡ boolean → (is_boolean s k ≡ true → x < k) → Lower t at boolean (ν x)
    boolean_lower x l e g = (boolean_before s clock ok.fit k h x l e g, stands_sort s clock ok.fit x l ∙ e)

    other_lower : (x sort : ℕ) → x < k → sort_at s x ≡ sort → sequence ≤ sort → sequence ≤ sort_at s k → Lower t at sort (ν x)
    other_lower x sort l e g u = (other_before s clock ok.fit k h x l (omega arith) u, stands_sort s clock ok.fit x (omega arith) ∙ e)

    operand_lower : (x sort : ℕ) → ¬ (sort ≡ none) → x < k → sort_at s x ≡ sort → (sequence ≤ sort → sequence ≤ sort_at s k) → Lower t at sort (ν x)
    operand_lower x sort z l e u =
        ⊎_elim
        (λ (b : sort < sequence). let q : boolean ≡ sort = omega arith in subst (λ (o : ℕ). Lower t at o (ν x)) q (boolean_lower x (omega arith) (omega arith) (λ _. l)))
        (λ (b : sequence ≤ sort). other_lower x sort l e b (u b))
        (side sort sequence)

    operand_new : (sort limit v : ℕ) → Operand s k sort limit v → (sequence ≤ sort → sequence ≤ sort_at s k) → Operand t at sort limit (moved ν sort v)
    operand_new sort limit v o u = operand_moved ν s t k at sort limit v o (λ z. operand_lower v sort z (o.below z) (o.sorted z) u)

    -- ---- a node that is copied

    copied_right : eqb (row_at s k).block 0 ≡ false → Blocked t at (moved_node ν raw)
    unfolding moved_node sort_at
    copied_right e =
        let w = ok.fit k h in
        record {
          right =
              record {
                known = w.known;
                in_version = subst (KnownIn (row_at s k)) (sym same_version) w.in_version;
                x = operand_new (row_at s k).x (row_at s k).limit raw.x w.x (fine_row raw.op).1;
                y = operand_new (row_at s k).y 1 raw.y w.y (fine_row raw.op).2;
                fourth = zero_fourth _;
              };
          block = eqb-false (row_at s k).block 0 e;
        }

    -- ---- a block of its own

    sorts : (us : List Raw) → block_of s clock k ≡ us → Sorted t at us
    sorts us e = subst (λ (us : List Raw). (i : ℕ) → i < length us → sort_at t (at + i) ≡ (row_of (get_or us i blank).op).own) e (λ i l. cell_sort s clock ok.fit k i h l)

    module _ (c : ℕ) (ec : clock k ≡ on_r c) where
      -- of an operator whose row is known
      module _ (op : ℕ) (eo : raw.op ≡ op) (u : sequence ≤ (row_of op).own) where
        upper : sequence ≤ sort_at s k
        unfolding sort_at
        upper = subst (λ (o : ℕ). sequence ≤ (row_of o).own) (sym eo) u

        condition : Lower t at boolean (ν c)
        condition =
            let (l, b) = clock_boolean s ok clock right k c ec in
            boolean_lower c l b (λ e. absurd (true≢false (sym e ∙ other_is s k upper)))

        operand_of : {place limit v sort : ℕ} → Operand s k place limit v → place ≡ sort → ¬ (sort ≡ none) → Lower t at sort (ν v)
        operand_of {v = v} {sort = sort} o q z = operand_lower v sort z (o.below (λ y. z (sym q ∙ y))) (o.sorted (λ y. z (sym q ∙ y)) ∙ q) (λ _. upper)

        operand_x_lem : (sort : ℕ) → (row_of op).x ≡ sort → ¬ (sort ≡ none) → Lower t at sort (ν raw.x)
        operand_x_lem sort e = operand_of (ok.fit k h).x (ap (λ (o : ℕ). (row_of o).x) eo ∙ e)

        operand_y_lem : (sort : ℕ) → (row_of op).y ≡ sort → ¬ (sort ≡ none) → Lower t at sort (ν raw.y)
        operand_y_lem sort e = operand_of (ok.fit k h).y (ap (λ (o : ℕ). (row_of o).y) eo ∙ e)

    -- ---- any

    abbrev All : List Raw → Type 0
    All = AllFrom (Blocked t) at 0

    block_all : All (block_of s clock k)
    unfolding row_of lookup operators
    block_all = go (view (clock k) raw.op)
      where
        go : View (clock k) raw.op → All (block_of s clock k)
        go (of_none z) = subst All (sym (none_is ν (clock k) at raw z)) tt
        go (of_single z q) =
            subst All (sym (single_is ν (clock k) at raw z q)) (subst (λ (q : ℕ). Blocked t q (moved_node ν raw)) (sym (add-zero at)) (copied_right z), tt)
        go (of_letter c e o) =
            let z = letter_is ν (clock k) at raw c e o in
            subst All (sym z)
            (letter_right t versions at (ν c) (condition c e 16 o (omega arith)) (ν raw.x) (operand_x_lem c e 16 o (omega arith) boolean refl (λ y. omega arith)) (sorts _ z))
        go (of_next c e o) =
            let z = next_is ν (clock k) at raw c e o in
            subst All (sym z)
            (next_right t versions at (ν c) (condition c e 38 o (omega arith)) (ν raw.x) (operand_x_lem c e 38 o (omega arith) property refl (λ y. omega arith)) (sorts _ z))
        go (of_until c e o) =
            let z = until_is ν (clock k) at raw c e o in
            subst All (sym z)
            (until_right t versions at (ν c) (condition c e 39 o (omega arith)) (ν raw.x) (ν raw.y) (operand_x_lem c e 39 o (omega arith) property refl (λ y. omega arith))
            (operand_y_lem c e 39 o (omega arith) property refl (λ y. omega arith)) (sorts _ z))

  -- ---- the whole table

  new_right : (q : ℕ) → q < new_count s clock → Blocked t q (raw_at t q)
  new_right q l =
      let (k, i, h, a, e) = found s clock ok.fit q l in
      let r = all_at (Blocked t) (start_of s clock k) 0 (block_of s clock k) (block_all k h) i a in
      let z : start_of s clock k + (0 + i) ≡ q = omega arith in
      let c : get_or (block_of s clock k) i blank ≡ raw_at t q = sym (cell_at s clock ok.fit k i h a) ∙ ap (raw_at t) (sym e) in
      subst (λ (p : ℕ). Blocked t p (raw_at t q)) z (subst (Blocked t (start_of s clock k + (0 + i))) c r)

  pub new_fit : (q : ℕ) → q < new_count s clock → WellFormed t q
  new_fit q l = right_fit t q refl (new_right q l).right

  pub new_clockless : (q : ℕ) → q < new_count s clock → is_clock t q ≡ false
  unfolding is_clock
  new_clockless q l = ne_eqb (row_at t q).block 0 (new_right q l).block
