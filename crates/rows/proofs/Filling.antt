-- The whole workspace: a node's row laid in, the rows of all nodes one after the other, and a row read back. Assumes nothing.
use mathlib.Core.Path.{◌≡◌, refl, sym, ap, ◌∙◌}
use mathlib.Core.Bool.{false}
use mathlib.Core.List.{List, ◌++◌}
use mathlib.Core.Logic.{◌⊎◌, inl, inr, ⊎_elim}
use Prim.Native.Nat.{ℕ, zero, suc, ◌+◌, ◌*◌, ◌-◌, ◌^◌, ◌<◌, ◌≤◌}
use native.Mathlib.Nat.{add-zero, not-suc-le-zero, eq-or-lt_of_le, le_of_suc-le-suc}
use native.Mathlib.Numerals.{add-one}
use native.Mathlib.Omega.{arith}
use borrow.Author.Tests.{ne_eqb}
use lib.ListN.{length, get_or, take, drop, set, length-append, length-drop, length-set, get_or-append}
use lib.Seq.{take_at, get_or-append-add, get_or-drop, get_or-set_same, get_or-set_other, drop_at, drop-drop}
use Rattle.nodes.specs.declared.Node.{Node}
use Rattle.nodes.specs.declared.Node.TheVariants.{Boolean, Property}
use Rattle.nodes.specs.declared.BooleanOp.{BooleanOp}
use Rattle.nodes.specs.declared.PropertyOp.{PropertyOp}
use Rattle.nodes.specs.Nodes.{node_at}
use Rattle.positions.specs.Member.{Is}
use Rattle.positions.proofs.Laws.{ext, has_none}
use Rattle.properties.specs.declared.Suffixes.{Suffixes}
use Rattle.cells.specs.Shares.{share}
use Rattle.cells.specs.Bits.{boolean_bit}
use Rattle.properties.specs.Shapes.{Satisfying}
use Rattle.cells.specs.Stored.{tab, with_row, None, Stored}
use Rattle.rows.specs.Rows.{three_words, three_row, node_word, node_row, rows_of, filled}
use Rattle.cells.proofs.Laying.{word_is, length-tab, get_or-tab, with_row_is}

-- ---- a row of three words

-- the first three words of share k are written, and the others made 0
pub three_row_is : (d out : List ℕ) (k u v w : ℕ) → share * k + share ≤ length d
    → Stored None (set (set (set d (share * k) u) (share * k + 1) v) (share * k + 2) w) (share * k) 3 share out
    → out ≡ with_row d k (tab (three_words u v w) share)
three_row_is d out k u v w fits c = with_row_is d out k (three_words u v w) fits (c.long ∙ simp length-set) own others
  where
    one : List ℕ
    one = set d (share * k) u

    two : List ℕ
    two = set one (share * k + 1) v

    -- a word that none of the three is
    stays : (j : ℕ) → ¬ (j ≡ share * k) → ¬ (j ≡ share * k + 1) → ¬ (j ≡ share * k + 2) → get_or (set two (share * k + 2) w) j 0 ≡ get_or d j 0
    stays j x y z = get_or-set_other two (share * k + 2) j w 0 z ∙ get_or-set_other one (share * k + 1) j v 0 y ∙ get_or-set_other d (share * k) j u 0 x

    own : (i : ℕ) → i < share → get_or out (share * k + i) 0 ≡ three_words u v w i
    own zero h =
        ap (λ j. get_or out j 0) (add-zero (share * k)) ∙ c.stay (share * k) (inl (omega arith)) ∙ get_or-set_other two (share * k + 2) (share * k) w 0 (λ z. omega arith)
        ∙ get_or-set_other one (share * k + 1) (share * k) v 0 (λ z. omega arith) ∙ get_or-set_same d (share * k) u 0 (omega arith)
    own (suc zero) h =
        c.stay (share * k + 1) (inl (omega arith)) ∙ get_or-set_other two (share * k + 2) (share * k + 1) w 0 (λ z. omega arith)
        ∙ get_or-set_same one (share * k + 1) v 0 (simp length-set (omega arith))
    own (suc (suc zero)) h =
        c.stay (share * k + 2) (inl (omega arith)) ∙ get_or-set_same two (share * k + 2) w 0 (simp length-set (omega arith))
    own (suc (suc (suc i))) h =
        let j = suc (suc (suc i)) in
        c.there j (omega arith) (omega arith)
        ∙ sym (rw (ne_eqb j 0 (λ z. omega arith), ne_eqb j 1 (λ z. omega arith), ne_eqb j 2 (λ z. omega arith)))

    others : (j : ℕ) → (j < share * k) ⊎ (share * k + share ≤ j) → get_or out j 0 ≡ get_or d j 0
    others j h =
        ⊎_elim
        (λ (g : j < share * k). c.stay j (inl (omega arith)) ∙ stays j (λ z. omega arith) (λ z. omega arith) (λ z. omega arith))
        (λ (g : share * k + share ≤ j). c.stay j (inr g) ∙ stays j (λ z. omega arith) (λ z. omega arith) (λ z. omega arith))
        h

-- ---- the rows of the three sorts

pub boolean_row_is : (d xs out : List ℕ) (k : ℕ) (op : BooleanOp) (node : Node) (u v w : ℕ) → node ≡ Boolean op → u < 2 ^ 64
    → Is u (boolean_bit (take (share * k) d) xs op) → Is v (λ k. false) → Is w (λ k. false) → out ≡ with_row d k (tab (three_words u v w) share)
    → out ≡ with_row d k (node_row (take (share * k) d) xs node)
unfolding node_row
boolean_row_is d xs out k op node u v w en hu eu ev ew e =
    rw (en, e, word_is u (boolean_bit (take (share * k) d) xs op) hu eu, ext v 0 (λ k. ev k ∙ sym (has_none k)), ext w 0 (λ k. ew k ∙ sym (has_none k)))

pub property_row_is : (d xs out : List ℕ) (k : ℕ) (op : PropertyOp) (node : Node) (r : Suffixes) → node ≡ Property op
    → r.neutral.bits < 2 ^ 64 → r.weak.bits < 2 ^ 64 → r.strong.bits < 2 ^ 64 → Satisfying (take (share * k) d) (length xs) op r
    → out ≡ with_row d k (three_row r)
    → out ≡ with_row d k (node_row (take (share * k) d) xs node)
unfolding node_row
property_row_is d xs out k op node r en hu hv hw q e =
    rw (en, e, word_is _ _ hu q.neutral, word_is _ _ hv q.weak, word_is _ _ hw q.strong)

-- ---- the rows of the nodes below k

length_row : (rows xs : List ℕ) (node : Node) → length (node_row rows xs node) ≡ share
unfolding node_row
length_row rows xs node = length-tab _ share

length_rows : (s xs : List ℕ) (k : ℕ) → length (rows_of s xs k) ≡ share * k
unfolding rows_of
length_rows s xs zero = refl
length_rows s xs (suc k) = rw (length-append, length_rows s xs k, length_row) (omega arith)

pub filled_zero : (s xs d : List ℕ) → d ≡ filled s xs d 0
unfolding filled rows_of
filled_zero s xs d = refl

filled-take : (s xs d ws : List ℕ) (k : ℕ) → ws ≡ filled s xs d k → take (share * k) ws ≡ rows_of s xs k
unfolding filled
filled-take s xs d ws k e = rw e (take_at (rows_of s xs k) (drop (share * k) d) (share * k) (length_rows s xs k))

-- a turn of the loop over the nodes: one more row
pub filled-step : (s xs d : List ℕ) (k : ℕ) (ws out : List ℕ) (node : Node) → ws ≡ filled s xs d k → node ≡ node_at s k
    → out ≡ with_row ws k (node_row (take (share * k) ws) xs node) → out ≡ filled s xs d (k + 1)
unfolding filled rows_of with_row
filled-step s xs d k ws out node e en eo =
    let R : List ℕ = rows_of s xs k in
    let h1 : take (share * k) ws ≡ R = filled-take s xs d ws k e in
    let h2 : drop (share * k) ws ≡ drop (share * k) d = rw e (drop_at R (drop (share * k) d) (share * k) (length_rows s xs k)) in
    let h3 : drop (share * k + share) ws ≡ drop (share * k + share) d = rw (← drop-drop share (share * k) ws, h2) (drop-drop share (share * k) d) in
    let h4 : share * (k + 1) ≡ share * k + share = omega arith in
    rw (eo, h1, h3, en, h4, add-one k)

-- ---- reading a row back: word i of row a

past : (p q : List ℕ) (n i : ℕ) → length p ≡ n → get_or (p ++ q) (n + i) 0 ≡ get_or q i 0
past p q n i h = rw (← h) (get_or-append-add p q i 0)

pub row_at : (s xs : List ℕ) (k a i : ℕ) → a < k → i < share → get_or (rows_of s xs k) (share * a + i) 0 ≡ node_word (rows_of s xs a) xs (node_at s a) i
unfolding rows_of node_row
row_at s xs zero a i ha hi = absurd (not-suc-le-zero ha)
row_at s xs (suc k) a i ha hi =
    ⊎_elim
    (λ e. rw e (past (rows_of s xs k) _ (share * k) i (length_rows s xs k) ∙ get_or-tab (node_word (rows_of s xs k) xs (node_at s k)) share i hi))
    (λ (l : a < k). get_or-append (rows_of s xs k) _ 0 (share * a + i) (rw length_rows (omega arith)) ∙ row_at s xs k a i l hi)
    (eq-or-lt_of_le (le_of_suc-le-suc ha))

pub filled_row : (s xs d : List ℕ) (m a i : ℕ) → a < m → i < share → get_or (filled s xs d m) (share * a + i) 0 ≡ get_or (rows_of s xs m) (share * a + i) 0
unfolding filled
filled_row s xs d m a i ha hi = get_or-append (rows_of s xs m) _ 0 (share * a + i) (rw length_rows (omega arith))

pub filled-rest : (s xs d : List ℕ) (m j : ℕ) → share * m ≤ j → get_or (filled s xs d m) j 0 ≡ get_or d j 0
unfolding filled
filled-rest s xs d m j h =
    let e : share * m + (j - share * m) ≡ j = omega arith in
    rw (← e) (past (rows_of s xs m) (drop (share * m) d) (share * m) (j - share * m) (length_rows s xs m) ∙ get_or-drop (share * m) d (j - share * m) 0)

pub length-filled : (s xs d : List ℕ) (m : ℕ) → share * m ≤ length d → length (filled s xs d m) ≡ length d
unfolding filled
length-filled s xs d m h = rw (length-append, length_rows, length-drop) (omega arith)
