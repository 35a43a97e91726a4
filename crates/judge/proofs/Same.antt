-- Rows that mean the same tree are the same, word by word; so no second workspace has the rows of an accepted table. Assumes nothing.
use mathlib.Core.Path.{◌≡◌, refl, sym, ap, subst, ◌∙◌}
use mathlib.Core.Bool.{Bool, false}
use mathlib.Core.List.{List}
use mathlib.Core.Logic.{⊎_elim}
use Prim.Native.Nat.{ℕ, zero, suc, ◌+◌, ◌*◌, ◌/◌, ◌%◌, ◌≤◌, ◌<◌}
use native.Mathlib.Nat.{eq-or-lt_of_le, le_of_suc-le-suc}
use native.Mathlib.Omega.{arith}
use lib.ListN.{length, get_or}
use lib.Seq.{ext_get_or}
use Rattle.telling.proofs.Telling.{same_test, side}
use Rattle.positions.specs.Member.{has}
use Rattle.positions.proofs.Laws.{ext}
use Rattle.refusal.specs.Heading.{count}
use Rattle.refusal.specs.Computed.{accepted}
use Rattle.meaning.specs.Syntax.{Bexp, Seq, Prop, Clock, free}
use Rattle.meaning.specs.Words.{Tail, none, tops, bots}
use Rattle.meaning.specs.Pairs.{reading, pairs}
use Rattle.nodes.specs.declared.Node.{Node}
use Rattle.nodes.specs.declared.Node.TheVariants.{Boolean, Sequence, Property}
use Rattle.nodes.specs.Nodes.{node_at, WellFormed}
use Rattle.table.specs.Check.{Checks}
use Rattle.nodes.proofs.Shapes.{sort_of, sort_is}
use Rattle.table.proofs.Standing.{boolean_in, sequence_in, property_in}
use Rattle.table.proofs.Checking.{sound}
use Rattle.cells.specs.Shares.{share, top_word, word_in, word_of}
use Rattle.rowmeaning.specs.Rows.{BooleanRow, SequenceRow, PropertyRow}
use Rattle.judge.specs.Rows.{Filled}

-- two words that agree below n, and have no place from n on
same_word : (n : ℕ) {x y : ℕ} → ((k : ℕ) → k < n → has x k ≡ has y k) → ((k : ℕ) → n ≤ k → has x k ≡ false) → ((k : ℕ) → n ≤ k → has y k ≡ false) → x ≡ y
same_word n {x} {y} e p q = ext x y (λ k. ⊎_elim (e k) (λ u. p k u ∙ sym (q k u)) (side k n))

module _ {A S : Type 0} (reads : A → S → Bool) (xs : List S) (κ : Clock A) (f g : ℕ → ℕ) where
  same_boolean : (b : Bexp A) → BooleanRow reads xs f b → BooleanRow reads xs g b → (i : ℕ) → i < share → f i ≡ g i
  same_boolean b p q zero l = same_word (length xs) (λ k u. p.bits k u ∙ sym (q.bits k u)) p.past q.past
  same_boolean b p q (suc i) l = p.zero (suc i) (omega arith) l ∙ sym (q.zero (suc i) (omega arith) l)

  same_sequence : (r : Seq A) → SequenceRow reads xs κ f r → SequenceRow reads xs κ g r → (i : ℕ) → i < share → f i ≡ g i
  same_sequence r p q i l =
      ⊎_elim
      (λ u.
      ⊎_elim (λ e. subst (λ i. f i ≡ g i) (sym e) top) (λ v. p.zero i u v ∙ sym (q.zero i u v)) (eq-or-lt_of_le (le_of_suc-le-suc l)))
      (λ u. ext (f i) (g i) (λ j. same_test (p.ends i u j) (q.ends i u j))) (side (length xs) i)
    where
      top : f top_word ≡ g top_word
      top =
          same_word (suc (length xs)) (λ k u. same_test (p.on k (le_of_suc-le-suc u)) (q.on k (le_of_suc-le-suc u))) p.past q.past

  same_property : (P : Prop A) → PropertyRow reads xs κ f P → PropertyRow reads xs κ g P → (i : ℕ) → i < share → f i ≡ g i
  same_property P p q = go
    where
      at : (t : Tail) → f (word_of t) ≡ g (word_of t)
      at t =
          same_word (suc (length xs)) (λ k u. same_test (p.answers t k (le_of_suc-le-suc u)) (q.answers t k (le_of_suc-le-suc u))) (p.past t) (q.past t)

      go : (i : ℕ) → i < share → f i ≡ g i
      go zero l = at none
      go (suc zero) l = at tops
      go (suc (suc zero)) l = at bots
      go (suc (suc (suc i))) l = p.zero (suc (suc (suc i))) (omega arith) l ∙ sym (q.zero (suc (suc (suc i))) (omega arith) l)

-- no second workspace fits
pub filled_unique : (t xs : List ℕ) → Checks t accepted → (d out other : List ℕ) → Filled t xs d out → Filled t xs d other → out ≡ other
filled_unique t xs c d out other p q =
    ext_get_or 0 out other (p.long ∙ sym q.long) (λ j l. ⊎_elim (inside j) (λ u. p.stay j u ∙ sym (q.stay j u)) (side j (share * count t)))
  where
    fit : (k : ℕ) → k < count t → WellFormed t k
    fit = (sound t accepted c refl).formed.fit

    row : (k : ℕ) → k < count t → (v : Node) → node_at t k ≡ v → (i : ℕ) → i < share → word_in out k i ≡ word_in other k i
    row k h (Boolean o) e =
        let (b, s) = boolean_in t (count t) fit (count t) k h h (sort_is t k (fit k h) ∙ ap sort_of e) in
        same_boolean reading (pairs xs) free _ _ b (p.booleans k h b s) (q.booleans k h b s)
    row k h (Sequence o) e =
        let (r, s) = sequence_in t (count t) fit (count t) k h h (sort_is t k (fit k h) ∙ ap sort_of e) in
        same_sequence reading (pairs xs) free _ _ r (p.sequences k h r s) (q.sequences k h r s)
    row k h (Property o) e =
        let (P, s) = property_in t (count t) fit (count t) k h h (sort_is t k (fit k h) ∙ ap sort_of e) in
        same_property reading (pairs xs) free _ _ P (p.properties k h P s) (q.properties k h P s)

    inside : (j : ℕ) → j < share * count t → get_or out j 0 ≡ get_or other j 0
    inside j h =
        let k = j / share in
        let e : share * k + j % share ≡ j = omega arith in
        subst (λ j. get_or out j 0 ≡ get_or other j 0) e (row k (omega arith) (node_at t k) refl (j % share) (omega arith))
