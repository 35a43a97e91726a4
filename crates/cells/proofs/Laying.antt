-- A workspace, told word by word, and a word, told by its places. Assumes nothing.
use mathlib.Core.Path.{◌≡◌, refl, sym, ap₂, ◌∙◌}
use mathlib.Core.Bool.{Bool}
use mathlib.Core.List.{List, [], ◌∷◌, ◌++◌}
use mathlib.Core.Logic.{◌⊎◌, inl, inr, ⊎_elim}
use Prim.Native.Nat.{ℕ, zero, suc, ◌+◌, ◌*◌, ◌-◌, ◌^◌, ◌<◌, ◌≤◌}
use native.Mathlib.Nat.{not-suc-le-zero, eq-or-lt_of_le, le_of_suc-le-suc}
use native.Mathlib.Numerals.{add-one}
use native.Mathlib.Omega.{arith}
use lib.ListN.{length, get_or, take, drop, length-append, length-take, length-drop, take-append-drop, length-set, set, get_or-append}
use lib.Seq.{length-take-le, get_or_at, get_or-set_same, get_or-set_other, get_or-take, get_or-drop, take-add, ext_get_or}
use Rattle.positions.specs.Member.{Is}
use Rattle.positions.proofs.Laws.{collected}
use Rattle.cells.specs.Shares.{share, longest, bit_in, HasRow}
use Rattle.cells.specs.Stored.{tab, set64, with_row, Stored}

-- a word by its places
pub word_is : (w : ℕ) (f : ℕ → Bool) → w < 2 ^ 64 → Is w f → w ≡ set64 f
word_is w f h e = collected 64 w f h (λ k l. e k)

-- ---- the first n values of f

pub length-tab : (f : ℕ → ℕ) (n : ℕ) → length (tab f n) ≡ n
unfolding tab
length-tab f zero = refl
length-tab f (suc n) = rw (length-append, length-tab f n) (omega arith)

pub get_or-tab : (f : ℕ → ℕ) (n i : ℕ) → i < n → get_or (tab f n) i 0 ≡ f i
unfolding tab
get_or-tab f zero i h = absurd (not-suc-le-zero h)
get_or-tab f (suc n) i h =
    ⊎_elim
    (λ e. rw e (get_or_at (tab f n) (f n) [] 0 n (length-tab f n)))
    (λ l. rw (get_or-append (tab f n) (f n ∷ []) 0 i (rw length-tab l)) (get_or-tab f n i l))
    (eq-or-lt_of_le (le_of_suc-le-suc h))

-- ---- lists as long as each other that agree below m, or from m on

pub take_same : (m : ℕ) (d out : List ℕ) → length out ≡ length d → ((j : ℕ) → j < m → get_or out j 0 ≡ get_or d j 0) → take m out ≡ take m d
take_same m d out l h =
    ext_get_or 0 (take m out) (take m d) (rw (length-take, length-take, l))
    (λ i u. let v : i < m = omega (arith, length-take m out) in get_or-take m out i 0 v ∙ h i v ∙ sym (get_or-take m d i 0 v))

drop_same : (m : ℕ) (d out : List ℕ) → length out ≡ length d → ((j : ℕ) → m ≤ j → get_or out j 0 ≡ get_or d j 0) → drop m out ≡ drop m d
drop_same m d out l h =
    ext_get_or 0 (drop m out) (drop m d) (rw (length-drop, length-drop, l)) (λ i u. get_or-drop m out i 0 ∙ h (m + i) (omega arith) ∙ sym (get_or-drop m d i 0))

-- the rows below share k, lent as a slice
pub below-share : (d : List ℕ) (k : ℕ) → HasRow (length d) k → share * k ≡ length (take (share * k) d)
below-share d k h = sym (length-take-le (share * k) d (omega arith))

-- the words of row b, lent as a slice that begins there
pub row_words : (rows : List ℕ) (b n : ℕ) → HasRow (length rows) b → n ≤ longest → (m : ℕ) → m ≤ n → Is (get_or (take (length rows - share * b) (drop (share * b) rows)) m 0) (bit_in rows b m)
row_words rows b n r short m u j = rw (get_or-take (length rows - share * b) (drop (share * b) rows) m 0 (omega arith), get_or-drop (share * b) rows m 0)

-- ---- a workspace that differs from d in share k alone, where word i is f i

pub with_row_is : (d out : List ℕ) (k : ℕ) (f : ℕ → ℕ) → share * k + share ≤ length d → length out ≡ length d
    → ((i : ℕ) → i < share → get_or out (share * k + i) 0 ≡ f i)
    → ((j : ℕ) → (j < share * k) ⊎ (share * k + share ≤ j) → get_or out j 0 ≡ get_or d j 0) → out ≡ with_row d k (tab f share)
unfolding with_row
with_row_is d out k f fits long own others =
    sym (take-append-drop (share * k + share) out)
    ∙ ap₂ ◌++◌
    (take-add (share * k) share out ∙ ap₂ ◌++◌ (take_same (share * k) d out long (λ j h. others j (inl h))) row)
    (drop_same (share * k + share) d out long (λ j h. others j (inr h)))
  where
    row : take share (drop (share * k) out) ≡ tab f share
    row =
        ext_get_or 0 (take share (drop (share * k) out)) (tab f share) (rw (length-take, length-drop, length-tab) (omega arith))
        (λ i u. let v : i < share = omega (arith, length-take share (drop (share * k) out)) in get_or-take share (drop (share * k) out) i 0 v ∙ get_or-drop (share * k) out i 0 ∙ own i v ∙ sym (get_or-tab f share i v))

-- ---- words stored one after the other, up or down

module _ (P : ℕ → ℕ → Type 0) (d : List ℕ) (at : ℕ) where
  pub stored_none : (i : ℕ) → Stored P d at i i d
  stored_none i = record { long = refl; there = λ m u v. absurd (omega arith); stay = λ j h. refl }

  module _ (from to i v : ℕ) (ws : List ℕ) (w : Stored P d at from to ws) (p : P i v) (l : at + i < length d) where
    -- word i is stored besides: it lies next to those that are
    stored_more : (from' to' : ℕ) → from' ≤ i → i < to' → from' ≤ from → to ≤ to'
        → ((m : ℕ) → from' ≤ m → m < to' → (m ≡ i) ⊎ ((from ≤ m) × (m < to) × ¬ (m ≡ i))) → Stored P d at from' to' (set ws (at + i) v)
    stored_more from' to' u₁ u₂ u₃ u₄ next =
        record {
          long = length-set ws (at + i) v ∙ w.long;
          there = λ m a b. ⊎_elim (λ e. rw (e, get_or-set_same ws (at + i) v 0 (omega (arith, w.long))) p) (λ (g : (from ≤ m) × (m < to) × ¬ (m ≡ i)). rw (get_or-set_other ws (at + i) (at + m) v 0 (λ z. g.2 (omega arith))) (w.there m g.0 g.1)) (next m a b);
          stay = λ j h. get_or-set_other ws (at + i) j v 0 (λ z. ⊎_elim (λ (g : j < at + from'). omega arith) (λ (g : at + to' ≤ j). omega arith) h) ∙ w.stay j (⊎_elim (λ (g : j < at + from'). inl (omega arith)) (λ (g : at + to' ≤ j). inr (omega arith)) h);
        }

    pub stored_up : from ≤ i → to ≡ i → Stored P d at from (i + 1) (set ws (at + i) v)
    stored_up h e = stored_more from (i + 1) h (omega arith) (omega arith) (omega arith) (λ m a b. side_up m a (eq-or-lt_of_le (le_of_suc-le-suc (rw add-one at b))))
      where
        side_up : (m : ℕ) → from ≤ m → (m ≡ i) ⊎ (m < i) → (m ≡ i) ⊎ ((from ≤ m) × (m < to) × ¬ (m ≡ i))
        side_up m a (inl q) = inl q
        side_up m a (inr q) = inr (a, omega arith, λ z. omega arith)

    pub stored_down : i < to → from ≡ i + 1 → Stored P d at i to (set ws (at + i) v)
    stored_down h e = stored_more i to (omega arith) h (omega arith) (omega arith) (λ m a b. side_down m b (eq-or-lt_of_le a))
      where
        side_down : (m : ℕ) → m < to → (i ≡ m) ⊎ (i < m) → (m ≡ i) ⊎ ((from ≤ m) × (m < to) × ¬ (m ≡ i))
        side_down m b (inl q) = inl (sym q)
        side_down m b (inr q) = inr (omega arith, b, λ z. omega arith)

pub stored_upto : (P : ℕ → ℕ → Type 0) (d : List ℕ) (at from to i : ℕ) (ws : List ℕ) → to ≡ i → Stored P d at from i ws → Stored P d at from to ws
stored_upto P d at from to i ws e w = rw e w

pub stored_as : (P Q : ℕ → ℕ → Type 0) (d : List ℕ) (at from to : ℕ) (ws : List ℕ) → ((m x : ℕ) → P m x → Q m x) → Stored P d at from to ws → Stored Q d at from to ws
stored_as P Q d at from to ws f w = record { long = w.long; there = λ m u v. f m _ (w.there m u v); stay = w.stay }

-- the shares below are as they were
pub rows_stored : (P : ℕ → ℕ → Type 0) (d : List ℕ) (k from to : ℕ) (ws : List ℕ) → Stored P d (share * k) from to ws → take (share * k) ws ≡ take (share * k) d
rows_stored P d k from to ws w = take_same (share * k) d ws w.long (λ j h. w.stay j (inl (omega arith)))
