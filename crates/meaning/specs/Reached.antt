-- What "tested" comes to, part by part: to ask a property from a position of the word w is to ask its parts, each from the positions that its operator names.
-- Assumes nothing.
use Rattle.std.specs.Prelude.{Bool, ℕ, suc, ◌≤◌, T}
use Rattle.meaning.specs.Syntax.{Bexp, Seq, Prop, strong, weak, neg, either, both, implies, next, until, under, Clock, free, on}
use Rattle.meaning.specs.Words.{Word, inside}
use Rattle.meaning.specs.Meaning.{Match, Second}
use Rattle.meaning.specs.Tested.{UpTo, Tested}

-- strong or weak
pub data Ground {A : Type 0} : Prop A → Type 0 where
  by_strong : {r : Seq A} → Ground (strong r)
  by_weak : {r : Seq A} → Ground (weak r)

module _ {A S : Type 0} (reads : A → S → Bool) (w : Word S) where
  -- to ask the one under its clock from its position is to ask the other, a part of it, under its own clock from its own position
  pub data AsksPart : Clock A → Prop A → ℕ → Clock A → Prop A → ℕ → Type 0 where
    neg_x : {κ : Clock A} {P : Prop A} {i : ℕ} → AsksPart κ (neg P) i κ P i
    either_x : {κ : Clock A} {P Q : Prop A} {i : ℕ} → AsksPart κ (either P Q) i κ P i
    either_y : {κ : Clock A} {P Q : Prop A} {i : ℕ} → AsksPart κ (either P Q) i κ Q i
    both_x : {κ : Clock A} {P Q : Prop A} {i : ℕ} → AsksPart κ (both P Q) i κ P i
    both_y : {κ : Clock A} {P Q : Prop A} {i : ℕ} → AsksPart κ (both P Q) i κ Q i
    implies_y : {κ : Clock A} {r : Seq A} {P : Prop A} {i p : ℕ} → i ≤ p → Match reads κ r w i (suc p) → AsksPart κ (implies r P) i κ P p
    next_x : {P : Prop A} {i : ℕ} → T (inside (w i)) → AsksPart free (next P) i free P (suc i)
    next_tick : {c : Bexp A} {P : Prop A} {i k : ℕ} → Second reads c w i k → AsksPart (on c) (next P) i (on c) P k
    until_x : {κ : Clock A} {P Q : Prop A} {i j : ℕ} → UpTo reads κ P Q w i j → AsksPart κ (until P Q) i κ P j
    until_y : {κ : Clock A} {P Q : Prop A} {i j : ℕ} → UpTo reads κ P Q w i j → AsksPart κ (until P Q) i κ Q j
    under_x : {κ : Clock A} {c : Bexp A} {P : Prop A} {i : ℕ} → AsksPart κ (under c P) i (on c) P i

  -- and so on down: P, asked from i, reaches Q at j
  pub data Reached : Clock A → Prop A → ℕ → Clock A → Prop A → ℕ → Type 0 where
    here : {κ : Clock A} {P : Prop A} {i : ℕ} → Reached κ P i κ P i
    down : {κ μ ν : Clock A} {P Q R : Prop A} {i j k : ℕ} → AsksPart κ P i μ Q j → Reached μ Q j ν R k → Reached κ P i ν R k

  -- a strong or a weak that P reaches from i
  pub record ReachesGround (κ : Clock A) (P : Prop A) (i : ℕ) : Type 0 where
    pub clock : Clock A
    pub part : Prop A
    pub at : ℕ
    pub ground : Ground part
    pub reached : Reached κ P i clock part at

  -- a `|->` that P reaches from i: its left side matches from there, and its right side is tested from the match's last letter
  pub record AskedImplication (κ : Clock A) (P : Prop A) (i : ℕ) : Type 0 where
    pub clock : Clock A
    pub left : Seq A
    pub right : Prop A
    pub at : ℕ
    pub reached : Reached κ P i clock (implies left right) at
    pub last : ℕ
    pub longer : at ≤ last
    pub matches : Match reads clock left w at (suc last)
    pub tested : Tested reads clock right w last

-- no `|->`, no nexttime and no until
unfoldable pub Direct : {A : Type 0} → Prop A → Type 0
Direct (strong r) = Unit {0}
Direct (weak r) = Unit {0}
Direct (neg P) = Direct P
Direct (either P Q) = Direct P × Direct Q
Direct (both P Q) = Direct P × Direct Q
Direct (implies r P) = ⊥
Direct (next P) = ⊥
Direct (until P Q) = ⊥
Direct (under c P) = Direct P

-- on each way down to a strong or a weak stands a `|->`
unfoldable pub Guarded : {A : Type 0} → Prop A → Type 0
Guarded (strong r) = ⊥
Guarded (weak r) = ⊥
Guarded (neg P) = Guarded P
Guarded (either P Q) = Guarded P × Guarded Q
Guarded (both P Q) = Guarded P × Guarded Q
Guarded (implies r P) = Unit {0}
Guarded (next P) = Guarded P
Guarded (until P Q) = Guarded P × Guarded Q
Guarded (under c P) = Guarded P
