-- A tree with other atoms, on a word with other samples, says the same: where an atom's new name reads of a sample what the atom reads of the sample that is
-- put for it. Each law is an equation of tests or of statements; a statement's clause is the statement itself, with its parts along their equations `e`.
-- Assumes nothing.
use mathlib.Core.Bool.{Bool, true, false, not, cond, ◌&&◌, ◌||◌}
use mathlib.Core.Path.{◌≡◌, refl, ap, ◌∙◌, fun_ext, transport, transport⁻¹}
use mathlib.Core.Logic.{◌⊎◌, ◌↔◌}
use Prim.Native.Nat.{ℕ, zero, suc, ◌≤◌, ◌<◌}
use lib.Dec.{T, ltb}
use Rattle.meaning.specs.Syntax.{Bexp, const, atom, nott, andd, orr, Seq, one, cat, fuse, alt, empty, plus, clocked, Prop, strong, weak, neg, either, both, implies, next, until, under, Clock, free, on}
use Rattle.meaning.specs.Words.{Cell, real, top, bot, end, Word, inside, is_bot, flip, bar, cut, NoBot}
use Rattle.meaning.specs.Meaning.{Plus, value, satisfies, Match, counts, ticks, Second, Strong, Sat, Topped, Accepted}
use Rattle.meaning.specs.Tested.{UpTo, Tested}
use Rattle.meaning.specs.Renaming.{rename_b, rename_s, rename_p, rename_c}
use Rattle.meaning.proofs.Cells.{map_cell}

-- equal statements hold together
pub both_ways : {P Q : Type 0} → P ≡ Q → P ↔ Q
both_ways e = (transport e, transport⁻¹ e)

-- ---- a word with other samples

module _ {U S : Type 0} (g : U → S) where
  abbrev pub map_word : Word U → Word S
  map_word w = λ p. map_cell g (w p)

  inside-map : (x : Cell U) → inside x ≡ inside (map_cell g x)
  inside-map (real u) = refl
  inside-map top = refl
  inside-map bot = refl
  inside-map end = refl

  bot_map : (x : Cell U) → is_bot x ≡ is_bot (map_cell g x)
  bot_map (real u) = refl
  bot_map top = refl
  bot_map bot = refl
  bot_map end = refl

  flip-map : (x : Cell U) → map_cell g (flip x) ≡ flip (map_cell g x)
  flip-map (real u) = refl
  flip-map top = refl
  flip-map bot = refl
  flip-map end = refl

  bar-map : (w : Word U) → map_word (bar w) ≡ bar (map_word w)
  bar-map w = fun_ext (λ p. flip-map (w p))

  cut-map : (w : Word U) (n : ℕ) → map_word (cut w n) ≡ cut (map_word w) n
  cut-map w n = fun_ext (λ p. at (ltb p n) (w p))
    where
      at : (b : Bool) (x : Cell U) → map_cell g (cond b x top) ≡ cond b (map_cell g x) top
      at true x = refl
      at false x = refl

module _ {A B S U : Type 0} (f : A → B) (g : U → S) (reads : A → S → Bool) (reads' : B → U → Bool)
    (same : (a : A) (u : U) → reads' (f a) u ≡ reads a (g u)) where
  -- ---- letters

  pub value_renamed : (b : Bexp A) (u : U) → value reads' (rename_b f b) u ≡ value reads b (g u)
  unfolding value rename_b
  value_renamed (const v) u = refl
  value_renamed (atom a) u = same a u
  value_renamed (nott b) u = λ e. not (value_renamed b u e)
  value_renamed (andd b d) u = λ e. value_renamed b u e && value_renamed d u e
  value_renamed (orr b d) u = λ e. value_renamed b u e || value_renamed d u e

  pub satisfies_renamed : (b : Bexp A) (x : Cell U) → satisfies reads' x (rename_b f b) ≡ satisfies reads (map_cell g x) b
  unfolding satisfies
  satisfies_renamed b (real u) = value_renamed b u
  satisfies_renamed b top = refl
  satisfies_renamed b bot = refl
  satisfies_renamed b end = refl

  pub ticks_renamed : (c : Bexp A) (x : Cell U) → ticks reads' (rename_b f c) x ≡ ticks reads c (map_cell g x)
  unfolding ticks
  ticks_renamed c (real u) = value_renamed c u
  ticks_renamed c top = refl
  ticks_renamed c bot = refl
  ticks_renamed c end = refl

  pub counts_renamed : (κ : Clock A) (x : Cell U) → counts reads' (rename_c f κ) x ≡ counts reads κ (map_cell g x)
  unfolding counts rename_c
  counts_renamed free x = refl
  counts_renamed (on c) x = satisfies_renamed c x

  counts_flipped : (κ : Clock A) (x : Cell U) → counts reads' (rename_c f κ) (flip x) ≡ counts reads κ (flip (map_cell g x))
  counts_flipped κ x = counts_renamed κ (flip x) ∙ ap (counts reads κ) (flip-map g x)

  -- ---- sequences

  pub match_renamed : (κ : Clock A) (r : Seq A) (w : Word U) → Match reads' (rename_c f κ) (rename_s f r) w ≡ Match reads κ r (map_word g w)
  unfolding Match rename_s rename_c rename_b
  match_renamed free (one b) w = λ e i j. (j ≡ suc i) × T (satisfies_renamed b (w i) e)
  match_renamed (on c) (one b) w =
      λ e i j.
      (k : ℕ) × (j ≡ suc k) × (i ≤ k) × T (satisfies_renamed c (w k) e) × T (satisfies_renamed b (w k) e)
      × ((m : ℕ) → i ≤ m → m < k → T (satisfies_renamed (nott c) (w m) e))
  match_renamed κ (cat r s) w = λ e i j. (m : ℕ) × match_renamed κ r w e i m × match_renamed κ s w e m j
  match_renamed κ (fuse r s) w = λ e i j. (m : ℕ) × (i ≤ m) × (m < j) × match_renamed κ r w e i (suc m) × match_renamed κ s w e m j
  match_renamed κ (alt r s) w = λ e i j. match_renamed κ r w e i j ⊎ match_renamed κ s w e i j
  match_renamed κ (empty r) w = refl
  match_renamed κ (plus r) w = ap Plus (match_renamed κ r w)
  match_renamed κ (clocked c r) w = match_renamed (on c) r w

  pub strong_renamed : (κ : Clock A) (r : Seq A) (w : Word U) → Strong reads' (rename_c f κ) (rename_s f r) w ≡ Strong reads κ r (map_word g w)
  unfolding Strong
  strong_renamed κ r w = λ e i. (j : ℕ) × (i < j) × match_renamed κ r w e i j

  pub topped_renamed : (κ : Clock A) (r : Seq A) → Topped reads' (rename_c f κ) (rename_s f r) ≡ Topped reads κ r
  unfolding Topped
  topped_renamed κ r = λ e. (k : ℕ) × (zero < k) × match_renamed κ r (λ p. top) e zero k

  -- ---- properties

  second_renamed : (c : Bexp A) (w : Word U) → Second reads' (rename_b f c) w ≡ Second reads c (map_word g w)
  unfolding Second
  second_renamed c w =
      λ e i k.
      (j : ℕ) × (i ≤ j) × (j < k) × T (ticks_renamed c (w j) e) × T (ticks_renamed c (w k) e)
      × ((m : ℕ) → i ≤ m → m < k → T (ticks_renamed c (w m) e) → m ≡ j)

  no_bot_renamed : (w : Word U) → NoBot w ≡ NoBot (map_word g w)
  unfolding NoBot
  no_bot_renamed w = λ e i. (p : ℕ) → i ≤ p → T (not (bot_map g (w p) e))

  pub sat_renamed : (κ : Clock A) (P : Prop A) (w : Word U) → Sat reads' (rename_c f κ) (rename_p f P) w ≡ Sat reads κ P (map_word g w)
  unfolding Sat rename_p rename_c
  sat_renamed κ (strong r) w = strong_renamed κ r w
  sat_renamed κ (weak r) w =
      λ e i.
      (p : ℕ) → i ≤ p → T (inside-map g (w p) e) → (strong_renamed κ r (cut w (suc p)) ∙ ap (Strong reads κ r) (cut-map g w (suc p))) e i
  sat_renamed κ (neg P) w = λ e i. ¬ (sat_renamed κ P (bar w) ∙ ap (Sat reads κ P) (bar-map g w)) e i
  sat_renamed κ (either P Q) w = λ e i. sat_renamed κ P w e i ⊎ sat_renamed κ Q w e i
  sat_renamed κ (both P Q) w = λ e i. sat_renamed κ P w e i × sat_renamed κ Q w e i
  sat_renamed κ (implies r P) w =
      λ e i. (p : ℕ) → i ≤ p → (match_renamed κ r (bar w) ∙ ap (Match reads κ r) (bar-map g w)) e i (suc p) → sat_renamed κ P w e p
  sat_renamed free (next P) w = λ e i. T (not (inside-map g (w i) e)) ⊎ sat_renamed free P w e (suc i)
  sat_renamed (on c) (next P) w =
      λ e i.
      ((k : ℕ) × second_renamed c w e i k × sat_renamed (on c) P w e k) ⊎ (((k : ℕ) → ¬ second_renamed c w e i k) × no_bot_renamed w e i)
  sat_renamed κ (until P Q) w =
      λ e i.
      ((j : ℕ) × (i ≤ j) × T (inside-map g (w j) e) × T (counts_renamed κ (w j) e) × sat_renamed κ Q w e j
      × ((k : ℕ) → i ≤ k → k < j → T (counts_flipped κ (w k) e) → sat_renamed κ P w e k))
      ⊎ ((k : ℕ) → i ≤ k → T (inside-map g (w k) e) → T (counts_flipped κ (w k) e) → sat_renamed κ P w e k)
  sat_renamed κ (under c P) w = sat_renamed (on c) P w

  up_to_renamed : (κ : Clock A) (P Q : Prop A) (w : Word U) → UpTo reads' (rename_c f κ) (rename_p f P) (rename_p f Q) w ≡ UpTo reads κ P Q (map_word g w)
  unfolding UpTo
  up_to_renamed κ P Q w =
      λ e i j.
      (i ≤ j) × T (inside-map g (w j) e) × T (counts_renamed κ (w j) e)
      × ((k : ℕ) → i ≤ k → k < j → T (counts_renamed κ (w k) e) → sat_renamed κ P w e k × (¬ sat_renamed κ Q w e k))

  pub tested_renamed : (κ : Clock A) (P : Prop A) (w : Word U) → Tested reads' (rename_c f κ) (rename_p f P) w ≡ Tested reads κ P (map_word g w)
  unfolding Tested rename_p rename_c
  tested_renamed κ (strong r) w = refl
  tested_renamed κ (weak r) w = refl
  tested_renamed κ (neg P) w = tested_renamed κ P w
  tested_renamed κ (either P Q) w = λ e i. tested_renamed κ P w e i ⊎ tested_renamed κ Q w e i
  tested_renamed κ (both P Q) w = λ e i. tested_renamed κ P w e i ⊎ tested_renamed κ Q w e i
  tested_renamed κ (implies r P) w = λ e i. (p : ℕ) × (i ≤ p) × match_renamed κ r w e i (suc p) × tested_renamed κ P w e p
  tested_renamed free (next P) w = λ e i. T (inside-map g (w i) e) × tested_renamed free P w e (suc i)
  tested_renamed (on c) (next P) w = λ e i. (k : ℕ) × second_renamed c w e i k × tested_renamed (on c) P w e k
  tested_renamed κ (until P Q) w = λ e i. (j : ℕ) × up_to_renamed κ P Q w e i j × (tested_renamed κ P w e j ⊎ tested_renamed κ Q w e j)
  tested_renamed κ (under c P) w = tested_renamed (on c) P w

  pub accepted_renamed : (κ : Clock A) (P : Prop A) → Accepted reads' (rename_c f κ) (rename_p f P) ≡ Accepted reads κ P
  unfolding Accepted rename_p rename_c
  accepted_renamed κ (strong r) = topped_renamed κ r
  accepted_renamed κ (weak r) = topped_renamed κ r
  accepted_renamed κ (neg P) = accepted_renamed κ P
  accepted_renamed κ (either P Q) = λ e. accepted_renamed κ P e × accepted_renamed κ Q e
  accepted_renamed κ (both P Q) = λ e. accepted_renamed κ P e × accepted_renamed κ Q e
  accepted_renamed κ (implies r P) = λ e. topped_renamed κ r e × accepted_renamed κ P e
  accepted_renamed κ (next P) = accepted_renamed κ P
  accepted_renamed κ (until P Q) = λ e. accepted_renamed κ P e × accepted_renamed κ Q e
  accepted_renamed κ (under c P) = accepted_renamed (on c) P
