-- What a property node answers, by what its operands answer, is so of its tree: one case an operator. Assumes nothing.
use mathlib.Core.Path.{◌≡◌, sym, ap, subst, ◌∙◌, refl}
use mathlib.Core.Bool.{Bool}
use mathlib.Core.List.{List}
use Prim.Native.Nat.{ℕ, ◌<◌, ◌≤◌}
use lib.ListN.{length, get_or}
use Rattle.positions.specs.Member.{has}
use Rattle.positions.specs.declared.PositionSet.{PositionSet}
use Rattle.refusal.specs.Heading.{count}
use Rattle.meaning.specs.Syntax.{Prop, next, under, Clock, free, on}
use Rattle.meaning.specs.Words.{Tail, none, tops, bots}
use Rattle.meaning.specs.Pairs.{Atom, reading, pairs}
use Rattle.meaning.proofs.Pairing.{length_pairs}
use Rattle.nodes.specs.declared.Raw.{Raw}
use Rattle.nodes.specs.declared.Node.{Node}
use Rattle.nodes.specs.declared.Node.TheVariants.{Boolean, Sequence, Property}
use Rattle.nodes.specs.declared.PropertyOp.{PropertyOp}
use Rattle.nodes.specs.declared.PropertyOp.TheVariants.{Strong, Weak, Negated, AnyOf, BothOf, Implies, Next, Until, Ticked, Defined}
use Rattle.nodes.specs.Operators.{Decodes, bytes_of, property_bytes}
use Rattle.nodes.specs.Nodes.{raw_at, node_at, WellFormed}
use Rattle.nodes.proofs.Coded.{read_as}
use Rattle.nodes.proofs.Based.{not_defined}
use Rattle.nodes.proofs.Shapes.{down}
use Rattle.table.specs.Trees.{PropertyAt}
use Rattle.table.proofs.Reading.{ReadP, read_p}
use Rattle.cells.specs.Shares.{longest}
use Rattle.properties.specs.Shapes.{told}
use Rattle.ticking.specs.declared.Ticks.{Ticks}
use Rattle.steps.specs.declared.Told.{Told}
use Rattle.steps.specs.Steps.{property_clock, ToldBy, NextStep, PropertyStep}
use Rattle.rowmeaning.specs.Sets.{Says, TestedBy}
use Rattle.rowmeaning.proofs.PropertyRules.{says_as, strong_says, weak_says, implies_says, negated_says, any_says, both_says, next_says, under_says}
use Rattle.rowmeaning.proofs.TickRules.{until_says, second_says}
use Rattle.rowmeaning.proofs.TestedRules.{tested_as, strong_tested, weak_tested, not_tested, or_tested, and_tested, next_tested_lem, under_tested, until_tested_by, second_tested_by, implies_tested_by}
use Rattle.walk.specs.Walk.{Known, Ticking, SequenceMeans, PropertyMeans}
use Rattle.walk.proofs.Operands.{bytes_of_lem}
use Rattle.walk.proofs.SequenceRows.{own-ticks, condition, brief, own_row}

module _ (s xs sets : List ℕ) (known : Known s xs sets) (k : ℕ) (inside : k < count s) where
  abbrev n : ℕ
  n = length (pairs xs)

  short : n ≤ longest
  short = brief s xs sets known

  fit : WellFormed s k
  fit = known.shaped.fit k inside

  -- both that are asked of an answer
  record Right (κ : Clock Atom) (P : Prop Atom) (r : Told) : Type 0 where
    says : Says reading (pairs xs) κ P (told r.holds)
    tested : TestedBy reading (pairs xs) κ P (has r.tested.bits)

  right : {t : Ticks} {a : ℕ} {r : Told} → PropertyMeans s xs t a r → (P : Prop Atom) → PropertyAt (node_at s) a P → (κ : Clock Atom) → Ticking xs κ t → Right κ P r
  right h P d κ ht = record { says = h.says P d κ ht; tested = h.tested P d κ ht }

  -- an answer that is told by rules
  by_rules : {κ : Clock Atom} {P : Prop Atom} {f : Tail → ℕ → Bool} {X : ℕ → Bool} {r : Told} → ToldBy f X r → Says reading (pairs xs) κ P f → TestedBy reading (pairs xs) κ P X → Right κ P r
  by_rules {κ} {f = f} {r = r} h a b = record { says = says_as reading (pairs xs) κ each a; tested = tested_as reading (pairs xs) h.tested b }
    where
      each : (t : Tail) (i : ℕ) → told r.holds t i ≡ f t i
      each none i = h.holds.neutral i
      each tops i = h.holds.weak i
      each bots i = h.holds.strong i

  -- nexttime by its clock
  next_right : (p : Told) (clock : Ticks) (r : Told) → NextStep p clock n r → (P : Prop Atom) (κ : Clock Atom) → Ticking xs κ clock → Right κ P p → Right κ (next P) r
  next_right p clock r st P free ht h = by_rules (rw ht.clocked at st) (next_says reading (pairs xs) h.says) (next_tested_lem reading (pairs xs) h.tested)
  next_right p clock r st P (on c) ht h =
      by_rules (rw ht.clocked at st) (second_says reading (pairs xs) c ht.ticks h.says) (second_tested_by reading (pairs xs) c ht.ticks h.tested)

  module _ (c : PositionSet) (clock : Ticks) (x : List ℕ) (p q r : Told) where
    as_tree : {κ : Clock Atom} {P Q : Prop Atom} → P ≡ Q → Right κ Q r → Right κ P r
    as_tree {κ} e h = subst (λ P. Right κ P r) (sym e) h

    by_kind : (op : PropertyOp) → node_at s k ≡ Property op → c.bits ≡ get_or sets (bytes_of (Property op)).x 0
        → SequenceMeans s xs (property_clock op c clock) (bytes_of (Property op)).x x
        → PropertyMeans s xs (property_clock op c clock) (bytes_of (Property op)).x p → PropertyMeans s xs (property_clock op c clock) (bytes_of (Property op)).y q
        → PropertyStep x p q clock n op r → (P : Prop Atom) → ReadP (node_at s) (Property op) P → (κ : Clock Atom) → Ticking xs κ clock → Right κ P r
    unfolding bytes_of property_bytes
    by_kind (Strong a) f ec hx hp hq st P z κ ht =
        let (o, e, d) = z in
        as_tree e (by_rules st (strong_says reading (pairs xs) κ short x 0 (own_row xs short κ x (hx.means o d κ ht))) (strong_tested reading (pairs xs) κ o))
    by_kind (Weak a) f ec hx hp hq st P z κ ht =
        let (o, e, d) = z in
        as_tree e (by_rules st (weak_says reading (pairs xs) κ short x 0 (own_row xs short κ x (hx.means o d κ ht))) (weak_tested reading (pairs xs) κ o))
    by_kind (Negated a) f ec hx hp hq st P z κ ht =
        let (A, e, d) = z in
        let h = right hp A d κ ht in
        as_tree e (by_rules st (negated_says reading (pairs xs) κ h.says) (not_tested reading (pairs xs) h.tested))
    by_kind (AnyOf a b) f ec hx hp hq st P z κ ht =
        let (A, B, e, d, d2) = z in
        let h = right hp A d κ ht in
        let h2 = right hq B d2 κ ht in
        as_tree e (by_rules st (any_says reading (pairs xs) κ h.says h2.says) (or_tested reading (pairs xs) h.tested h2.tested))
    by_kind (BothOf a b) f ec hx hp hq st P z κ ht =
        let (A, B, e, d, d2) = z in
        let h = right hp A d κ ht in
        let h2 = right hq B d2 κ ht in
        as_tree e (by_rules st (both_says reading (pairs xs) κ h.says h2.says) (and_tested reading (pairs xs) h.tested h2.tested))
    by_kind (Implies a b) f ec hx hp hq st P z κ ht =
        let (o, B, e, d, d2) = z in
        let row = own_row xs short κ x (hx.means o d κ ht) in
        let h2 = right hq B d2 κ ht in
        as_tree e (by_rules st (implies_says reading (pairs xs) κ short x 0 row h2.says) (implies_tested_by reading (pairs xs) short x 0 row h2.tested))
    by_kind (Next a) f ec hx hp hq st P z κ ht = let (A, e, d) = z in as_tree e (next_right p clock r st A κ ht (right hp A d κ ht))
    by_kind (Until a b) f ec hx hp hq st P z κ ht =
        let (A, B, e, d, d2) = z in
        let h = right hp A d κ ht in
        let h2 = right hq B d2 κ ht in
        as_tree e
        (by_rules (rw ht.clocked at st) (until_says reading (pairs xs) κ ht.ticks h.says h2.says)
        (until_tested_by reading (pairs xs) κ ht.ticks h.says h2.says h.tested h2.tested))
    by_kind (Ticked a b) f ec hx hp hq st P z κ ht =
        let (t, B, e, d, d2) = z in
        let h2 = right hq B d2 (on t) (own-ticks xs t c (condition s xs sets known k inside c (down s k fit f).0 ec t d)) in
        as_tree e (subst (λ r. Right κ (under t B) r) (sym st) (record { says = under_says reading (pairs xs) κ h2.says; tested = under_tested reading (pairs xs) h2.tested }))
    by_kind (Defined o) f ec hx hp hq st P z κ ht = absurd (not_defined s k fit known.shaped.old f)

  module _ (v : Raw) (ev : v ≡ raw_at s k) (node : Node) (dec : Decodes v node) (clock : Ticks) where
    means_by : {kind : Node} → node ≡ kind → (r : Told) → ((P : Prop Atom) → ReadP (node_at s) kind P → (κ : Clock Atom) → Ticking xs κ clock → Right κ P r) → PropertyMeans s xs clock k r
    means_by {kind} e r f =
        let read : (P : Prop Atom) → PropertyAt (node_at s) k P → ReadP (node_at s) kind P = λ P d. subst (λ v. ReadP (node_at s) v P) (read_as s k v node ev dec e) (read_p d) in
        record { says = λ P d κ ht. (f P (read P d) κ ht).says; tested = λ P d κ ht. (f P (read P d) κ ht).tested }

    -- a node that is no property stands for none
    pub told_other : ((op : PropertyOp) → ¬ (node ≡ Property op)) → (r : Told) → PropertyMeans s xs clock k r
    told_other f r = by_sort node refl
      where
        by_sort : (kind : Node) → node ≡ kind → PropertyMeans s xs clock k r
        by_sort (Boolean o) e = means_by e r (λ P z κ ht. absurd z)
        by_sort (Sequence o) e = means_by e r (λ P z κ ht. absurd z)
        by_sort (Property o) e = absurd (f o e)

    pub told-property : (op : PropertyOp) → node ≡ Property op → (a b : ℕ) → a ≡ v.x → b ≡ v.y → (c : PositionSet) → c.bits ≡ get_or sets a 0
        → (below : Ticks) → below ≡ property_clock op c clock → (x : List ℕ) (p q r : Told) → SequenceMeans s xs below a x → PropertyMeans s xs below a p → PropertyMeans s xs below b q
        → PropertyStep x p q clock (length xs) op r → PropertyMeans s xs clock k r
    told-property op e a b ea eb c ec below ew x p q r hx hp hq st =
        let bytes = bytes_of_lem s xs sets known k inside v ev node dec e in
        let ax : a ≡ (bytes_of (Property op)).x = ea ∙ ap (λ (v : Raw). v.x) bytes in
        let by : b ≡ (bytes_of (Property op)).y = eb ∙ ap (λ (v : Raw). v.y) bytes in
        means_by e r
        (λ P z κ ht.
        by_kind c clock x p q r op (read_as s k v node ev dec e) (ec ∙ ap (λ a. get_or sets a 0) ax)
        (subst (λ t. SequenceMeans s xs t (bytes_of (Property op)).x x) ew (subst (λ a. SequenceMeans s xs below a x) ax hx))
        (subst (λ t. PropertyMeans s xs t (bytes_of (Property op)).x p) ew (subst (λ a. PropertyMeans s xs below a p) ax hp))
        (subst (λ t. PropertyMeans s xs t (bytes_of (Property op)).y q) ew (subst (λ b. PropertyMeans s xs below b q) by hq))
        (subst (λ m. PropertyStep x p q clock m op r) (sym (length_pairs xs)) st) P z κ ht)
