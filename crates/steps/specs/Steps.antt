-- One step of the plain engine, as the code is held to it: a node's row by the rows of its operands. `walk/proofs` shows what it means. A derived operator
-- is expanded before: no table here has one. Assumes nothing.
use Rattle.std.specs.Prelude.{◌≡◌, Bool, true, false, not, cond, ◌||◌, ◌&&◌, List, ℕ, suc, ◌+◌, ◌<◌, leb, get_or}
use Rattle.positions.specs.Member.{has, Is}
use Rattle.positions.specs.declared.PositionSet.{PositionSet}
use Rattle.meaning.specs.Words.{Tail}
use Rattle.nodes.specs.declared.SequenceOp.{SequenceOp}
use Rattle.nodes.specs.declared.SequenceOp.TheVariants.{Letter, Then, Fused, Either, Empty, Repeat, Clocked, Derived}
use Rattle.nodes.specs.declared.PropertyOp.{PropertyOp}
use Rattle.nodes.specs.declared.PropertyOp.TheVariants.{Strong, Weak, Negated, AnyOf, BothOf, Implies, Next, Until, Ticked, Defined}
use Rattle.cells.specs.Shares.{share}
use Rattle.cells.specs.Bits.{starts_into, negated_bit, implies_bit, next_bit, property_bit}
use Rattle.sequences.specs.Made.{sequence_word}
use Rattle.properties.specs.Shapes.{told, Sets}
use Rattle.ticking.specs.declared.Ticks.{Ticks}
use Rattle.ticking.specs.Ticks.{letter_word, second_bit, ticked_until, tick_run, second_tick}
use Rattle.steps.specs.declared.Told.{Told}

-- ---- clocks: that of the operands, where c has the samples that satisfy the first operand

abbrev pub own_clock : PositionSet → Ticks
own_clock c = record { clocked = true; at = c }

abbrev pub sequence_clock : SequenceOp → PositionSet → Ticks → Ticks
sequence_clock (Letter b) c clock = clock
sequence_clock (Then x y) c clock = clock
sequence_clock (Fused x y) c clock = clock
sequence_clock (Either x y) c clock = clock
sequence_clock (Empty x) c clock = clock
sequence_clock (Repeat x) c clock = clock
sequence_clock (Clocked b x) c clock = own_clock c
sequence_clock (Derived o) c clock = clock

abbrev pub property_clock : PropertyOp → PositionSet → Ticks → Ticks
property_clock (Strong x) c clock = clock
property_clock (Weak x) c clock = clock
property_clock (Negated x) c clock = clock
property_clock (AnyOf x y) c clock = clock
property_clock (BothOf x y) c clock = clock
property_clock (Implies x y) c clock = clock
property_clock (Next x) c clock = clock
property_clock (Until x y) c clock = clock
property_clock (Ticked b x) c clock = own_clock c
property_clock (Defined o) c clock = clock

-- ---- sequences

-- rows 0 and 1 of R are x and y
pub record Beside (x y R : List ℕ) : Type 0 where
  pub first : (i : ℕ) → i < share → get_or R i 0 ≡ get_or x i 0
  pub second : (i : ℕ) → i < share → get_or R (share + i) 0 ≡ get_or y i 0

-- r is the row of R whose first word is word `at`
pub record RowIn (R : List ℕ) (at : ℕ) (r : List ℕ) : Type 0 where
  pub word : (i : ℕ) → i < share → get_or r i 0 ≡ get_or R (at + i) 0

-- r is the row of an operator whose operands are rows 0 and 1, x and y
pub record PairRow (x y : List ℕ) (op : SequenceOp) (n : ℕ) (r : List ℕ) : Type 0 where
  pub rows : List ℕ
  pub beside : Beside x y rows
  pub word : (i : ℕ) → i < share → get_or r i 0 ≡ sequence_word rows n op i

abbrev pub SequenceStep : List ℕ → List ℕ → ℕ → ℕ → ℕ → SequenceOp → List ℕ → Type 0
SequenceStep x y b t n (Letter c) r = (i : ℕ) → i < share → get_or r i 0 ≡ letter_word (has b) (has t) n i
SequenceStep x y b t n (Then a c) r = PairRow x y (Then 0 1) n r
SequenceStep x y b t n (Fused a c) r = PairRow x y (Fused 0 1) n r
SequenceStep x y b t n (Either a c) r = PairRow x y (Either 0 1) n r
SequenceStep x y b t n (Empty a) r = PairRow x y (Empty 0) n r
SequenceStep x y b t n (Repeat a) r = PairRow x y (Repeat 0) n r
SequenceStep x y b t n (Clocked c a) r = RowIn y 0 r
SequenceStep x y b t n (Derived o) r = RowIn y 0 r

-- ---- properties: f for each tail, and the positions X from which it is tested

pub record ToldBy (f : Tail → ℕ → Bool) (X : ℕ → Bool) (r : Told) : Type 0 where
  pub holds : Sets f r.holds
  pub tested : Is r.tested.bits X

-- where P and Q are tested
abbrev pub tested_in : Told → ℕ → Bool
tested_in p = has p.tested.bits

abbrev pub NextStep : Told → Ticks → ℕ → Told → Type 0
NextStep p clock n r =
    ToldBy (cond clock.clocked (second_bit (has clock.at.bits) n (told p.holds)) (next_bit n (told p.holds)))
    (cond clock.clocked (second_tick (has clock.at.bits) n false (tested_in p)) (λ k. tested_in p (suc k))) r

abbrev pub UntilStep : Told → Told → Ticks → ℕ → Told → Type 0
UntilStep p q clock n r =
    ToldBy (ticked_until clock.clocked (has clock.at.bits) n (told p.holds) (told q.holds))
    (tick_run (has clock.at.bits) n false (λ k. has p.holds.neutral.bits k && not (has q.holds.neutral.bits k)) (λ k. tested_in p k || tested_in q k)) r

abbrev pub PropertyStep : List ℕ → Told → Told → Ticks → ℕ → PropertyOp → Told → Type 0
PropertyStep x p q clock n (Strong a) r = ToldBy (property_bit x n (Strong 0)) (λ k. leb k n) r
PropertyStep x p q clock n (Weak a) r = ToldBy (property_bit x n (Weak 0)) (λ k. leb k n) r
PropertyStep x p q clock n (Negated a) r = ToldBy (negated_bit n (told p.holds)) (tested_in p) r
PropertyStep x p q clock n (AnyOf a b) r = ToldBy (λ t k. told p.holds t k || told q.holds t k) (λ k. tested_in p k || tested_in q k) r
PropertyStep x p q clock n (BothOf a b) r = ToldBy (λ t k. told p.holds t k && told q.holds t k) (λ k. tested_in p k || tested_in q k) r
PropertyStep x p q clock n (Implies a b) r = ToldBy (implies_bit x n 0 (told q.holds)) (starts_into x n 0 (tested_in q)) r
PropertyStep x p q clock n (Next a) r = NextStep p clock n r
PropertyStep x p q clock n (Until a b) r = UntilStep p q clock n r
PropertyStep x p q clock n (Ticked c a) r = r ≡ q
PropertyStep x p q clock n (Defined o) r = r ≡ q
