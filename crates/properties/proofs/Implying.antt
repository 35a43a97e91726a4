-- What follows each match that is not empty: a set that a loop makes start by start. Assumes nothing.
use mathlib.Core.Path.{◌≡◌, refl}
use mathlib.Core.Bool.{false, not, ◌||◌, ◌&&◌}
use mathlib.Core.List.{List}
use Prim.Native.Nat.{ℕ, ◌+◌}
use lib.Dec.{eqb, ltb}
use Rattle.telling.specs.Tells.{some}
use Rattle.positions.specs.Member.{has, Is}
use Rattle.cells.specs.Bits.{last_letter}
use Rattle.cells.proofs.Loops.{taken_none, taken_more, asked_upto, within_as}
use Rattle.properties.specs.declared.Suffixes.{Suffixes}
use Rattle.properties.specs.Shapes.{Sets, Following}

-- of the places below i, x has those from which each match of row a has its last letter in y
abbrev pub Taken : List ℕ → ℕ → ℕ → ℕ → ℕ → Type 0
Taken rows a i y x = Is x (λ j. ltb j i && not (some (λ l. last_letter rows a j l && not (has y l)) 0 64))

pub followed_more : (rows : List ℕ) (a i y x last x' : ℕ) → Taken rows a i y x → Is last (last_letter rows a i)
    → Is x' (λ j. has x j || (not (some (λ l. has last l && not (has y l)) 0 64) && eqb j i)) → Taken rows a (i + 1) y x'
followed_more rows a i y x last x' ex el e = taken_more _ i x x' _ ex (within_as last y _ _ refl el) e

-- the starts below i are asked, for each of three sets
pub record Asked (rows : List ℕ) (a i : ℕ) (p r : Suffixes) : Type 0 where
  pub neutral : Taken rows a i p.neutral.bits r.neutral.bits
  pub weak : Taken rows a i p.weak.bits r.weak.bits
  pub strong : Taken rows a i p.strong.bits r.strong.bits

pub asked_none : (rows : List ℕ) (a : ℕ) (p r : Suffixes) → Sets (λ t k. false) r → Asked rows a 0 p r
asked_none rows a p r h = record { neutral = taken_none _ _ h.neutral; weak = taken_none _ _ h.weak; strong = taken_none _ _ h.strong }

pub asked_all : (rows : List ℕ) (a i n : ℕ) (p r : Suffixes) → i ≡ n + 1 → Asked rows a i p r → Following rows n a p r
asked_all rows a i n p r e h =
    record { neutral = asked_upto _ _ _ _ h.neutral e; weak = asked_upto _ _ _ _ h.weak e; strong = asked_upto _ _ _ _ h.strong e }
