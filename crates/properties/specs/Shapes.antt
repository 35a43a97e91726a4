-- A property's three words as the code has them, and the shapes of the two loops that make them: over the starts, and by doubling. Assumes nothing.
use Rattle.std.specs.Prelude.{◌≡◌, Bool, ◌||◌, ◌&&◌, List, ℕ, eqb, ltb}
use Rattle.meaning.specs.Words.{Tail, none, tops, bots}
use Rattle.positions.specs.Member.{has, Is}
use Rattle.nodes.specs.declared.PropertyOp.{PropertyOp}
use Rattle.cells.specs.Shares.{word_in}
use Rattle.cells.specs.Bits.{follows, property_bit}
use Rattle.properties.specs.declared.Suffixes.{Suffixes}
use Rattle.runs.specs.declared.Led.{Led}
use Rattle.runs.specs.Runs.{led}

-- what the three sets tell: "suffix i satisfies the property, with the tail t"
abbrev pub told : Suffixes → Tail → ℕ → Bool
told r none = has r.neutral.bits
told r tops = has r.weak.bits
told r bots = has r.strong.bits

-- the three sets have what f says, for each tail
pub record Sets (f : Tail → ℕ → Bool) (r : Suffixes) : Type 0 where
  pub neutral : Is r.neutral.bits (f none)
  pub weak : Is r.weak.bits (f tops)
  pub strong : Is r.strong.bits (f bots)

-- the three sets are the words of row p
pub record WordsAt (rows : List ℕ) (p : ℕ) (r : Suffixes) : Type 0 where
  pub neutral : r.neutral.bits ≡ word_in rows p 0
  pub weak : r.weak.bits ≡ word_in rows p 1
  pub strong : r.strong.bits ≡ word_in rows p 2

-- the three sets are the words that the rules give an operator
abbrev pub Satisfying : List ℕ → ℕ → PropertyOp → Suffixes → Type 0
Satisfying rows n op r = Sets (property_bit rows n op) r

-- the starts from which each match of row a has its last letter in the set, for each of three
pub record Following (rows : List ℕ) (n a : ℕ) (p r : Suffixes) : Type 0 where
  pub neutral : Is r.neutral.bits (follows rows n a (has p.neutral.bits))
  pub weak : Is r.weak.bits (follows rows n a (has p.weak.bits))
  pub strong : Is r.strong.bits (follows rows n a (has p.strong.bits))

-- ---- P until Q by runs: those of P below n lead up to a place of Q below n or, where `last`, up to n

pub record Begins (p q : ℕ) (last : Bool) (n : ℕ) (l : Led) : Type 0 where
  pub runs : Is l.runs.bits (λ k. has p k && ltb k n)
  pub out : Is l.out.bits (λ k. (has q k && ltb k n) || (last && eqb k n))

-- the places from which a run leads up, for each of three
pub record Leads (a b c : Led) (r : Suffixes) : Type 0 where
  pub neutral : Is r.neutral.bits (led a)
  pub weak : Is r.weak.bits (led b)
  pub strong : Is r.strong.bits (led c)
