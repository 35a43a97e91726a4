-- The table of operators, document 01's and, for 5, 6, 23 to 26 and 41 to 47, document 02's: the number of each, the versions in which it is known, the
-- sort of its node and of each operand, what its fourth byte may be, the length of its block under a clock, and the node that it makes of its bytes.
-- Assumes nothing.
use Rattle.std.specs.Prelude.{◌≡◌, ℕ, ◌+◌, ◌*◌, ◌/◌, ◌%◌, ◌≤◌, cond, List, [], ◌∷◌, eqb}
use Rattle.nodes.specs.declared.Raw.{Raw}
use Rattle.nodes.specs.declared.Node.{Node}
use Rattle.nodes.specs.declared.Node.TheVariants.{Boolean, Sequence, Property}
use Rattle.nodes.specs.declared.BooleanOp.{BooleanOp}
use Rattle.nodes.specs.declared.BooleanOp.TheVariants.{Constant, Signal, Not, And, Or, Risen, Fallen}
use Rattle.nodes.specs.declared.SequenceOp.{SequenceOp}
use Rattle.nodes.specs.declared.SequenceOp.TheVariants.{Letter, Then, Fused, Either, Empty, Repeat, Clocked, Derived}
use Rattle.nodes.specs.declared.PropertyOp.{PropertyOp}
use Rattle.nodes.specs.declared.PropertyOp.TheVariants.{Strong, Weak, Negated, AnyOf, BothOf, Implies, Next, Until, Ticked, Defined}
use Rattle.nodes.specs.declared.DerivedSequence.{DerivedSequence}
use Rattle.nodes.specs.declared.DerivedSequence.TheVariants.{Repeated, Delayed, Goto, Nonconsecutive}
use Rattle.nodes.specs.declared.DerivedProperty.{DerivedProperty}
use Rattle.nodes.specs.declared.DerivedProperty.TheVariants.{ImpliesNext, Followed, FollowedNext, Always, Eventually, StrongUntil, StrongNext}

-- the sorts; 0 for none
abbrev pub none : ℕ
none = 0

abbrev pub boolean : ℕ
boolean = 1

abbrev pub sequence : ℕ
sequence = 2

abbrev pub property : ℕ
property = 3

-- what the fourth byte may be: 0; m + 16n with m at most n; m, at most 15
abbrev pub zero_byte : ℕ
zero_byte = 0

abbrev pub range_byte : ℕ
range_byte = 1

abbrev pub count_byte : ℕ
count_byte = 2

-- the versions of a table are 1 to `newest`; those with base operators alone, which the engines read as they stand, are 1 to `base`
abbrev pub newest : ℕ
newest = 3

abbrev pub base : ℕ
base = 2

-- what an operator fixes: the first and the last version in which it is known; the node's own sort; the sort of x, or, where that is none, the number that x is
-- below; the sort of y, none for none; what the fourth byte may be; and the length of its block in rewriting under a clock
pub record Row : Type 0 where
  pub first : ℕ
  pub last : ℕ
  pub own : ℕ
  pub x : ℕ
  pub limit : ℕ
  pub y : ℕ
  pub fourth : ℕ
  pub block : ℕ

-- a line of the document's table: the operator's code, what it fixes, and the node that it makes of x, y and the fourth byte
pub record Entry : Type 0 where
  pub code : ℕ
  pub row : Row
  pub make : ℕ → ℕ → ℕ → Node

-- a line whose x is a plain number below a limit: code, first and last version, own sort, limit, node. y is not used
abbrev pub plain : ℕ → ℕ → ℕ → ℕ → ℕ → (ℕ → ℕ → Node) → Entry
plain c first last own limit f =
    record {
      code = c;
      row = record { first = first; last = last; own = own; x = none; limit = limit; y = none; fourth = zero_byte; block = 1 };
      make = λ x y q. f x y;
    }

-- a line of a base operator: code, first and last version, own sort, sorts of x and y, block length under a clock, node
abbrev pub entry : ℕ → ℕ → ℕ → ℕ → ℕ → ℕ → ℕ → (ℕ → ℕ → Node) → Entry
entry c first last own x y block f =
    record {
      code = c;
      row = record { first = first; last = last; own = own; x = x; limit = 0; y = y; fourth = zero_byte; block = block };
      make = λ x y q. f x y;
    }

-- a line of a derived operator, known in version 3 alone: code, own sort, sorts of x and y, what the fourth byte q may be, node. It is expanded before
-- anything is rewritten, so the length of its block is never asked
abbrev pub derived : ℕ → ℕ → ℕ → ℕ → ℕ → (ℕ → ℕ → ℕ → Node) → Entry
derived c own x y fourth f =
    record { code = c; row = record { first = 3; last = 3; own = own; x = x; limit = 0; y = y; fourth = fourth; block = 1 }; make = f }

unfoldable pub operators : List Entry
operators =
    plain 0 1 4 boolean 2 (λ x y. Boolean (Constant x))
    ∷ plain 1 1 4 boolean 64 (λ x y. Boolean (Signal x))
    ∷ entry 2 1 4 boolean boolean none 1 (λ x y. Boolean (Not x))
    ∷ entry 3 1 4 boolean boolean boolean 1 (λ x y. Boolean (And x y))
    ∷ entry 4 1 4 boolean boolean boolean 1 (λ x y. Boolean (Or x y))
    ∷ plain 5 2 4 boolean 64 (λ x y. Boolean (Risen x))
    ∷ plain 6 2 4 boolean 64 (λ x y. Boolean (Fallen x))
    ∷ entry 16 1 4 sequence boolean none 9 (λ x y. Sequence (Letter x))
    ∷ entry 17 1 4 sequence sequence sequence 1 (λ x y. Sequence (Then x y))
    ∷ entry 18 1 4 sequence sequence sequence 1 (λ x y. Sequence (Fused x y))
    ∷ entry 19 1 4 sequence sequence sequence 1 (λ x y. Sequence (Either x y))
    ∷ entry 20 1 4 sequence sequence none 1 (λ x y. Sequence (Empty x))
    ∷ entry 21 1 4 sequence sequence none 1 (λ x y. Sequence (Repeat x))
    ∷ entry 22 1 4 sequence boolean sequence 0 (λ x y. Sequence (Clocked x y))
    ∷ derived 23 sequence sequence none range_byte (λ x y q. Sequence (Derived (Repeated x (q % 16) (q / 16))))
    ∷ derived 24 sequence sequence sequence range_byte (λ x y q. Sequence (Derived (Delayed x y (q % 16) (q / 16))))
    ∷ derived 25 sequence boolean none count_byte (λ x y q. Sequence (Derived (Goto x q)))
    ∷ derived 26 sequence boolean none count_byte (λ x y q. Sequence (Derived (Nonconsecutive x q)))
    ∷ entry 32 1 4 property sequence none 1 (λ x y. Property (Strong x))
    ∷ entry 33 1 4 property sequence none 1 (λ x y. Property (Weak x))
    ∷ entry 34 1 4 property property none 1 (λ x y. Property (Negated x))
    ∷ entry 35 1 4 property property property 1 (λ x y. Property (AnyOf x y))
    ∷ entry 36 1 4 property property property 1 (λ x y. Property (BothOf x y))
    ∷ entry 37 1 4 property sequence property 1 (λ x y. Property (Implies x y))
    ∷ entry 38 1 4 property property none 14 (λ x y. Property (Next x))
    ∷ entry 39 1 4 property property property 9 (λ x y. Property (Until x y))
    ∷ entry 40 1 4 property boolean property 0 (λ x y. Property (Ticked x y))
    ∷ derived 41 property sequence property zero_byte (λ x y q. Property (Defined (ImpliesNext x y)))
    ∷ derived 42 property sequence property zero_byte (λ x y q. Property (Defined (Followed x y)))
    ∷ derived 43 property sequence property zero_byte (λ x y q. Property (Defined (FollowedNext x y)))
    ∷ derived 44 property property none zero_byte (λ x y q. Property (Defined (Always x)))
    ∷ derived 45 property property none zero_byte (λ x y q. Property (Defined (Eventually x)))
    ∷ derived 46 property property property zero_byte (λ x y q. Property (Defined (StrongUntil x y)))
    ∷ derived 47 property property none zero_byte (λ x y q. Property (Defined (StrongNext x)))
    ∷ []

abbrev pub unknown : Row
unknown = record { first = 0; last = 0; own = none; x = none; limit = 0; y = none; fourth = zero_byte; block = 0 }

-- what the line with the code says, or d where there is no such line
unfoldable pub lookup : {A : Type 0} → (Entry → A) → A → List Entry → ℕ → A
lookup f d [] op = d
lookup f d (e ∷ es) op = cond (eqb op e.code) (f e) (lookup f d es op)

unfoldable pub row_of : ℕ → Row
row_of op = lookup (λ e. e.row) unknown operators op

-- an unknown operator, which no accepted table has, stands for the constant 0
unfoldable pub node_of : Raw → Node
node_of n = lookup (λ e. e.make n.x n.y n.fourth) (Boolean (Constant 0)) operators n.op

-- ---- a node as its four bytes, for each case of every enum

abbrev pub bytes_with : ℕ → ℕ → ℕ → ℕ → Raw
bytes_with op x y q = record { op = op; x = x; y = y; fourth = q }

abbrev pub bytes : ℕ → ℕ → ℕ → Raw
bytes op x y = bytes_with op x y 0

unfoldable pub boolean_bytes : BooleanOp → Raw
boolean_bytes (Constant x) = bytes 0 x 0
boolean_bytes (Signal x) = bytes 1 x 0
boolean_bytes (Not x) = bytes 2 x 0
boolean_bytes (And x y) = bytes 3 x y
boolean_bytes (Or x y) = bytes 4 x y
boolean_bytes (Risen x) = bytes 5 x 0
boolean_bytes (Fallen x) = bytes 6 x 0

-- the fourth byte of a range
abbrev pub ranged : ℕ → ℕ → ℕ
ranged m n = m + 16 * n

unfoldable pub derived_sequence_bytes : DerivedSequence → Raw
derived_sequence_bytes (Repeated x m n) = bytes_with 23 x 0 (ranged m n)
derived_sequence_bytes (Delayed x y m n) = bytes_with 24 x y (ranged m n)
derived_sequence_bytes (Goto x m) = bytes_with 25 x 0 m
derived_sequence_bytes (Nonconsecutive x m) = bytes_with 26 x 0 m

unfoldable pub derived_property_bytes : DerivedProperty → Raw
derived_property_bytes (ImpliesNext x y) = bytes 41 x y
derived_property_bytes (Followed x y) = bytes 42 x y
derived_property_bytes (FollowedNext x y) = bytes 43 x y
derived_property_bytes (Always x) = bytes 44 x 0
derived_property_bytes (Eventually x) = bytes 45 x 0
derived_property_bytes (StrongUntil x y) = bytes 46 x y
derived_property_bytes (StrongNext x) = bytes 47 x 0

unfoldable pub sequence_bytes : SequenceOp → Raw
sequence_bytes (Letter x) = bytes 16 x 0
sequence_bytes (Then x y) = bytes 17 x y
sequence_bytes (Fused x y) = bytes 18 x y
sequence_bytes (Either x y) = bytes 19 x y
sequence_bytes (Empty x) = bytes 20 x 0
sequence_bytes (Repeat x) = bytes 21 x 0
sequence_bytes (Clocked x y) = bytes 22 x y
sequence_bytes (Derived o) = derived_sequence_bytes o

unfoldable pub property_bytes : PropertyOp → Raw
property_bytes (Strong x) = bytes 32 x 0
property_bytes (Weak x) = bytes 33 x 0
property_bytes (Negated x) = bytes 34 x 0
property_bytes (AnyOf x y) = bytes 35 x y
property_bytes (BothOf x y) = bytes 36 x y
property_bytes (Implies x y) = bytes 37 x y
property_bytes (Next x) = bytes 38 x 0
property_bytes (Until x y) = bytes 39 x y
property_bytes (Ticked x y) = bytes 40 x y
property_bytes (Defined o) = derived_property_bytes o

unfoldable pub bytes_of : Node → Raw
bytes_of (Boolean o) = boolean_bytes o
bytes_of (Sequence o) = sequence_bytes o
bytes_of (Property o) = property_bytes o

-- ---- decoding

-- v is right as a fourth byte of that kind
pub record Fourth (kind v : ℕ) : Type 0 where
  pub zero : kind ≡ zero_byte → v ≡ 0
  pub range : kind ≡ range_byte → v % 16 ≤ v / 16
  pub count : kind ≡ count_byte → v ≤ 15

-- the bytes that a node can have: a known operator, 0 for an unused y, and a right fourth byte
pub record Written (n : Raw) : Type 0 where
  pub known : ¬ ((row_of n.op).own ≡ none)
  pub unused : (row_of n.op).y ≡ none → n.y ≡ 0
  pub fourth : Fourth (row_of n.op).fourth n.fourth

-- the node r is decoded from the bytes n: the one that the table of operators makes of them, and where a node can have these bytes, its own
pub record Decodes (n : Raw) (r : Node) : Type 0 where
  pub made : r ≡ node_of n
  pub same : Written n → bytes_of r ≡ n
