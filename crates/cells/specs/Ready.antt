-- What a call may ask of an operator: its operands' rows lie within the first w words; of a clock node and of a derived operator, nothing. Assumes nothing.
use Rattle.std.specs.Prelude.{ℕ, ◌<◌}
use Rattle.nodes.specs.declared.BooleanOp.{BooleanOp}
use Rattle.nodes.specs.declared.BooleanOp.TheVariants.{Constant, Signal, Not, And, Or, Risen, Fallen}
use Rattle.nodes.specs.declared.SequenceOp.{SequenceOp}
use Rattle.nodes.specs.declared.SequenceOp.TheVariants.{Letter, Then, Fused, Either, Empty, Repeat, Clocked, Derived}
use Rattle.nodes.specs.declared.PropertyOp.{PropertyOp}
use Rattle.nodes.specs.declared.PropertyOp.TheVariants.{Strong, Weak, Negated, AnyOf, BothOf, Implies, Next, Until, Ticked, Defined}
use Rattle.cells.specs.Shares.{HasWords, HasRow}

-- of a boolean their words, `stride` a node
abbrev pub ready_boolean : ℕ → ℕ → BooleanOp → Type 0
ready_boolean w stride (Constant v) = Unit {0}
ready_boolean w stride (Signal s) = s < 64
ready_boolean w stride (Not a) = HasWords w stride a
ready_boolean w stride (And a b) = HasWords w stride a × HasWords w stride b
ready_boolean w stride (Or a b) = HasWords w stride a × HasWords w stride b
ready_boolean w stride (Risen s) = s < 64
ready_boolean w stride (Fallen s) = s < 64

abbrev pub ready_sequence : ℕ → SequenceOp → Type 0
ready_sequence w (Letter b) = HasRow w b
ready_sequence w (Then a b) = HasRow w a × HasRow w b
ready_sequence w (Fused a b) = HasRow w a × HasRow w b
ready_sequence w (Either a b) = HasRow w a × HasRow w b
ready_sequence w (Empty a) = Unit {0}
ready_sequence w (Repeat a) = HasRow w a
ready_sequence w (Clocked c a) = Unit {0}
ready_sequence w (Derived o) = Unit {0}

abbrev pub ready_property : ℕ → PropertyOp → Type 0
ready_property w (Strong a) = HasRow w a
ready_property w (Weak a) = HasRow w a
ready_property w (Negated p) = HasRow w p
ready_property w (AnyOf p q) = HasRow w p × HasRow w q
ready_property w (BothOf p q) = HasRow w p × HasRow w q
ready_property w (Implies a p) = HasRow w a × HasRow w p
ready_property w (Next p) = HasRow w p
ready_property w (Until p q) = HasRow w p × HasRow w q
ready_property w (Ticked c p) = Unit {0}
ready_property w (Defined o) = Unit {0}
