-- Two flags a sequence, what it matches of letters ⊤ alone, and the nodes that ask for a match where there is none: how the code finds refusal 9.
-- `table/proofs/Topping.antt` shows that they are what matching says. Assumes nothing.
use Rattle.std.specs.Prelude.{ℕ, zero, suc, ◌-◌, Bool, true, false, not, cond, ◌&&◌, ◌||◌, List, [], ◌∷◌, ◌++◌, eqb, get_or}
use Rattle.hollows.specs.declared.Tops.{Tops}
use Rattle.nodes.specs.declared.Node.{Node}
use Rattle.nodes.specs.declared.Node.TheVariants.{Boolean, Sequence, Property}
use Rattle.nodes.specs.declared.SequenceOp.{SequenceOp}
use Rattle.nodes.specs.declared.SequenceOp.TheVariants.{Letter, Then, Fused, Either, Empty, Repeat, Clocked, Derived}
use Rattle.nodes.specs.declared.PropertyOp.{PropertyOp}
use Rattle.nodes.specs.declared.PropertyOp.TheVariants.{Strong, Weak, Negated, AnyOf, BothOf, Implies, Next, Until, Ticked, Defined}
use Rattle.nodes.specs.declared.DerivedSequence.{DerivedSequence}
use Rattle.nodes.specs.declared.DerivedSequence.TheVariants.{Repeated, Delayed, Goto, Nonconsecutive}
use Rattle.nodes.specs.declared.DerivedProperty.{DerivedProperty}
use Rattle.nodes.specs.declared.DerivedProperty.TheVariants.{ImpliesNext, Followed, FollowedNext, Always, Eventually, StrongUntil, StrongNext}
use Rattle.nodes.specs.Nodes.{raw_at, node_at}

-- whether the sequence matches no letter, and whether it matches k letters ⊤ for some k of at least 1
abbrev pub flags : Bool → Bool → Tops
flags e m = record { empty = e; some = m }

abbrev pub nothing : Tops
nothing = flags false false

abbrev pub tops_at : List Tops → ℕ → Tops
tops_at done x = get_or done x nothing

-- a match of the one and then of the other, either part possibly empty; two that share one letter; a match of either
abbrev pub then_tops : Tops → Tops → Tops
then_tops a b = flags (a.empty && b.empty) ((a.empty && b.some) || (a.some && (b.empty || b.some)))

abbrev pub fused_tops : Tops → Tops → Tops
fused_tops a b = flags false (a.some && b.some)

abbrev pub either_tops : Tops → Tops → Tops
either_tops a b = flags (a.empty || b.empty) (a.some || b.some)

-- of x[*m:n]; of x ##1 1[*m:n] ##1 y; of x ##[m:n] y
abbrev pub range_tops : ℕ → ℕ → Tops → Tops
range_tops m n x = cond (eqb m 0) (flags true (not (eqb n 0) && x.some)) x

abbrev pub later_tops : ℕ → ℕ → Tops → Tops → Tops
later_tops m n x y = then_tops (then_tops x (range_tops m n (flags false true))) y

unfoldable pub delay_tops : ℕ → ℕ → Tops → Tops → Tops
delay_tops m n x y =
    cond (eqb n 0) (fused_tops x y) (cond (eqb m 0) (either_tops (fused_tops x y) (later_tops 0 (n - 1) x y)) (later_tops (m - 1) (n - 1) x y))

-- by the definition of each derived sequence, at any counts
unfoldable pub derived_tops : DerivedSequence → Tops → Tops → Tops
derived_tops (Repeated i m n) x y = range_tops m n x
derived_tops (Delayed i j m n) x y = delay_tops m n x y
derived_tops (Goto b m) x y = flags (eqb m 0) (not (eqb m 0))
derived_tops (Nonconsecutive b m) x y = flags (eqb m 0) true

-- by the rule of each sequence, from the flags of its operands x and y
unfoldable pub sequence_tops : SequenceOp → Tops → Tops → Tops
sequence_tops (Letter b) x y = flags false true
sequence_tops (Then i j) x y = then_tops x y
sequence_tops (Fused i j) x y = fused_tops x y
sequence_tops (Either i j) x y = either_tops x y
sequence_tops (Empty i) x y = flags true false
sequence_tops (Repeat i) x y = x
sequence_tops (Clocked c j) x y = y
sequence_tops (Derived o) x y = derived_tops o x y

unfoldable pub node_tops : Node → Tops → Tops → Tops
node_tops (Boolean o) x y = nothing
node_tops (Sequence o) x y = sequence_tops o x y
node_tops (Property o) x y = nothing

-- of each of the nodes below k, in their order
unfoldable pub tops_below : List ℕ → ℕ → List Tops
tops_below s zero = []
tops_below s (suc k) =
    tops_below s k ++ (node_tops (node_at s k) (tops_at (tops_below s k) (raw_at s k).x) (tops_at (tops_below s k) (raw_at s k).y) ∷ [])

-- what a derived property is expanded to: `#-#` asks for a match of its operand x, `|=>` and `#=#` of x and one letter more
unfoldable pub hollow_derived : DerivedProperty → Tops → Bool
hollow_derived (ImpliesNext i j) x = not (x.empty || x.some)
hollow_derived (Followed i j) x = not x.some
hollow_derived (FollowedNext i j) x = not (x.empty || x.some)
hollow_derived (Always i) x = false
hollow_derived (Eventually i) x = false
hollow_derived (StrongUntil i j) x = false
hollow_derived (StrongNext i) x = false

-- strong, weak and `|->` ask for a match of one or more letters, of their operand x
unfoldable pub hollow_property : PropertyOp → Tops → Bool
hollow_property (Strong i) x = not x.some
hollow_property (Weak i) x = not x.some
hollow_property (Negated i) x = false
hollow_property (AnyOf i j) x = false
hollow_property (BothOf i j) x = false
hollow_property (Implies i j) x = not x.some
hollow_property (Next i) x = false
hollow_property (Until i j) x = false
hollow_property (Ticked c j) x = false
hollow_property (Defined o) x = hollow_derived o x

unfoldable pub hollow_node : Node → Tops → Bool
hollow_node (Boolean o) x = false
hollow_node (Sequence o) x = false
hollow_node (Property o) x = hollow_property o x

unfoldable pub hollow : List ℕ → ℕ → Bool
hollow s k = hollow_node (node_at s k) (tops_at (tops_below s k) (raw_at s k).x)
