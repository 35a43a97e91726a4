-- `Node::from` meets its contract: the arm of an operator makes what antt computes from the document's line with that code, and the
-- last arm is past every line.
-- Assumes nothing.
use borrow.Author.Rules.{rules}
use mathlib.Core.Path.{◌≡◌, sym}
use Prim.Native.Nat.{ℕ}
use Rattle.nodes.specs.declared.Raw.{Raw}
use Rattle.nodes.specs.declared.Node.TheVariants.{Boolean}
use Rattle.nodes.specs.declared.BooleanOp.TheVariants.{Constant}
use Rattle.nodes.specs.Operators.{operators, lookup, node_of}
use Rattle.nodes.proofs.Lookup.{past}
use Rattle.nodes.proofs.Coded.{decodes}
use Rattle.nodes.proofs.NodeFromRaw.from.Goals as goal

-- the node of the bytes n, where op, x, y and q are these
keyed : (n : Raw) (op x y q : ℕ) → n.op ≡ op → x ≡ n.x → y ≡ n.y → q ≡ n.fourth → lookup (λ e. e.make x y q) (Boolean (Constant 0)) operators op ≡ node_of n
unfolding node_of
keyed n op x y q e f g h = rw (← e, f, g, h)

pub returns-in-0 : goal.returns-in-0
unfolding lookup operators
returns-in-0 c = decodes _ _ (keyed _ 0 _ _ _ c.in-0.is c.from-x.ensures c.from-y.ensures c.from-count.ensures)

pub returns-in-1 : goal.returns-in-1
unfolding lookup operators
returns-in-1 c = decodes _ _ (keyed _ 1 _ _ _ c.in-1.is c.from-x.ensures c.from-y.ensures c.from-count.ensures)

pub returns-in-2 : goal.returns-in-2
unfolding lookup operators
returns-in-2 c = decodes _ _ (keyed _ 2 _ _ _ c.in-2.is c.from-x.ensures c.from-y.ensures c.from-count.ensures)

pub returns-in-3 : goal.returns-in-3
unfolding lookup operators
returns-in-3 c = decodes _ _ (keyed _ 3 _ _ _ c.in-3.is c.from-x.ensures c.from-y.ensures c.from-count.ensures)

pub returns-in-4 : goal.returns-in-4
unfolding lookup operators
returns-in-4 c = decodes _ _ (keyed _ 4 _ _ _ c.in-4.is c.from-x.ensures c.from-y.ensures c.from-count.ensures)

pub returns-in-5 : goal.returns-in-5
unfolding lookup operators
returns-in-5 c = decodes _ _ (keyed _ 5 _ _ _ c.in-5.is c.from-x.ensures c.from-y.ensures c.from-count.ensures)

pub returns-in-6 : goal.returns-in-6
unfolding lookup operators
returns-in-6 c = decodes _ _ (keyed _ 6 _ _ _ c.in-6.is c.from-x.ensures c.from-y.ensures c.from-count.ensures)

pub returns-in-16 : goal.returns-in-16
unfolding lookup operators
returns-in-16 c = decodes _ _ (keyed _ 16 _ _ _ c.in-16.is c.from-x.ensures c.from-y.ensures c.from-count.ensures)

pub returns-in-17 : goal.returns-in-17
unfolding lookup operators
returns-in-17 c = decodes _ _ (keyed _ 17 _ _ _ c.in-17.is c.from-x.ensures c.from-y.ensures c.from-count.ensures)

pub returns-in-18 : goal.returns-in-18
unfolding lookup operators
returns-in-18 c = decodes _ _ (keyed _ 18 _ _ _ c.in-18.is c.from-x.ensures c.from-y.ensures c.from-count.ensures)

pub returns-in-19 : goal.returns-in-19
unfolding lookup operators
returns-in-19 c = decodes _ _ (keyed _ 19 _ _ _ c.in-19.is c.from-x.ensures c.from-y.ensures c.from-count.ensures)

pub returns-in-20 : goal.returns-in-20
unfolding lookup operators
returns-in-20 c = decodes _ _ (keyed _ 20 _ _ _ c.in-20.is c.from-x.ensures c.from-y.ensures c.from-count.ensures)

pub returns-in-21 : goal.returns-in-21
unfolding lookup operators
returns-in-21 c = decodes _ _ (keyed _ 21 _ _ _ c.in-21.is c.from-x.ensures c.from-y.ensures c.from-count.ensures)

pub returns-in-22 : goal.returns-in-22
unfolding lookup operators
returns-in-22 c = decodes _ _ (keyed _ 22 _ _ _ c.in-22.is c.from-x.ensures c.from-y.ensures c.from-count.ensures)

pub returns-in-23 : goal.returns-in-23
unfolding lookup operators
returns-in-23 c = decodes _ _ (keyed _ 23 _ _ _ c.in-23.is c.from-x.ensures c.from-y.ensures c.from-count.ensures)

pub returns-in-24 : goal.returns-in-24
unfolding lookup operators
returns-in-24 c = decodes _ _ (keyed _ 24 _ _ _ c.in-24.is c.from-x.ensures c.from-y.ensures c.from-count.ensures)

pub returns-in-25 : goal.returns-in-25
unfolding lookup operators
returns-in-25 c = decodes _ _ (keyed _ 25 _ _ _ c.in-25.is c.from-x.ensures c.from-y.ensures c.from-count.ensures)

pub returns-in-26 : goal.returns-in-26
unfolding lookup operators
returns-in-26 c = decodes _ _ (keyed _ 26 _ _ _ c.in-26.is c.from-x.ensures c.from-y.ensures c.from-count.ensures)

pub returns-in-32 : goal.returns-in-32
unfolding lookup operators
returns-in-32 c = decodes _ _ (keyed _ 32 _ _ _ c.in-32.is c.from-x.ensures c.from-y.ensures c.from-count.ensures)

pub returns-in-33 : goal.returns-in-33
unfolding lookup operators
returns-in-33 c = decodes _ _ (keyed _ 33 _ _ _ c.in-33.is c.from-x.ensures c.from-y.ensures c.from-count.ensures)

pub returns-in-34 : goal.returns-in-34
unfolding lookup operators
returns-in-34 c = decodes _ _ (keyed _ 34 _ _ _ c.in-34.is c.from-x.ensures c.from-y.ensures c.from-count.ensures)

pub returns-in-35 : goal.returns-in-35
unfolding lookup operators
returns-in-35 c = decodes _ _ (keyed _ 35 _ _ _ c.in-35.is c.from-x.ensures c.from-y.ensures c.from-count.ensures)

pub returns-in-36 : goal.returns-in-36
unfolding lookup operators
returns-in-36 c = decodes _ _ (keyed _ 36 _ _ _ c.in-36.is c.from-x.ensures c.from-y.ensures c.from-count.ensures)

pub returns-in-37 : goal.returns-in-37
unfolding lookup operators
returns-in-37 c = decodes _ _ (keyed _ 37 _ _ _ c.in-37.is c.from-x.ensures c.from-y.ensures c.from-count.ensures)

pub returns-in-38 : goal.returns-in-38
unfolding lookup operators
returns-in-38 c = decodes _ _ (keyed _ 38 _ _ _ c.in-38.is c.from-x.ensures c.from-y.ensures c.from-count.ensures)

pub returns-in-39 : goal.returns-in-39
unfolding lookup operators
returns-in-39 c = decodes _ _ (keyed _ 39 _ _ _ c.in-39.is c.from-x.ensures c.from-y.ensures c.from-count.ensures)

pub returns-in-40 : goal.returns-in-40
unfolding lookup operators
returns-in-40 c = decodes _ _ (keyed _ 40 _ _ _ c.in-40.is c.from-x.ensures c.from-y.ensures c.from-count.ensures)

pub returns-in-41 : goal.returns-in-41
unfolding lookup operators
returns-in-41 c = decodes _ _ (keyed _ 41 _ _ _ c.in-41.is c.from-x.ensures c.from-y.ensures c.from-count.ensures)

pub returns-in-42 : goal.returns-in-42
unfolding lookup operators
returns-in-42 c = decodes _ _ (keyed _ 42 _ _ _ c.in-42.is c.from-x.ensures c.from-y.ensures c.from-count.ensures)

pub returns-in-43 : goal.returns-in-43
unfolding lookup operators
returns-in-43 c = decodes _ _ (keyed _ 43 _ _ _ c.in-43.is c.from-x.ensures c.from-y.ensures c.from-count.ensures)

pub returns-in-44 : goal.returns-in-44
unfolding lookup operators
returns-in-44 c = decodes _ _ (keyed _ 44 _ _ _ c.in-44.is c.from-x.ensures c.from-y.ensures c.from-count.ensures)

pub returns-in-45 : goal.returns-in-45
unfolding lookup operators
returns-in-45 c = decodes _ _ (keyed _ 45 _ _ _ c.in-45.is c.from-x.ensures c.from-y.ensures c.from-count.ensures)

pub returns-in-46 : goal.returns-in-46
unfolding lookup operators
returns-in-46 c = decodes _ _ (keyed _ 46 _ _ _ c.in-46.is c.from-x.ensures c.from-y.ensures c.from-count.ensures)

pub returns-in-47 : goal.returns-in-47
unfolding lookup operators
returns-in-47 c = decodes _ _ (keyed _ 47 _ _ _ c.in-47.is c.from-x.ensures c.from-y.ensures c.from-count.ensures)

pub returns-in_default : goal.returns-in_default
unfolding node_of operators
returns-in_default c = decodes _ _ (sym (past _ (Boolean (Constant 0)) (Unit {0}) operators _ (search rules)).0)
