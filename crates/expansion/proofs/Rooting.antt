-- The expanded table's root stands for what the root of s stands for. Assumes nothing.
use native.Mathlib.Omega.{arith}
use mathlib.Core.Path.{◌≡◌, sym, subst}
use mathlib.Core.Logic.{⊎_elim}
use mathlib.Core.List.{List}
use Prim.Native.Nat.{ℕ, ◌<◌, ◌≤◌}
use Rattle.refusal.specs.Heading.{count}
use Rattle.meaning.specs.Syntax.{Seq, Prop}
use Rattle.meaning.specs.Pairs.{Atom}
use Rattle.nodes.specs.Operators.{sequence}
use Rattle.nodes.specs.Nodes.{sort_at, root, WellFormed}
use Rattle.nodes.proofs.Built.{Built, root_in, root_heavy}
use Rattle.table.specs.Trees.{RootS, RootP}
use Rattle.table.proofs.Standing.{sequence_in, property_in}
use Rattle.table.proofs.CheckingTo.{sorts}
use Rattle.expansion.specs.Forms.{Form, size, named}
use Rattle.expansion.specs.Nodes.{form_of}
use Rattle.expansion.specs.Expansion.{booleans, base_table}
use Rattle.expansion.proofs.Standing.{First, Typed, Stands, typed_some, typed_last}
use Rattle.expansion.proofs.Trees.{sequence_stands, property_stands}
use Rattle.expansion.proofs.Table.{count-table, lies_booleans, lies_form}

-- the booleans of the expanded table
abbrev pub InTable : List ℕ → ℕ → Type 0
InTable s = First (base_table s) (booleans s)

-- ---- the form of a sequence or a property node has the node's sort, and so at least one node

module _ (s : List ℕ) (fit : (k : ℕ) → k < count s → WellFormed s k) (k : ℕ) (l : k < count s) (h : sequence ≤ sort_at s k) where
  pub form_typed : Typed (InTable s) (sort_at s k) (form_of s k)
  form_typed =
      let B = InTable s in
      ⊎_elim
      (λ e.
      let (r, d) = sequence_in s (count s) fit (count s) k l l e in
      subst (λ (sort : ℕ). Typed B sort (form_of s k)) (sym e) (sequence_stands s (count s) fit (base_table s) (lies_booleans s) l d).typed)
      (λ e.
      let (P, d) = property_in s (count s) fit (count s) k l l e in
      subst (λ (sort : ℕ). Typed B sort (form_of s k)) (sym e) (property_stands s (count s) fit (base_table s) (lies_booleans s) l d).typed)
      (sorts s k (fit k l) (λ e. omega arith))

  pub form_some : 1 ≤ size (form_of s k)
  form_some = typed_some form_typed h

-- ---- the root

module _ (s : List ℕ) (ok : Built s) where
  abbrev t : List ℕ
  t = base_table s

  -- the root's form
  abbrev pub top : Form
  top = form_of s (root s)

  pub top_typed : Typed (InTable s) (sort_at s (root s)) top
  top_typed = form_typed s ok.fit (root s) (root_in ok) (root_heavy ok)

  -- its last node is the root of the expanded table
  pub root_at : named (booleans s) top ≡ root t
  root_at = let e = typed_last top_typed (root_heavy ok) (booleans s) in let c = count-table s in omega arith

  root_stands : {sort : ℕ} {X : ℕ → Type 0} → Stands (InTable s) t sort X top → X (root t)
  root_stands {X = X} p = subst X root_at (p.there (booleans s) (lies_form s))

  pub keeps_sequence : (r : Seq Atom) → RootS s r → RootS t r
  keeps_sequence r d = root_stands (sequence_stands s (count s) ok.fit t (lies_booleans s) (root_in ok) d)

  pub keeps_property : (P : Prop Atom) → RootP s P → RootP t P
  keeps_property P d = root_stands (property_stands s (count s) ok.fit t (lies_booleans s) (root_in ok) d)
