-- An operator that is past every one that gives a boolean gives none. Assumes nothing.
use borrow.Author.Rules.{rules}
use mathlib.Core.Path.{◌≡◌, refl, ◌∙◌, sym}
use mathlib.Core.Bool.{Bool}
use Prim.Native.Nat.{ℕ, ◌<◌, ◌≤◌}
use lib.Dec.{ltb}
use lib.ListN.{length}
use Rattle.std.specs.Prelude.{None}
use Rattle.nodes.specs.declared.Raw.{Raw}
use Rattle.nodes.specs.declared.Node.TheVariants.{Boolean}
use Rattle.nodes.specs.declared.BooleanOp.TheVariants.{Constant}
use Rattle.nodes.specs.Operators.{none, Entry, operators, row_of, node_of}
use Rattle.nodes.proofs.Lookup.{of_lookup, NotAmong, only, last_arm}
use Rattle.expansion.specs.Booleans.{given}
use Rattle.firsts.specs.Gifts.{first_gift, gift_of}

-- the lines that give a boolean
abbrev giving : Entry → Bool
giving e = ltb 0 (length (given (e.make 0 0 16)))

-- past them all
not_giving : (op : ℕ) → 6 < op → (24 ≤ op → 26 < op) → ¬ (op ≡ 41) → (43 ≤ op → 46 < op) → NotAmong (Unit {0}) (only giving operators) op
unfolding given operators
not_giving op a b c d = search rules

pub no_arm : (v : Raw) → ¬ ((row_of v.op).own ≡ none) → 6 < v.op → (24 ≤ v.op → 26 < v.op) → ¬ (v.op ≡ 41) → (43 ≤ v.op → 46 < v.op) → None ≡ gift_of v
unfolding gift_of node_of given first_gift operators
no_arm v k a b c d =
    sym
    (of_lookup (λ v. first_gift (given v)) (λ e. e.make v.x v.y v.fourth) (Boolean (Constant 0)) operators v.op
    ∙ last_arm giving (λ e. first_gift (given (e.make v.x v.y v.fourth))) None refl _ v.op k (not_giving v.op a b c d))
