-- The operands of a sequence or property node that was read and decoded: both bytes name nodes below it, where a byte that names no operand is 0.
-- Assumes nothing.
use mathlib.Core.Path.{◌≡◌, sym, ap, subst, ◌∙◌}
use mathlib.Core.Bool.{Bool, ◌||◌}
use mathlib.Core.Logic.{⊎_elim}
use mathlib.Core.List.{List}
use Prim.Native.Nat.{ℕ, ◌+◌, ◌*◌, ◌<◌, ◌≤◌}
use native.Mathlib.Omega.{arith}
use native.Mathlib.Nat.{eq-zero-or-pos}
use lib.Dec.{leb, leb→le}
use borrow.Author.Tests.{lt-leb}
use lib.ListN.{length}
use Rattle.refusal.specs.Heading.{count}
use Rattle.nodes.specs.Operators.{Row}
use Rattle.nodes.specs.declared.Raw.{Raw}
use Rattle.nodes.specs.declared.Node.{Node}
use Rattle.nodes.specs.Operators.{none, sequence, operators, Decodes, bytes_of}
use Rattle.nodes.specs.Nodes.{raw_at, row_at, sort_at, WellFormed}
use Rattle.nodes.proofs.Lookup.{row_passes}
use Rattle.nodes.proofs.Coded.{coded_as, read_as}
use Rattle.nodes.proofs.Shapes.{sort_of, sort_is}
use Rattle.walk.specs.Walk.{Known}

-- a sequence or a property has a first operand: antt computes it of every row
led : Row → Bool
led r = leb r.own 1 || leb 1 r.x

module _ (s xs sets : List ℕ) (known : Known s xs sets) (k : ℕ) (inside : k < count s) where
  fit : WellFormed s k
  fit = known.shaped.fit k inside

  -- the bytes of a sequence or a property name nodes below it
  record Low (v : Raw) : Type 0 where
    x : v.x < k
    y : v.y < k

  low : sequence ≤ sort_at s k → Low (raw_at s k)
  unfolding sort_at operators led
  low h =
      let r = row_at s k in
      let first : 1 ≤ r.x = leb→le 1 r.x (rw (lt-leb r.own 1 h) at (row_passes led tt tt (raw_at s k).op)) in
      let l = fit.x.below (λ z. omega arith) in
      record {
        x = l;
        y = ⊎_elim (λ (e : r.y ≡ none). let m = fit.y.number e in omega arith) (λ (g : 0 < r.y). fit.y.below (λ z. omega arith)) (eq-zero-or-pos r.y);
      }

  pub node_bytes : 4 * k + 10 ≤ length s
  node_bytes = let l = known.shaped.long in omega arith

  module _ (v : Raw) (ev : v ≡ raw_at s k) (node : Node) (dec : Decodes v node) where
    pub bytes_of_lem : {kind : Node} → node ≡ kind → v ≡ bytes_of kind
    bytes_of_lem e = ev ∙ coded_as s k fit (read_as s k v node ev dec e)

    low_of : {kind : Node} → node ≡ kind → sequence ≤ sort_of kind → Low v
    low_of {kind} e h =
        let o : sort_at s k ≡ sort_of kind = sort_is s k fit ∙ ap sort_of (read_as s k v node ev dec e) in
        subst Low (sym ev) (low (omega arith))

    -- a is the number that the first byte has, b the second
    pub first_below : {kind : Node} → node ≡ kind → sequence ≤ sort_of kind → (a : ℕ) → a ≡ v.x → a < k
    first_below e h a ea = let l = (low_of e h).x in omega arith

    pub second_below : {kind : Node} → node ≡ kind → sequence ≤ sort_of kind → (b : ℕ) → b ≡ v.y → b < k
    second_below e h b eb = let l = (low_of e h).y in omega arith

-- a node below k has a set
pub set_there : (s xs sets : List ℕ) → Known s xs sets → (k : ℕ) → k < count s → (a : ℕ) → a < k → a < length sets
set_there s xs sets known k inside a l = let r = known.conditions.room in let m = known.shaped.few in omega arith

-- what a call on an operand asks, of a call on node k, where t is the number that falls
pub fallen : {P : Type 0} (m k a t : ℕ) → k ≡ t → P × (k < m) → a < k → (a < t) × (P × (a < m))
fallen m k a t e p l = let h = p.1 in (omega arith, (p.0, omega arith))
