-- Document 01, "Numbers of refusal", for a table: when each number from 1 to 9 is given, and at which node. Of a derived node, 9 is read on its
-- expansion. Assumes nothing.
use Rattle.std.specs.Prelude.{◌≡◌, ◌⊎◌, true, List, [], ◌∷◌, ◌++◌, ℕ, ◌+◌, ◌*◌, ◌<◌, length}
use Rattle.refusal.specs.declared.Verdict.{Verdict}
use Rattle.refusal.specs.First.{Refusal, when, at_lowest, Answers}
use Rattle.refusal.specs.Heading.{heading_refusals, count}
use Rattle.meaning.specs.Syntax.{const, Seq, one, cat, Clock}
use Rattle.meaning.specs.Meaning.{Topped}
use Rattle.meaning.specs.Pairs.{Atom, reading}
use Rattle.nodes.specs.declared.Node.{Node}
use Rattle.nodes.specs.declared.Node.TheVariants.{Property}
use Rattle.nodes.specs.declared.PropertyOp.TheVariants.{Strong, Weak, Implies, Defined}
use Rattle.nodes.specs.declared.DerivedProperty.TheVariants.{ImpliesNext, Followed, FollowedNext}
use Rattle.nodes.specs.Operators.{boolean, base}
use Rattle.nodes.specs.Nodes.{sort_at, node_at, root, WellFormed, Astray}
use Rattle.nodes.specs.NodeClock.{Ref, ClockOf}
use Rattle.table.specs.Trees.{SequenceAt, ClockAt}

-- strong, weak or `|->` over what f makes of the sequence x, in the node or in its expansion. That of always, s_eventually and s_until stands over 0,
-- which one letter ⊤ matches
pub data Asks : Node → ℕ → (Seq Atom → Seq Atom) → Type 0 where
  by_strong : {x : ℕ} → Asks (Property (Strong x)) x (λ r. r)
  by_weak : {x : ℕ} → Asks (Property (Weak x)) x (λ r. r)
  by_implies : {x y : ℕ} → Asks (Property (Implies x y)) x (λ r. r)
  by_implies_next : {x y : ℕ} → Asks (Property (Defined (ImpliesNext x y))) x (λ r. cat r (one (const true)))
  by_followed : {x y : ℕ} → Asks (Property (Defined (Followed x y))) x (λ r. r)
  by_followed_next : {x y : ℕ} → Asks (Property (Defined (FollowedNext x y))) x (λ r. cat r (one (const true)))

-- strong, weak or `|->` over a sequence that matches, under the node's clock, no k letters ⊤, k at least 1
pub record Hollow (s : List ℕ) (k : ℕ) : Type 0 where
  pub x : ℕ
  pub over : Seq Atom → Seq Atom
  pub asks : Asks (node_at s k) x over
  pub sequence : Seq Atom
  pub stands : SequenceAt (node_at s) x sequence
  pub ref : Ref
  pub clocked : ClockOf s k ref
  pub clock : Clock Atom
  pub means : ClockAt (node_at s) ref clock
  pub never : ¬ Topped reading clock (over sequence)

-- 1 to 9, in order, where the versions are 1 to v
abbrev pub refusals_to : ℕ → List ℕ → List Refusal
refusals_to v s =
    heading_refusals 0x54 v s
    ++ (when 4 ((count s ≡ 0) ⊎ (120 < count s))
    ∷ when 5 (¬ (length s ≡ 6 + 4 * count s))
    ∷ at_lowest 6 (count s) (λ k. ¬ WellFormed s k)
    ∷ at_lowest 7 (count s) (Astray s (count s))
    ∷ when 8 (sort_at s (root s) ≡ boolean)
    ∷ at_lowest 9 (count s) (Hollow s)
    ∷ [])

-- THE STATEMENT of checking a table. No second verdict fits (`proofs/Theorems.antt`, `unique`)
abbrev pub ChecksTo : ℕ → List ℕ → Verdict → Type 0
ChecksTo v s r = Answers (refusals_to v s) r

-- of a table with base operators alone, as the engines read it
unfoldable pub refusals : List ℕ → List Refusal
refusals s = refusals_to base s

abbrev pub Checks : List ℕ → Verdict → Type 0
Checks s v = Answers (refusals s) v
