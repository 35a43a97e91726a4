-- The theorems of the expanded table: what its heading says, that its root stands for what the root of s stands for, and that it is
-- accepted where s is, and refused with 9 where s is.
-- Assumes nothing.
use mathlib.Core.Path.{◌≡◌}
use mathlib.Core.List.{List}
use Prim.Native.Nat.{ℕ, ◌+◌, ◌*◌, ◌≤◌}
use lib.ListN.{length}
use Rattle.refusal.specs.Heading.{version, count}
use Rattle.refusal.specs.declared.Verdict.{Verdict}
use Rattle.refusal.specs.Computed.{accepted}
use Rattle.meaning.specs.Syntax.{Seq, Prop}
use Rattle.meaning.specs.Pairs.{Atom}
use Rattle.nodes.specs.Operators.{newest}
use Rattle.nodes.proofs.Built.{Built}
use Rattle.table.specs.Trees.{RootS, RootP}
use Rattle.table.specs.Check.{ChecksTo, Checks}
use Rattle.table.proofs.CheckingTo.{SoundTo}
use Rattle.expansion.specs.Expansion.{base_count, base_table, expansion, expanded_count}
use Rattle.expansion.proofs.Table as table
use Rattle.expansion.proofs.Rooting as root
use Rattle.expansion.proofs.Accepting as accepting
use Rattle.expansion.proofs.AnyVersion as any

module _ (s : List ℕ) where
  pub version-table : version (base_table s) ≡ 2
  version-table = table.version-table s

  pub count-table : count (base_table s) ≡ base_count s
  count-table = table.count-table s

  pub length-table : length (base_table s) ≡ 4 * base_count s + 6
  length-table = table.length-table s

  -- of a table that gets none of refusals 4 to 8
  module _ (ok : Built s) where
    pub keeps_sequence : (r : Seq Atom) → RootS s r → RootS (base_table s) r
    keeps_sequence = root.keeps_sequence s ok

    pub keeps_property : (P : Prop Atom) → RootP s P → RootP (base_table s) P
    keeps_property = root.keeps_property s ok

  -- of a table that is accepted
  pub expanded_checks : SoundTo newest s → base_count s ≤ 120 → Checks (base_table s) accepted
  expanded_checks sound h = accepting.expanded_checks s sound h

  -- ---- and of the expansion of a table of any version, which is the table itself where it is older than 3

  pub expansion-count : count (expansion s) ≡ expanded_count s
  expansion-count = any.expansion-count s

  pub expansion-sequence : Built s → (r : Seq Atom) → RootS s r → RootS (expansion s) r
  expansion-sequence = any.expansion-sequence s

  pub expansion-property : Built s → (P : Prop Atom) → RootP s P → RootP (expansion s) P
  expansion-property = any.expansion-property s

  pub expansion_checks : ChecksTo newest s accepted → expanded_count s ≤ 120 → Checks (expansion s) accepted
  expansion_checks = any.expansion_checks s

  -- 9 is read on the expansion: where s is refused with 9 its expansion is, and where s is accepted, by the law above, it is not
  pub expansion_nine : (v : Verdict) → ChecksTo newest s v → v.number ≡ 9 → expanded_count s ≤ 120 → (u : Verdict) → Checks (expansion s) u → u.number ≡ 9
  expansion_nine = any.expansion_nine s
