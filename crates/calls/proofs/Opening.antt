-- What a table is taken as by the code: an older one as it is, and a version 3 table that was opened as its expansion, which is in the bytes lent. Assumes
-- nothing.
use native.Mathlib.Omega.{arith}
use borrow.Author.Tests.{eq-eqb, le-ltb}
use mathlib.Core.Path.{◌≡◌, refl, ◌∙◌, sym, subst}
use mathlib.Core.Bool.{true, false, true≢false}
use mathlib.Core.List.{List}
use Prim.Native.Nat.{ℕ, ◌+◌, ◌*◌}
use lib.ListN.{length, take, drop}
use lib.Seq.{take_at}
use Rattle.std.specs.Prelude.{Ok}
use Rattle.refusal.specs.Heading.{version}
use Rattle.refusal.specs.Computed.{accepted}
use Rattle.refusal.proofs.Given.{none_given, not_given-append}
use Rattle.nodes.specs.Operators.{newest}
use Rattle.table.specs.Check.{refusals_to}
use Rattle.table.proofs.CheckingTo.{checks_none}
use Rattle.encoding.specs.Encoding.{put}
use Rattle.expansion.specs.Expansion.{base_table, expansion}
use Rattle.expansion.proofs.Theorems.{length-table}
use Rattle.expand.specs.Opens.{has_version3, open_refusals, expansion_by, Opens}
use Rattle.expand.proofs.Opening.{version_three, counted}
use Rattle.calls.specs.Taken.{Opened, Taken, as_it_is, expanded}

-- an older table
pub older : (s : List ℕ) → has_version3 s ≡ false → Taken s s
unfolding has_version3
older s h = as_it_is (λ l v. true≢false (sym (rw (le-ltb (length s) 6 l, eq-eqb (version s) 3 v)) ∙ h))

-- a table that was opened, whose expansion has m nodes
module _ (s : List ℕ) (wrong : ℕ) (lent : List ℕ) (m : ℕ) (new : List ℕ) (w : Opens s wrong lent (expansion_by (Ok m)) new) where
  module _ (v : has_version3 s ≡ true) where
    opened : Opened s
    unfolding open_refusals
    opened = record {
      checks = checks_none newest s (not_given-append (refusals_to newest s) (drop 9 (open_refusals s wrong)) (none_given (open_refusals s wrong) tt accepted refl w.answer).0).0;
      few = let c = counted s v in let l = w.few refl in omega arith;
    }

    bytes : expansion s ≡ take (4 * m + 6) new
    unfolding put expansion
    bytes =
        rw (eq-eqb (version s) 3 (version_three s v), w.bytes refl)
        (sym (take_at (base_table s) (drop (0 + length (base_table s)) lent) (4 * m + 6) (let l = length-table s in let c = w.count refl in omega arith)))

    pub taken : Taken s (take (4 * m + 6) new)
    taken = subst (Taken s) bytes (expanded opened)
