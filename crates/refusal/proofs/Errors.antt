-- A reason never stands for an acceptance, and what it answers of a heading is answered of a list that goes on. Assumes nothing.
use mathlib.Core.Path.{◌≡◌}
use mathlib.Core.List.{List, ◌++◌}
use Prim.Native.Nat.{ℕ, ◌≤◌}
use native.Mathlib.Omega.{arith}
use lib.ListN.{length}
use Rattle.refusal.specs.declared.Reason.{Reason}
use Rattle.refusal.specs.declared.Reason.TheVariants.{FewBytes, WrongMark, UnknownVersion, WrongCount, WrongLength, NotWellFormed, Astray, BooleanRoot, Hollow, ManySamples, SmallWorkspace, WrongRoot, ManyNodes, LateStart, SmallOutput}
use Rattle.refusal.specs.First.{Answers}
use Rattle.refusal.specs.Heading.{heading_refusals}
use Rattle.refusal.specs.Computed.{Case, first_case, accepted, heading_cases}
use Rattle.refusal.specs.Reasons.{verdict_of}
use Rattle.refusal.proofs.Headings.{heading_stops, heading_passes, heading-long}

pub refused_by : (e : Reason) → ¬ ((verdict_of e).number ≡ 0)
refused_by FewBytes z = omega arith
refused_by WrongMark z = omega arith
refused_by UnknownVersion z = omega arith
refused_by WrongCount z = omega arith
refused_by WrongLength z = omega arith
refused_by (NotWellFormed k) z = omega arith
refused_by (Astray k) z = omega arith
refused_by BooleanRoot z = omega arith
refused_by (Hollow k) z = omega arith
refused_by ManySamples z = omega arith
refused_by SmallWorkspace z = omega arith
refused_by WrongRoot z = omega arith
refused_by ManyNodes z = omega arith
refused_by LateStart z = omega arith
refused_by SmallOutput z = omega arith

module _ (letter newest : ℕ) (s : List ℕ) where
  pub heading_refused : (e : Reason) → Answers (heading_refusals letter newest s) (verdict_of e) → (ds : List Case) → verdict_of e ≡ first_case (heading_cases letter newest s ++ ds)
  heading_refused e a = heading_stops letter newest s (verdict_of e) a (refused_by e)

  module _ (a : Answers (heading_refusals letter newest s) accepted) where
    pub heading_accepted : (ds : List Case) → first_case (heading_cases letter newest s ++ ds) ≡ first_case ds
    heading_accepted = heading_passes letter newest s accepted a (λ i. 0)

    pub six_bytes : 6 ≤ length s
    six_bytes = heading-long letter newest s accepted a (λ i. 0)
