-- `faults::formed::first_unfit` meets its contract. Assumes nothing.
use native.Mathlib.Omega.{arith}
use mathlib.Core.Path.{◌≡◌, ◌∙◌, sym, ap}
use mathlib.Core.Bool.{not}
use Prim.Native.Nat.{ℕ}
use Rattle.refusal.specs.Heading.{version}
use Rattle.refusal.proofs.Firsts.{found_here, found_nowhere}
use Rattle.faults.specs.Computed.{node_fits, unfit}
use Rattle.faults.proofs.formed.first_unfit.Goals as goal

pub returns-then-not-node_fits : goal.returns-then-not-node_fits
returns-then-not-node_fits c =
    let e : node_fits c.args.b.now c.version_of-version.result c.loop-k.k ≡ node_fits c.args.b.now (version c.args.b.now) c.loop-k.k =
    ap (λ (v : ℕ). node_fits c.args.b.now v c.loop-k.k) c.version_of-version.ensures in
    found_here (unfit c.args.b.now) _ _ (omega arith) c.loop-k.invariant (ap not (sym e ∙ sym c.node_fits.ensures ∙ c.if-not-node_fits.true))

pub returns : goal.returns
returns c = found_nowhere (unfit c.args.b.now) _ _ (omega arith) c.loop-k.invariant
