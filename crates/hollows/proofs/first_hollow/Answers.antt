-- `hollows::first_hollow` meets its contract. Assumes nothing.
use native.Mathlib.Omega.{arith}
use mathlib.Core.Path.{refl, ◌∙◌, sym}
use Prim.Native.Nat.{◌<◌, ◌≤◌}
use lib.ListN.{length-set}
use Rattle.std.proofs.Common.{below_more}
use Rattle.refusal.proofs.Firsts.{found_here, found_nowhere}
use Rattle.hollows.specs.Flags.{tops_below, hollow}
use Rattle.hollows.proofs.Keeping.{grown, looked, still, nothing_kept}
use Rattle.hollows.proofs.first_hollow.Goals as goal

pub loop-k-init : goal.loop-k-init
unfolding tops_below
loop-k-init c = record { size = refl; flags = refl; later = λ j l. nothing_kept j; solid = λ j h. absurd (omega arith) }

pub loop-k-preserved : goal.loop-k-preserved
loop-k-preserved c =
    let l = c.loop-k in
    let h : l.k < c.args.n = omega arith in
    let few : c.args.n ≤ 120 = omega arith in
    let p = c.named.ensures.value in
    record {
      size = simp length-set (omega arith);
      flags = grown c.args.b.now c.args.n l.k h few l.done l.invariant.flags l.invariant.later _ c.node_at-raw.ensures _ c.from-v.ensures _ p l.invariant.size _
          c.named-in-loop-k.ensures.value _ c.node_tops.ensures;
      later = still l.k l.done l.invariant.later _;
      solid = below_more _ _ l.invariant.solid
          (sym (looked c.args.b.now c.args.n l.k h few l.done l.invariant.flags l.invariant.later _ c.node_at-raw.ensures _ c.from-v.ensures _ p _ c.is_hollow.ensures)
          ∙ c.if-is_hollow.false);
    }

pub returns-then-is_hollow : goal.returns-then-is_hollow
returns-then-is_hollow c =
    let l = c.loop-k in
    let h : l.k < c.args.n = omega arith in
    let few : c.args.n ≤ 120 = omega arith in
    let p = c.named.ensures.value in
    found_here (hollow c.args.b.now) _ _ h l.invariant.solid
    (sym (looked c.args.b.now c.args.n l.k h few l.done l.invariant.flags l.invariant.later _ c.node_at-raw.ensures _ c.from-v.ensures _ p _ c.is_hollow.ensures)
    ∙ c.if-is_hollow.true)

pub returns : goal.returns
returns c = found_nowhere (hollow c.args.b.now) _ _ (omega arith) c.loop-k.invariant.solid
