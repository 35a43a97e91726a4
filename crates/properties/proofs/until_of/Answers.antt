-- `properties::until_of` meets its contract: each word is P until Q of the operands' words. Assumes nothing.
use Rattle.properties.proofs.UntilRuns.{until_made}
use Rattle.properties.proofs.until_of.Goals as goal

pub returns : goal.returns
returns c =
    let p = c.three_at-first.ensures in
    let q = c.three_at-second.ensures in
    let r = c.leading.ensures in
    let neutral = until_made _ _ _ _ _ _ c.args.span.short c.begun-neutral.ensures r.neutral in
    let weak = until_made _ _ _ _ _ _ c.args.span.short c.begun_in_tail-weak.ensures r.weak in
    let strong = until_made _ _ _ _ _ _ c.args.span.short c.begun_in_tail-strong.ensures r.strong in
    record { neutral = λ k. simp (neutral k, p.neutral, q.neutral); weak = λ k. simp (weak k, p.weak, q.weak); strong = λ k. simp (strong k, p.strong, q.strong) }
