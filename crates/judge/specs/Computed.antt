-- What the parts of the code ask of each other. Assumes nothing.
use Rattle.std.specs.Prelude.{◌≡◌, false, List, ℕ, ◌+◌, ◌*◌, length, take}
use Rattle.refusal.specs.declared.Verdict.{Verdict}
use Rattle.rewrite.specs.Computed.{Renumbered}
use Rattle.rows.specs.Rows.{filled}
use Rattle.settling.specs.Computed.{Settles}
use Rattle.judge.specs.declared.MatchEnds.{MatchEnds}

-- a call is settled, with the bytes `lent` left as `new`; with no refusal the workspace d is left as d', with the rows of the new table
pub record Lays (s : List ℕ) (wrong : ℕ) (xs : List ℕ) (start : ℕ) (d lent : List ℕ) (r : Renumbered) (new d' : List ℕ) : Type 0 where
  pub settles : Settles s wrong (length xs) start (length d) lent r new
  pub rows : r.verdict.number ≡ 0 → d' ≡ filled (take (4 * r.count + 6) new) xs d r.count
  pub stays : ¬ (r.verdict.number ≡ 0) → d' ≡ d

-- a refusal: no end
pub record NoEnds (v : Verdict) (r : MatchEnds) : Type 0 where
  pub verdict : r.verdict ≡ v
  pub mask : r.mask.bits ≡ 0
  pub top : r.top ≡ false
