-- What the parts of the code ask of each other. Assumes nothing.
use Rattle.std.specs.Prelude.{◌≡◌, Bool, cond, List, ℕ, ◌+◌, eqb, length}
use Rattle.std.proofs.Math.Seq.{paste}
use Rattle.refusal.specs.declared.Verdict.{Verdict}
use Rattle.linetext.specs.Text.{level_line, refused_line}

-- the text t is put into d from `at` on, which leaves d'; r is the place after it
pub record Puts (d : List ℕ) (at : ℕ) (t : List ℕ) (r : ℕ) (d' : List ℕ) : Type 0 where
  pub next : r ≡ at + length t
  pub bytes : d' ≡ paste d at t (length t)
  pub size : length d' ≡ length d

-- the line for a table and a record that were answered so
unfoldable pub line_of : Verdict → Verdict → ℕ → Bool → List ℕ
line_of table read level tested = cond (eqb table.number 0) (cond (eqb read.number 0) (level_line level tested) (refused_line read)) (refused_line table)
