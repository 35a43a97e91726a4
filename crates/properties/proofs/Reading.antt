-- A rule that is told by three sets, of sets that are read off a row. Assumes nothing.
use mathlib.Core.Path.{◌≡◌, ap, subst, fun_ext}
use mathlib.Core.Bool.{Bool}
use mathlib.Core.List.{List}
use Prim.Native.Nat.{ℕ}
use Rattle.positions.specs.Member.{has}
use Rattle.meaning.specs.Words.{Tail, none, tops, bots}
use Rattle.cells.specs.Bits.{told_in}
use Rattle.properties.specs.declared.Suffixes.{Suffixes}
use Rattle.properties.specs.Shapes.{told, Sets, WordsAt}

told_row : (rows : List ℕ) (p : ℕ) (x : Suffixes) → WordsAt rows p x → told x ≡ told_in rows p
told_row rows p x h = fun_ext each
  where
    each : (t : Tail) → told x t ≡ told_in rows p t
    each none = ap has h.neutral
    each tops = ap has h.weak
    each bots = ap has h.strong

pub by_row_lem : (f : (Tail → ℕ → Bool) → Tail → ℕ → Bool) (rows : List ℕ) (p : ℕ) (x r : Suffixes) → WordsAt rows p x → Sets (f (told x)) r → Sets (f (told_in rows p)) r
by_row_lem f rows p x r h s = subst (λ P. Sets (f P) r) (told_row rows p x h) s

pub by_rows : (f : (Tail → ℕ → Bool) → (Tail → ℕ → Bool) → Tail → ℕ → Bool) (rows : List ℕ) (p q : ℕ) (x y r : Suffixes) → WordsAt rows p x → WordsAt rows q y
    → Sets (f (told x) (told y)) r → Sets (f (told_in rows p) (told_in rows q)) r
by_rows f rows p q x y r h k s = by_row_lem (λ P. f P (told_in rows q)) rows p x r h (by_row_lem (f (told x)) rows q y r k s)
