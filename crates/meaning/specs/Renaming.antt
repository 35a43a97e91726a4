-- The same tree with other atoms; and so a tree of version 1, whose atoms are signals alone, among those that are read over pairs. Assumes nothing.
use Rattle.std.specs.Prelude.{ℕ}
use Rattle.meaning.specs.Syntax.{Bexp, const, atom, nott, andd, orr, Seq, one, cat, fuse, alt, empty, plus, clocked, Prop, strong, weak, neg, either, both, implies, next, until, under, Clock, free, on}
use Rattle.meaning.specs.Pairs.{Atom, high}

module _ {A B : Type 0} (f : A → B) where
  unfoldable pub rename_b : Bexp A → Bexp B
  rename_b (const v) = const v
  rename_b (atom a) = atom (f a)
  rename_b (nott b) = nott (rename_b b)
  rename_b (andd b d) = andd (rename_b b) (rename_b d)
  rename_b (orr b d) = orr (rename_b b) (rename_b d)

  unfoldable pub rename_s : Seq A → Seq B
  rename_s (one b) = one (rename_b b)
  rename_s (cat r s) = cat (rename_s r) (rename_s s)
  rename_s (fuse r s) = fuse (rename_s r) (rename_s s)
  rename_s (alt r s) = alt (rename_s r) (rename_s s)
  rename_s (empty r) = empty (rename_s r)
  rename_s (plus r) = plus (rename_s r)
  rename_s (clocked c r) = clocked (rename_b c) (rename_s r)

  unfoldable pub rename_p : Prop A → Prop B
  rename_p (strong r) = strong (rename_s r)
  rename_p (weak r) = weak (rename_s r)
  rename_p (neg P) = neg (rename_p P)
  rename_p (either P Q) = either (rename_p P) (rename_p Q)
  rename_p (both P Q) = both (rename_p P) (rename_p Q)
  rename_p (implies r P) = implies (rename_s r) (rename_p P)
  rename_p (next P) = next (rename_p P)
  rename_p (until P Q) = until (rename_p P) (rename_p Q)
  rename_p (under c P) = under (rename_b c) (rename_p P)

  unfoldable pub rename_c : Clock A → Clock B
  rename_c free = free
  rename_c (on c) = on (rename_b c)

-- a tree whose atoms are the numbers of signals, as one to be read over pairs
abbrev pub signals_b : Bexp ℕ → Bexp Atom
signals_b = rename_b high

abbrev pub signals_s : Seq ℕ → Seq Atom
signals_s = rename_s high

abbrev pub signals_p : Prop ℕ → Prop Atom
signals_p = rename_p high

abbrev pub signals_c : Clock ℕ → Clock Atom
signals_c = rename_c high
