-- The rules of the rows, bit by bit: document 01's "Rows left in the workspace", for each operator, from the rows of its operands. n is the number of
-- samples, and a bit that no rule sets is 0. `rowmeaning/proofs` shows that each rule is what the published meaning says. A rewritten table has no clock node,
-- and a derived operator is expanded before: of one no bit is set. Assumes nothing.
use Rattle.std.specs.Prelude.{Bool, true, false, not, ◌||◌, ◌&&◌, List, ◌∷◌, ℕ, zero, suc, ◌*◌, ◌-◌, eqb, leb, ltb, length, get_or}
use Rattle.telling.specs.Tells.{some}
use Rattle.meaning.specs.Words.{Tail, none, tops, bots, other}
use Rattle.positions.specs.Member.{has}
use Rattle.nodes.specs.declared.BooleanOp.{BooleanOp}
use Rattle.nodes.specs.declared.BooleanOp.TheVariants.{Constant, Signal, Not, And, Or, Risen, Fallen}
use Rattle.nodes.specs.declared.SequenceOp.{SequenceOp}
use Rattle.nodes.specs.declared.SequenceOp.TheVariants.{Letter, Then, Fused, Either, Empty, Repeat, Clocked, Derived}
use Rattle.nodes.specs.declared.PropertyOp.{PropertyOp}
use Rattle.nodes.specs.declared.PropertyOp.TheVariants.{Strong, Weak, Negated, AnyOf, BothOf, Implies, Next, Until, Ticked, Defined}
use Rattle.cells.specs.Shares.{share, top_word, word_of, bit_in}

-- ---- boolean: word 0 has bit i where sample i satisfies it

-- sample i has the signal s
abbrev pub signal_bit : List ℕ → ℕ → ℕ → Bool
signal_bit xs s i = ltb i (length xs) && has (get_or xs i 0) s

-- the sample before sample i; that before the first is all zero
abbrev pub sample_before : List ℕ → ℕ → ℕ
sample_before xs i = get_or (0 ∷ xs) i 0

-- at sample i the signal s has risen, has fallen since the sample before
abbrev pub risen_bit : List ℕ → ℕ → ℕ → Bool
risen_bit xs s i = ltb i (length xs) && (has (get_or xs i 0) s && not (has (sample_before xs i) s))

abbrev pub fallen_bit : List ℕ → ℕ → ℕ → Bool
fallen_bit xs s i = ltb i (length xs) && (not (has (get_or xs i 0) s) && has (sample_before xs i) s)

-- by what the operands have: `at a i` is "sample i satisfies boolean a"
abbrev pub value_bit : (ℕ → ℕ → Bool) → List ℕ → BooleanOp → ℕ → Bool
value_bit at xs (Constant v) i = ltb i (length xs) && eqb v 1
value_bit at xs (Signal s) i = signal_bit xs s i
value_bit at xs (Not a) i = ltb i (length xs) && not (at a i)
value_bit at xs (And a b) i = at a i && at b i
value_bit at xs (Or a b) i = at a i || at b i
value_bit at xs (Risen s) i = risen_bit xs s i
value_bit at xs (Fallen s) i = fallen_bit xs s i

-- what boolean a has, where its samples stand in the first of the `stride` words of its node
abbrev pub operand_bit : List ℕ → ℕ → ℕ → ℕ → Bool
operand_bit words stride a = has (get_or words (stride * a) 0)

abbrev pub boolean_bit : List ℕ → List ℕ → BooleanOp → ℕ → Bool
boolean_bit rows xs op i = value_bit (operand_bit rows share) xs op i

-- ---- sequence: word i, for i from 0 to n, has bit j where samples i to j - 1 match

-- a match of row a from i to j that is not empty; the same by its last letter l
abbrev pub longer : List ℕ → ℕ → ℕ → ℕ → Bool
longer rows a i j = bit_in rows a i j && ltb i j

abbrev pub last_letter : List ℕ → ℕ → ℕ → ℕ → Bool
last_letter rows a i l = longer rows a i (suc l)

-- M has the end j from some place of s up to n
unfoldable pub reached : (ℕ → Bool) → (ℕ → ℕ → Bool) → ℕ → ℕ → Bool
reached s M n j = some (λ m. s m && M m j) 0 (suc n)

-- one or more matches of M in a row, d at most after the first; those after an empty first one add nothing
unfoldable pub repeated : (ℕ → ℕ → Bool) → ℕ → ℕ → ℕ → ℕ → Bool
repeated M n zero i j = M i j
repeated M n (suc d) i j = M i j || reached (λ m. M i m && ltb i m) (repeated M n d) n j

abbrev pub sequence_bit : List ℕ → ℕ → SequenceOp → ℕ → ℕ → Bool
sequence_bit rows n (Letter b) i j = ltb i n && (eqb j (suc i) && bit_in rows b 0 i)
sequence_bit rows n (Then a b) i j = reached (bit_in rows a i) (bit_in rows b) n j
sequence_bit rows n (Fused a b) i j = reached (last_letter rows a i) (longer rows b) n j
sequence_bit rows n (Either a b) i j = bit_in rows a i j || bit_in rows b i j
sequence_bit rows n (Empty a) i j = eqb j i
sequence_bit rows n (Repeat a) i j = repeated (bit_in rows a) n (n - i) i j
sequence_bit rows n (Clocked c a) i j = false
sequence_bit rows n (Derived o) i j = false

-- ---- sequence: word 64 has bit i where samples from i on, followed by one or more ⊤, match

-- the last part of the match starts among the samples, where a part from i ends: w is the node's own word i
abbrev pub goes_on : List ℕ → SequenceOp → (ℕ → Bool) → ℕ → Bool
goes_on rows (Letter b) w i = false
goes_on rows (Then a b) w i = some (λ m. bit_in rows a i m && bit_in rows b top_word m) 0 64
goes_on rows (Fused a b) w i = some (λ l. last_letter rows a i l && bit_in rows b top_word l) 0 64
goes_on rows (Either a b) w i = false
goes_on rows (Empty a) w i = false
goes_on rows (Repeat a) w i = some (λ m. w m && bit_in rows a top_word m) 0 64
goes_on rows (Clocked c a) w i = false
goes_on rows (Derived o) w i = false

-- the first part itself ends among the letters ⊤, where the second then matches as well
abbrev pub starts_open : List ℕ → ℕ → SequenceOp → ℕ → Bool
starts_open rows n (Letter b) i = eqb i n
starts_open rows n (Then a b) i = bit_in rows a top_word i && (bit_in rows b n n || bit_in rows b top_word n)
starts_open rows n (Fused a b) i = bit_in rows a top_word i && bit_in rows b top_word n
starts_open rows n (Either a b) i = bit_in rows a top_word i || bit_in rows b top_word i
starts_open rows n (Empty a) i = false
starts_open rows n (Repeat a) i = bit_in rows a top_word i
starts_open rows n (Clocked c a) i = false
starts_open rows n (Derived o) i = false

abbrev pub top_bit : List ℕ → ℕ → SequenceOp → ℕ → Bool
top_bit rows n op i = leb i n && (goes_on rows op (sequence_bit rows n op i) i || starts_open rows n op i)

-- ---- property: words 0, 1, 2 hold neutral (no tail), weak (a ⊤ tail), strong (a ⊥ tail) for each suffix i from 0 to n

-- some match of row a from i is not empty
abbrev pub starts : List ℕ → ℕ → ℕ → ℕ → Bool
starts rows n a i = leb i n && some (longer rows a i) 0 64

-- some match of row a from i, not empty, has its last letter where P holds
abbrev pub starts_into : List ℕ → ℕ → ℕ → (ℕ → Bool) → ℕ → Bool
starts_into rows n a P i = leb i n && some (λ l. last_letter rows a i l && P l) 0 64

-- each match of row a from i that is not empty has its last letter where P holds
abbrev pub follows : List ℕ → ℕ → ℕ → (ℕ → Bool) → ℕ → Bool
follows rows n a P i = leb i n && not (some (λ l. last_letter rows a i l && not (P l)) 0 64)

-- P until Q: at n it is `last`, and at n - d it follows from what it is one place on
unfoldable pub until_from : (ℕ → Bool) → (ℕ → Bool) → Bool → ℕ → ℕ → Bool
until_from P Q last n zero = last
until_from P Q last n (suc d) = Q (n - suc d) || (P (n - suc d) && until_from P Q last n d)

abbrev pub until_bit : (ℕ → Bool) → (ℕ → Bool) → Bool → ℕ → ℕ → Bool
until_bit P Q last n i = leb i n && until_from P Q last n (n - i)

-- what until is at n, which stands for every position of the tail: p and q are P and Q there
abbrev pub until_last : Tail → Bool → Bool → Bool
until_last none p q = true
until_last tops p q = p || q
until_last bots p q = p || q

-- the rules by what an operand tells: `P t i` is "suffix i satisfies P, with the tail t"
abbrev pub negated_bit : ℕ → (Tail → ℕ → Bool) → Tail → ℕ → Bool
negated_bit n P t i = leb i n && not (P (other t) i)

abbrev pub implies_bit : List ℕ → ℕ → ℕ → (Tail → ℕ → Bool) → Tail → ℕ → Bool
implies_bit rows n a P none i = follows rows n a (P none) i
implies_bit rows n a P tops i = follows rows n a (P tops) i
implies_bit rows n a P bots i = follows rows n a (P bots) i && not (bit_in rows a top_word i && not (P bots n))

abbrev pub next_bit : ℕ → (Tail → ℕ → Bool) → Tail → ℕ → Bool
next_bit n P none i = P none (suc i) || eqb i n
next_bit n P tops i = P tops (suc i) || (P tops i && leb n i)
next_bit n P bots i = P bots (suc i) || (P bots i && leb n i)

-- what row p tells
abbrev pub told_in : List ℕ → ℕ → Tail → ℕ → Bool
told_in rows p t = bit_in rows p (word_of t)

abbrev pub property_bit : List ℕ → ℕ → PropertyOp → Tail → ℕ → Bool
property_bit rows n (Strong a) none i = starts rows n a i
property_bit rows n (Strong a) tops i = starts rows n a i || bit_in rows a top_word i
property_bit rows n (Strong a) bots i = starts rows n a i
property_bit rows n (Weak a) none i = (starts rows n a i || bit_in rows a top_word i) || eqb i n
property_bit rows n (Weak a) tops i = starts rows n a i || bit_in rows a top_word i
property_bit rows n (Weak a) bots i = starts rows n a i
property_bit rows n (Negated p) t i = negated_bit n (told_in rows p) t i
property_bit rows n (AnyOf p q) t i = told_in rows p t i || told_in rows q t i
property_bit rows n (BothOf p q) t i = told_in rows p t i && told_in rows q t i
property_bit rows n (Implies a p) t i = implies_bit rows n a (told_in rows p) t i
property_bit rows n (Next p) t i = next_bit n (told_in rows p) t i
property_bit rows n (Until p q) t i = until_bit (told_in rows p t) (told_in rows q t) (until_last t (told_in rows p t n) (told_in rows q t n)) n i
property_bit rows n (Ticked c p) t i = false
property_bit rows n (Defined o) t i = false
