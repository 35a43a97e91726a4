-- The block of each derived operator, docs/BLOCKS.md: its definition in source 000 written out to base nodes. x and y are the operands, b is the number of a
-- boolean, and c that of the boolean that the block makes. Assumes nothing.
use Rattle.std.specs.Prelude.{cond, ℕ, zero, suc, ltb}
use Rattle.expansion.specs.Forms.{Form, byte, node}

-- ---- base operators

-- one operand: [*0], [*1:$]; weak, not, nexttime
abbrev pub one : ℕ → Form → Form
one op x = node op x (byte 0)

abbrev pub letter : ℕ → Form
letter b = one 16 (byte b)

-- ---- sequences

-- x[*0]; x[*m] is x[*m-1] ##1 x
unfoldable pub times : Form → ℕ → Form
times x zero = one 20 x
times x (suc m) = node 17 (times x m) x

-- 23, x[*m:n]: x[*m:m] is x[*m]; with m < n it is x[*m:n-1] or x[*n]
unfoldable pub range : Form → ℕ → ℕ → Form
range x m zero = times x m
range x m (suc n) = cond (ltb m (suc n)) (node 19 (range x m n) (times x (suc n))) (times x m)

-- x[*0:$] is x[*0] or x[*1:$]
abbrev pub any : Form → Form
any x = node 19 (one 20 x) (one 21 x)

-- x ##[m+1:n+1] y is x ##1 1[*m:n] ##1 y; c is 1
abbrev pub later : ℕ → Form → Form → ℕ → ℕ → Form
later c x y m n = node 17 (node 17 x (range (letter c) m n)) y

-- 24, x ##[m:n] y: x ##[0:0] y is x ##0 y, and x ##[0:n] y is x ##0 y or x ##[1:n] y; c is 1
unfoldable pub delay : ℕ → Form → Form → ℕ → ℕ → Form
delay c x y m zero = node 18 x y
delay c x y zero (suc n) = node 19 (node 18 x y) (later c x y zero n)
delay c x y (suc m) (suc n) = later c x y m n

-- 25, b[->m] is (!b[*0:$] ##1 b)[*m]; c is !b
abbrev pub goto : ℕ → ℕ → ℕ → Form
goto c b m = times (node 17 (any (letter c)) (letter b)) m

-- 26, b[=m] is b[->m] ##1 !b[*0:$]; c is !b
abbrev pub nonconsecutive : ℕ → ℕ → ℕ → Form
nonconsecutive c b m = node 17 (goto c b m) (any (letter c))

-- ---- properties

-- 41, x |=> y is (x ##1 1) |-> y; c is 1
abbrev pub implies_next : ℕ → Form → Form → Form
implies_next c x y = node 37 (node 17 x (letter c)) y

-- 42, x #-# y is not (x |-> not y)
abbrev pub followed : Form → Form → Form
followed x y = one 34 (node 37 x (one 34 y))

-- 43, x #=# y is not (x |=> not y); c is 1
abbrev pub followed_next : ℕ → Form → Form → Form
followed_next c x y = one 34 (implies_next c x (one 34 y))

-- 44, always x is x until weak(0); c is 0
abbrev pub always : ℕ → Form → Form
always c x = node 39 x (one 33 (letter c))

-- 45, s_eventually x is not (always (not x)); c is 0
abbrev pub eventually : ℕ → Form → Form
eventually c x = one 34 (always c (one 34 x))

-- 46, x s_until y is (x until y) and s_eventually y; c is 0
abbrev pub strong_until : ℕ → Form → Form → Form
strong_until c x y = node 36 (node 39 x y) (eventually c y)

-- 47, s_nexttime x is not (nexttime (not x))
abbrev pub strong_next : Form → Form
strong_next x = one 34 (one 38 (one 34 x))
