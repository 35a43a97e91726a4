-- The rules that a clock changes, place by place: the letter, nexttime and until. T has the ticks, with no clock all n samples; `rowmeaning/proofs`
-- shows that each rule is what the page says. Assumes nothing.
use Rattle.std.specs.Prelude.{Bool, true, false, not, cond, ◌||◌, ◌&&◌, ℕ, suc, ◌-◌, eqb, leb, ltb}
use Rattle.telling.specs.Tells.{some, every}
use Rattle.meaning.specs.Words.{Tail, none, tops, bots}
use Rattle.cells.specs.Shares.{top_word}
use Rattle.cells.specs.Bits.{until_bit}
use Rattle.cells.specs.Stored.{set64}

-- a place up to n that is no tick
abbrev pub idle : (ℕ → Bool) → ℕ → ℕ → Bool
idle T n k = leb k n && not (T k)

-- ---- the letter b, where B has the samples that satisfy it

-- the match from i ends after its last letter j - 1, which is the first tick from i on and satisfies b
unfoldable pub letter_bit : (ℕ → Bool) → (ℕ → Bool) → ℕ → ℕ → Bool
letter_bit B T i j = ltb i j && (T (j - 1) && (B (j - 1) && every (λ m. not (T m)) i (j - 1 - i)))

-- it goes on into ⊤ where there is no tick from i on
abbrev pub letter_top : (ℕ → Bool) → ℕ → ℕ → Bool
letter_top T n i = leb i n && not (some (λ m. T m && leb i m) 0 64)

-- word i of its row
abbrev pub letter_word : (ℕ → Bool) → (ℕ → Bool) → ℕ → ℕ → ℕ
letter_word B T n i = cond (leb i n) (set64 (letter_bit B T i)) (cond (eqb i top_word) (set64 (letter_top T n)) 0)

-- ---- runs of ticks: what holds with one tail, and what is tested

-- from i on, H at each tick up to one that is in G; `last` where no such tick is left
unfoldable pub tick_run : (ℕ → Bool) → ℕ → Bool → (ℕ → Bool) → (ℕ → Bool) → ℕ → Bool
tick_run T n last H G = until_bit (λ k. H k || idle T n k) (λ k. G k && T k) last n

-- G at the first tick from i on, and at the second
abbrev pub first_tick : (ℕ → Bool) → ℕ → Bool → (ℕ → Bool) → ℕ → Bool
first_tick T n last G = tick_run T n last (λ k. false) G

abbrev pub second_tick : (ℕ → Bool) → ℕ → Bool → (ℕ → Bool) → ℕ → Bool
second_tick T n last G = first_tick T n last (λ k. first_tick T n last G (suc k))

-- with no further tick nexttime is yes with no tail or a ⊤ tail, and no with a ⊥ tail
abbrev pub unticked : Tail → Bool
unticked none = true
unticked tops = true
unticked bots = false

-- nexttime under a clock, where P has the suffixes that satisfy its operand
abbrev pub second_bit : (ℕ → Bool) → ℕ → (Tail → ℕ → Bool) → Tail → ℕ → Bool
second_bit T n P t = second_tick T n (unticked t) (P t)

-- what until is at n, where p and q are P and Q there: in a ⊤ tail a clock asks nothing, and in a ⊥ tail it counts nothing
abbrev pub until_end : Bool → Tail → Bool → Bool → Bool
until_end clocked none p q = true
until_end clocked tops p q = (p || q) || clocked
until_end clocked bots p q = p || (q && not clocked)

-- P until Q: Q counts at ticks alone, and P is asked at ticks alone
abbrev pub ticked_until : Bool → (ℕ → Bool) → ℕ → (Tail → ℕ → Bool) → (Tail → ℕ → Bool) → Tail → ℕ → Bool
ticked_until clocked T n P Q t = tick_run T n (until_end clocked t (P t n) (Q t n)) (P t) (Q t)
