-- Looking a line up in the table of operators. Assumes nothing.
use borrow.Author.Tests.{ne_eqb, eqb-true}
use mathlib.Core.Path.{◌≡◌, refl, ◌∙◌, sym, ap}
use mathlib.Core.Bool.{Bool, true, false, cond, ◌&&◌}
use mathlib.Core.List.{List, [], ◌∷◌, map}
use Prim.Native.Nat.{ℕ}
use lib.Dec.{T, eqb}
use Rattle.telling.proofs.Telling.{is_and, is_test}
use Rattle.nodes.specs.Operators.{Row}
use Rattle.nodes.specs.Operators.{none, Entry, operators, unknown, lookup, row_of}

-- a function of what is looked up is looked up
pub of_lookup : {A B : Type 0} (g : A → B) (f : Entry → A) (d : A) (es : List Entry) (op : ℕ) → g (lookup f d es op) ≡ lookup (λ e. g (f e)) (g d) es op
unfolding lookup
of_lookup g f d [] op = refl
of_lookup g f d (e ∷ es) op = go (of_lookup g f d es op) (eqb op e.code)
  where
    go : g (lookup f d es op) ≡ lookup (λ e. g (f e)) (g d) es op → (b : Bool)
        → g (cond b (f e) (lookup f d es op)) ≡ cond b (g (f e)) (lookup (λ e. g (f e)) (g d) es op)
    go r true = refl
    go r false = r

-- op is the code of no line, as the last arm of a match has it: a tuple nested to the left
abbrev pub NotAmong : Type 0 → List Entry → ℕ → Type 0
NotAmong acc [] op = acc
NotAmong acc (e ∷ es) op = NotAmong (acc × (op ≡ e.code → ⊥)) es op

pub past : {A : Type 0} (f : Entry → A) (d : A) (acc : Type 0) (es : List Entry) (op : ℕ) → NotAmong acc es op → (lookup f d es op ≡ d) × acc
unfolding lookup
past f d acc [] op h = (refl, h)
past f d acc (e ∷ es) op h =
    let p = past f d (acc × (op ≡ e.code → ⊥)) es op h in
    (simp (ne_eqb op e.code p.1.1) p.0, p.1.0)

-- ---- what antt computes of every line holds of the line that is looked up

abbrev pub all_of : (Entry → Bool) → List Entry → Bool
all_of p [] = true
all_of p (e ∷ es) = p e && all_of p es

-- of a row, known or not
row_in : (p : Row → Bool) → T (p unknown) → (es : List Entry) → T (all_of (λ e. p e.row) es) → (op : ℕ) → T (p (lookup (λ e. e.row) unknown es op))
unfolding lookup
row_in p u [] t op = u
row_in p u (e ∷ es) t op =
    let (h, r) = (is_and (is_test (p e.row)) (is_test (all_of (λ e. p e.row) es))).to t in
    go h (row_in p u es r op) (eqb op e.code)
  where
    go : T (p e.row) → T (p (lookup (λ e. e.row) unknown es op)) → (b : Bool) → T (p (cond b e.row (lookup (λ e. e.row) unknown es op)))
    go h r true = h
    go h r false = r

pub row_passes : (p : Row → Bool) → T (p unknown) → T (all_of (λ e. p e.row) operators) → (op : ℕ) → T (p (row_of op))
unfolding row_of
row_passes p u t op = row_in p u operators t op

-- the line of a known operator
abbrev pub LineOf : (Entry → Bool) → ℕ → Row → Type 0
LineOf p op r = (e : Entry) × (r ≡ e.row) × (op ≡ e.code) × T (p e)

line_in : (p : Entry → Bool) (es : List Entry) → T (all_of p es) → (op : ℕ) → ¬ ((lookup (λ e. e.row) unknown es op).own ≡ none)
    → LineOf p op (lookup (λ e. e.row) unknown es op)
unfolding lookup
line_in p [] t op k = absurd (k refl)
line_in p (e ∷ es) t op k =
    let (h, r) = (is_and (is_test (p e)) (is_test (all_of p es))).to t in
    go h (line_in p es r op) (eqb op e.code) refl k
  where
    go : T (p e) → (¬ ((lookup (λ e. e.row) unknown es op).own ≡ none) → LineOf p op (lookup (λ e. e.row) unknown es op))
        → (b : Bool) → eqb op e.code ≡ b → ¬ ((cond b e.row (lookup (λ e. e.row) unknown es op)).own ≡ none)
        → LineOf p op (cond b e.row (lookup (λ e. e.row) unknown es op))
    go h later true q k = (e, refl, eqb-true op e.code q, h)
    go h later false q k = later k

pub line_of : (p : Entry → Bool) → T (all_of p operators) → (op : ℕ) → ¬ ((row_of op).own ≡ none) → LineOf p op (row_of op)
unfolding row_of
line_of p t op k = line_in p operators t op k

-- two functions of the lines that antt computes to be the same give the same of a known operator
same_in : {A : Type 0} (f g : Entry → A) (d d' : A) (es : List Entry) → map f es ≡ map g es → (op : ℕ) → ¬ ((lookup (λ e. e.row) unknown es op).own ≡ none)
    → lookup f d es op ≡ lookup g d' es op
unfolding lookup
same_in f g d d' [] q op k = absurd (k refl)
same_in {A} f g d d' (e ∷ es) q op k = go (same_in f g d d' es tails op) (eqb op e.code) k
  where
    heads : f e ≡ g e
    heads = cc q

    tails : map f es ≡ map g es
    tails = cc q

    go : (¬ ((lookup (λ e. e.row) unknown es op).own ≡ none) → lookup f d es op ≡ lookup g d' es op) → (b : Bool)
        → ¬ ((cond b e.row (lookup (λ e. e.row) unknown es op)).own ≡ none) → cond b (f e) (lookup f d es op) ≡ cond b (g e) (lookup g d' es op)
    go later true k = heads
    go later false k = later k

pub same_line : {A : Type 0} (f g : Entry → A) (d d' : A) → map f operators ≡ map g operators → (op : ℕ) → ¬ ((row_of op).own ≡ none)
    → lookup f d operators op ≡ lookup g d' operators op
unfolding row_of
same_line f g d d' q op k = same_in f g d d' operators q op k

-- what is looked up of a known operator's code and row is that of the operator and its row
coded_in : {A : Type 0} (f : ℕ → Row → A) (d : A) (es : List Entry) (op : ℕ) → ¬ ((lookup (λ e. e.row) unknown es op).own ≡ none)
    → lookup (λ e. f e.code e.row) d es op ≡ f op (lookup (λ e. e.row) unknown es op)
unfolding lookup
coded_in f d [] op k = absurd (k refl)
coded_in {A} f d (e ∷ es) op k = go (coded_in f d es op) (eqb op e.code) refl k
  where
    go : (¬ ((lookup (λ e. e.row) unknown es op).own ≡ none) → lookup (λ e. f e.code e.row) d es op ≡ f op (lookup (λ e. e.row) unknown es op))
        → (b : Bool) → eqb op e.code ≡ b → ¬ ((cond b e.row (lookup (λ e. e.row) unknown es op)).own ≡ none)
        → cond b (f e.code e.row) (lookup (λ e. f e.code e.row) d es op) ≡ f op (cond b e.row (lookup (λ e. e.row) unknown es op))
    go later true q k = ap (λ (c : ℕ). f c e.row) (sym (eqb-true op e.code q))
    go later false q k = later k

pub coded_line : {A : Type 0} (f : ℕ → Row → A) (d : A) (op : ℕ) → ¬ ((row_of op).own ≡ none) → lookup (λ e. f e.code e.row) d operators op ≡ f op (row_of op)
unfolding row_of
coded_line f d op k = coded_in f d operators op k

-- ---- the last arm of a match that has an arm for some lines

-- the lines that pass a test
abbrev pub only : (Entry → Bool) → List Entry → List Entry
only p [] = []
only p (e ∷ es) = cond (p e) (e ∷ only p es) (only p es)

-- one value, whichever way it is come by
either_way : {A : Type 0} {d r : A} (t : Bool) → r ≡ d → cond t d r ≡ d
either_way true q = refl
either_way false q = q

module _ {A : Type 0} (p : Entry → Bool) (f : Entry → A) (d : A) where
  abbrev masked : Entry → A
  masked e = cond (p e) (f e) d

  -- past the lines that pass
  past_only : (acc : Type 0) (es : List Entry) (op : ℕ) → NotAmong acc (only p es) op → (lookup masked d es op ≡ d) × acc
  unfolding lookup
  past_only acc [] op h = (refl, h)
  past_only acc (e ∷ es) op h = go (λ acc h. past_only acc es op h) (p e) h
    where
      go : ((acc : Type 0) → NotAmong acc (only p es) op → (lookup masked d es op ≡ d) × acc) → (b : Bool) → NotAmong acc (cond b (e ∷ only p es) (only p es)) op
          → (cond (eqb op e.code) (cond b (f e) d) (lookup masked d es op) ≡ d) × acc
      go later true h = let q = later (acc × (op ≡ e.code → ⊥)) h in (simp (ne_eqb op e.code q.1.1) q.0, q.1.0)
      go later false h = let q = later acc h in (either_way (eqb op e.code) q.0, q.1)

  -- a known operator that is past them all, where f is d of all other lines
  pub last_arm : map f operators ≡ map masked operators → (d' : A) (op : ℕ) → ¬ ((row_of op).own ≡ none) → NotAmong (Unit {0}) (only p operators) op → lookup f d' operators op ≡ d
  last_arm q d' op k h = same_line f masked d' d q op k ∙ (past_only (Unit {0}) operators op h).0
