-- The tests of a table decide its refusals, one after the other; and what an accepted table has. The versions are 1 to `newest`. Assumes nothing.
use native.Mathlib.Omega.{arith}
use native.Mathlib.Nat.{eq-or-lt_of_le, le_of_suc-le-suc, lt_of_not-le, pos_of_ne-zero}
use borrow.Author.Tests.{le-ltb, ne_eqb, eqb-true, not-false}
use mathlib.Core.Path.{◌≡◌, refl, sym, subst}
use mathlib.Core.Logic.{◌⊎◌, inl, inr, ⊎_elim}
use mathlib.Core.Bool.{false, not, ◌&&◌}
use mathlib.Core.List.{List}
use Prim.Native.Nat.{ℕ, suc, ◌+◌, ◌*◌, ◌<◌, ◌≤◌}
use lib.Dec.{T, eqb, leb}
use lib.ListN.{length, take, drop}
use Rattle.telling.specs.Tells.{Tells}
use Rattle.telling.proofs.Telling.{is_map, is_or, is_and, is_not, is_eq, is_lt, is_le, passed}
use Rattle.refusal.specs.declared.Verdict.{Verdict}
use Rattle.refusal.specs.Heading.{count, version, mark, Known, heading_refusals}
use Rattle.refusal.specs.First.{LowestSuch, when, at_lowest, Answers, NotGiven}
use Rattle.refusal.specs.Computed.{refused, accepted, at0, at_first, heading_cases}
use Rattle.refusal.proofs.Firsts.{none_below}
use Rattle.refusal.proofs.Deciding.{Decided, Decides, decided_when, decided_lowest, decides_append, not_applied, answers}
use Rattle.refusal.proofs.Given.{Other, reached, beyond, answers_none, none_given}
use Rattle.refusal.proofs.Unique.{Singles, single_when, single_lowest, singles_append, answers_unique}
use Rattle.refusal.proofs.Headings.{known_if, decides_heading, heading_singles}
use Rattle.meaning.specs.Syntax.{Seq}
use Rattle.meaning.specs.Pairs.{Atom}
use Rattle.nodes.specs.declared.Node.{Node}
use Rattle.nodes.specs.Operators.{boolean, sequence, property}
use Rattle.nodes.specs.Nodes.{raw_at, row_at, sort_at, node_at, uses_of, root, WellFormed, Astray}
use Rattle.table.specs.Check.{Asks, by_strong, by_weak, by_implies, by_implies_next, by_followed, by_followed_next, Hollow, refusals_to, ChecksTo}
use Rattle.hollows.specs.Flags.{hollow}
use Rattle.faults.specs.Computed.{node_fits, unfit, astray}
use Rattle.table.specs.Computed.{node_cases, later_cases, cases_to, checked_to}
use Rattle.table.proofs.Forming.{fits_tells}
use Rattle.nodes.proofs.Shapes.{sort_of, sort_is}
use Rattle.table.proofs.Standing.{sequence_in, clock_in}
use Rattle.table.proofs.Topping.{asked, asks_of, hollow_tells}
use Rattle.nodes.proofs.Placing.{fine_row}
use Rattle.nodes.proofs.Built.{Built}
use Rattle.nodes.proofs.Clocking.{clock_exists}

module _ (s : List ℕ) where
  -- ---- 6

  all_formed : ((k : ℕ) → k < count s → unfit s k ≡ false) → (k : ℕ) → k < count s → WellFormed s k
  all_formed h k l = (fits_tells s k).to (passed (not-false (node_fits s (version s) k) (h k l)))

  -- ---- 7

  -- a sort that is not below a sequence's is a sequence's or a property's
  heavy_sort : (k : ℕ) → sequence ≤ sort_at s k → (sort_at s k ≡ sequence) ⊎ (sort_at s k ≡ property)
  unfolding sort_at
  heavy_sort k m =
      let l = (fine_row (raw_at s k).op).0 in
      ⊎_elim (λ (e : sequence ≡ (row_at s k).own). inl (sym e)) (λ (g : sequence < (row_at s k).own). inr (omega arith)) (eq-or-lt_of_le m)

  pub sorts : (k : ℕ) → WellFormed s k → ¬ (sort_at s k ≡ boolean) → (sort_at s k ≡ sequence) ⊎ (sort_at s k ≡ property)
  sorts k w b = let z = w.known in heavy_sort k (omega arith)

  astray_tells : (n k : ℕ) → Tells (astray s n k) (Astray s n k)
  unfolding astray
  astray_tells n k =
      is_map (is_and (is_not (is_lt (sort_at s k) sequence)) (is_and (is_not (is_eq (k + 1) n)) (is_not (is_eq (uses_of s k n) 1))))
      (λ q. record { sort = heavy_sort k (le_of_suc-le-suc (lt_of_not-le q.0)); inner = λ e. q.1.0 (omega arith); places = q.1.1 })
      (λ a. (⊎_elim (λ (e : sort_at s k ≡ sequence) h. omega arith) (λ (e : sort_at s k ≡ property) h. omega arith) a.sort, (λ e. a.inner (omega arith), a.places)))

  -- not astray, and so in one place
  placed : (n : ℕ) → ((k : ℕ) → k < n → astray s n k ≡ false) → (k : ℕ) → suc k < n → sequence ≤ sort_at s k → uses_of s k n ≡ 1
  unfolding astray
  placed n h k l z =
      let e = h k (omega arith) in
      eqb-true (uses_of s k n) 1 (not-false (eqb (uses_of s k n) 1) (rw (le-ltb (sort_at s k) sequence z, ne_eqb (k + 1) n (λ q. omega arith)) at e))

  -- ---- 9

  module _ (ok : Built s) where
    hollows_tell : (k : ℕ) → k < count s → Tells (hollow s k) (Hollow s k)
    hollows_tell k l = record {
      to = λ t.
          let (x, f, a) = asks_of s (count s) ok.fit k l t in
          let (b, z, e) = asked s (count s) ok.fit k l a refl in
          let (r, d) = sequence_in s (count s) ok.fit (count s) x (omega arith) (omega arith) z in
          let (ρ, c, o) = clock_exists s ok k l (heavy k l a) in
          let (κ, m) = clock_in s ok ρ o in
          record {
            x = x;
            over = f;
            asks = a;
            sequence = r;
            stands = d;
            ref = ρ;
            clocked = c;
            clock = κ;
            means = m;
            never = (hollow_tells s (count s) ok.fit k l a d κ).to t;
          };
      from = λ h. (hollow_tells s (count s) ok.fit k l h.asks h.stands h.clock).from h.never;
    }
      where
        property-asks : {v : Node} {x : ℕ} {f : Seq Atom → Seq Atom} → Asks v x f → sequence ≤ sort_of v
        property-asks by_strong = omega arith
        property-asks by_weak = omega arith
        property-asks by_implies = omega arith
        property-asks by_implies_next = omega arith
        property-asks by_followed = omega arith
        property-asks by_followed_next = omega arith

        heavy : (k : ℕ) → k < count s → {x : ℕ} {f : Seq Atom → Seq Atom} → Asks (node_at s k) x f → sequence ≤ sort_at s k
        heavy k l a = let h = property-asks a in let e = sort_is s k (ok.fit k l) in omega arith

  -- ---- all

  five : Decided (at0 5 (not (eqb (length s) (4 * count s + 6)))) (when 5 (¬ (length s ≡ 6 + 4 * count s)))
  five = decided_when 5 (is_not (is_map (is_eq (length s) (4 * count s + 6)) (λ e. omega arith) (λ e. omega arith)))

  six : Decided (at_first 6 (count s) (unfit s)) (at_lowest 6 (count s) (λ k. ¬ WellFormed s k))
  six = decided_lowest (unfit s) (count s) 6 (λ k l. is_not (fits_tells s k))

  seven : Decided (at_first 7 (count s) (astray s (count s))) (at_lowest 7 (count s) (Astray s (count s)))
  seven = decided_lowest (astray s (count s)) (count s) 7 (λ k l. astray_tells (count s) k)

  built : ((k : ℕ) → ¬ (when 4 ((count s ≡ 0) ⊎ (120 < count s))).given k) → ((k : ℕ) → ¬ (when 5 (¬ (length s ≡ 6 + 4 * count s))).given k)
      → ((k : ℕ) → ¬ LowestSuch (count s) (λ k. ¬ WellFormed s k) k) → ((k : ℕ) → ¬ LowestSuch (count s) (Astray s (count s)) k)
      → ((k : ℕ) → ¬ (when 8 (sort_at s (root s) ≡ boolean)).given k) → Built s
  built h4 h5 h6 h7 h8 = record {
    some = pos_of_ne-zero (λ e. h4 0 (refl, inl e));
    few = le_of_suc-le-suc (lt_of_not-le (λ l. h4 0 (refl, inr l)));
    long = eqb-true (length s) (4 * count s + 6) (not-false (eqb (length s) (4 * count s + 6)) (not_applied five h5));
    fit = all_formed (none_below (unfit s) (count s) (not_applied six h6));
    once = placed (count s) (none_below (astray s (count s)) (count s) (not_applied seven h7));
    rooted = λ e. h8 0 (refl, e);
  }

  nine : Built s → Decided (at_first 9 (count s) (hollow s)) (at_lowest 9 (count s) (Hollow s))
  nine b = decided_lowest (hollow s) (count s) 9 (hollows_tell b)

  pub decides : (newest : ℕ) → Decides (cases_to newest s) (refusals_to newest s)
  unfolding later_cases node_cases
  decides newest =
      decides_append (heading_cases 0x54 newest s) (later_cases s) (heading_refusals 0x54 newest s) _ (decides_heading 0x54 newest s)
      (λ h. (
        decided_when 4 (is_or (is_eq (count s) 0) (is_lt 120 (count s))),
        λ h4. (
          five,
          λ h5. (
            six,
            λ h6. (seven, λ h7. (decided_when 8 (is_eq (sort_at s (root s)) boolean), λ h8. (nine (built h4 h5 h6 h7 h8), λ _. tt))),
          ),
        ),
      ))

  pub checks : (newest : ℕ) (v : Verdict) → v ≡ checked_to newest s → ChecksTo newest s v
  unfolding checked_to
  checks newest v e = subst (ChecksTo newest s) (sym e) (answers (cases_to newest s) (refusals_to newest s) (decides newest))

-- ---- what an answer says of a table

-- an accepted one
pub record SoundTo (newest : ℕ) (s : List ℕ) : Type 0 where
  pub known : Known newest (version s)
  pub formed : Built s
  pub solid : (k : ℕ) → k < count s → hollow s k ≡ false

module _ (newest : ℕ) (s : List ℕ) (v : Verdict) (c : ChecksTo newest s v) where
  -- an answer that is none of 1 to 8: what the table has, and the ninth
  past_eight : ((i : ℕ) → 1 ≤ i → i ≤ 8 → ¬ (v.number ≡ i)) → Known newest (version s) × Built s × Answers (drop 8 (refusals_to newest s)) v
  past_eight o =
      let others : Other v (take 8 (refusals_to newest s)) = (
        o 1 (omega arith) (omega arith),
        (o 2 (omega arith) (omega arith), (o 3 (omega arith) (omega arith), (o 4 (omega arith) (omega arith), (o 5 (omega arith) (omega arith), (o 6 (omega arith) (omega arith), (o 7 (omega arith) (omega arith), (o 8 (omega arith) (omega arith), tt))))))),
      ) in
      let ((h1, (h2, (h3, (h4, (h5, (h6, (h7, (h8, t)))))))), a) = reached (take 8 (refusals_to newest s)) (drop 8 (refusals_to newest s)) v others c in
      (known_if newest (version s) h3, built s h4 h5 h6 h7 h8, a)

  pub sound : v.number ≡ 0 → SoundTo newest s
  unfolding Answers
  sound z =
      let (o, b, a) = past_eight (λ i l m e. omega arith) in
      record {
        known = o;
        formed = b;
        solid = none_below (hollow s) (count s) (not_applied (nine s b) (⊎_elim (λ q. absurd (let e = q.0 in omega arith)) (λ q. q.0) a));
      }

  -- and one that is refused with 9
  pub hollow_one : v.number ≡ 9 → Built s × Hollow s v.node
  unfolding Answers
  hollow_one z =
      let (o, b, a) = past_eight (λ i l m e. omega arith) in
      (b, ⊎_elim (λ q. q.1.such) (λ q. absurd (let e = q.1.0 in omega arith)) a)

  -- a table that gets none of 1 to 8 is refused with 9 or accepted
  pub nine_or_none : 6 ≤ length s → take 3 s ≡ mark 0x54 → Known newest (version s) → Built s → (v.number ≡ 9) ⊎ (v ≡ accepted)
  unfolding Answers
  nine_or_none l m o b =
      let few : ¬ (120 < count s) = λ g. let f = b.few in omega arith in
      let some : ¬ (count s ≡ 0) = λ e. let f = b.some in omega arith in
      let long : length s ≡ 6 + 4 * count s = let f = b.long in omega arith in
      let not_given : NotGiven (take 8 (refusals_to newest s)) = (
        λ k q. let g = q.1 in omega arith,
        (
          λ k q. q.1 m,
          (
            λ k q. q.1 o,
            (
              λ k q. ⊎_elim some few q.1,
              (
                λ k q. q.1 long,
                (
                  λ k q. q.such (b.fit k q.below),
                  (
                    λ k q. let a = q.such in a.places (b.once k (let i = a.inner in let j = q.below in omega arith) (heavy k a.sort)),
                    (λ k q. b.rooted q.1, tt),
                  ),
                ),
              ),
            ),
          ),
        ),
      ) in
      ⊎_elim (λ q. inl q.0) (λ q. inr (λ i. refused (q.1.0 i) (q.1.1 i))) (beyond (take 8 (refusals_to newest s)) (drop 8 (refusals_to newest s)) v not_given c)
    where
      heavy : (k : ℕ) → (sort_at s k ≡ sequence) ⊎ (sort_at s k ≡ property) → sequence ≤ sort_at s k
      heavy k z = ⊎_elim (λ (e : sort_at s k ≡ sequence). omega arith) (λ (e : sort_at s k ≡ property). omega arith) z

-- ---- the refusals of a table among others

module _ (newest : ℕ) (s : List ℕ) where
  pub checks_none : NotGiven (refusals_to newest s) → ChecksTo newest s accepted
  checks_none n = answers_none (refusals_to newest s) accepted n refl refl

  pub checks_given : (v : Verdict) → ChecksTo newest s v → v.number ≡ 0 → NotGiven (refusals_to newest s)
  checks_given v c z = (none_given (refusals_to newest s) tt v z c).0

  -- they are numbered 1 to 9
  pub not_of_table : (v : Verdict) → ¬ ((1 ≤ v.number) × (v.number ≤ 9)) → Other v (refusals_to newest s)
  not_of_table v h = (no 1 tt, (no 2 tt, (no 3 tt, (no 4 tt, (no 5 tt, (no 6 tt, (no 7 tt, (no 8 tt, (no 9 tt, tt)))))))))
    where
      no : (i : ℕ) → T (leb 1 i && leb i 9) → ¬ (v.number ≡ i)
      no i t e = let (a, b) = (is_and (is_le 1 i) (is_le i 9)).to t in h (omega arith, omega arith)

  -- each is given at one node at most
  pub table_singles : Singles (refusals_to newest s)
  table_singles =
      singles_append (heading_refusals 0x54 newest s) (drop 3 (refusals_to newest s)) (heading_singles 0x54 newest s)
      (single_when 4 _, (single_when 5 _, (single_lowest 6 _ _, (single_lowest 7 _ _, (single_when 8 _, (single_lowest 9 _ _, tt))))))

  -- and so no second verdict fits
  pub checks_only : (v : Verdict) → ChecksTo newest s v → v ≡ checked_to newest s
  checks_only v c = answers_unique (refusals_to newest s) table_singles v (checked_to newest s) c (checks s newest (checked_to newest s) refl)
