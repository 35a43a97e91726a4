-- What the code of `check_nodes` and `checked` answers, test by test, is what the refusals of a table say. Assumes nothing.
use borrow.Author.Tests.{eq-eqb, ne_eqb}
use mathlib.Core.Path.{◌≡◌, ◌∙◌, sym, ap}
use mathlib.Core.Logic.{◌⊎◌, inl, inr, ⊎_elim}
use mathlib.Core.Bool.{Bool, true, false, not, ◌||◌, ◌&&◌}
use mathlib.Core.List.{List}
use Prim.Native.Nat.{ℕ, ◌+◌, ◌*◌, ◌-◌, ◌<◌, ◌≤◌}
use native.Mathlib.Omega.{arith}
use lib.Dec.{eqb, ltb, leb}
use lib.ListN.{length, drop}
use Rattle.std.proofs.Common.{Some, None}
use Rattle.telling.proofs.Telling.{is_map, is_and, is_or, is_not, is_eq, is_lt, is_le, same_test, side}
use Rattle.refusal.specs.declared.Verdict.{Verdict}
use Rattle.refusal.specs.declared.Reason.{Reason}
use Rattle.refusal.specs.First.{Answers}
use Rattle.refusal.specs.Heading.{count, heading_refusals}
use Rattle.refusal.specs.Computed.{found, first_case, refused, accepted}
use Rattle.refusal.specs.Reasons.{verdict_of}
use Rattle.refusal.proofs.Cases.{skip, stop, through}
use Rattle.refusal.proofs.Errors.{heading_refused, heading_accepted}
use Rattle.refusal.proofs.Firsts.{found_some, found_none}
use Rattle.nodes.specs.Operators.{boolean}
use Rattle.nodes.specs.Nodes.{sort_at}
use Rattle.hollows.specs.Flags.{hollow}
use Rattle.faults.specs.Computed.{unfit, astray}
use Rattle.table.specs.Check.{ChecksTo}
use Rattle.table.specs.Computed.{node_cases, later_cases, cases_to, checked_to}
use Rattle.table.proofs.CheckingTo.{checks}

-- ---- refusals 6 to 9, of the n nodes

module _ (s : List ℕ) (n : ℕ) where
  -- the cases from the ith on are left
  abbrev Left : ℕ → Type 0
  Left i = first_case (node_cases s n) ≡ first_case (drop i (node_cases s n))

  pub unfit_node : (k : ℕ) → Some k ≡ found (unfit s) n → refused 6 k ≡ first_case (node_cases s n)
  unfolding node_cases
  unfit_node k e = let (b, f) = found_some (unfit s) n k e in rw (← f) (sym (stop _ _ _ b))

  module _ (u : None ≡ found (unfit s) n) where
    left1 : Left 1
    unfolding node_cases
    left1 = skip _ _ _ (found_none (unfit s) n u)

    pub astray_node : (k : ℕ) → Some k ≡ found (astray s n) n → refused 7 k ≡ first_case (node_cases s n)
    unfolding node_cases
    astray_node k e = let (b, f) = found_some (astray s n) n k e in rw (← f) (sym (left1 ∙ stop _ _ _ b))

    module _ (a : None ≡ found (astray s n) n) (t : Bool) (et : t ≡ eqb (sort_at s (n - 1)) boolean) where
      left2 : Left 2
      unfolding node_cases
      left2 = left1 ∙ skip _ _ _ (found_none (astray s n) n a)

      pub boolean_root : t ≡ true → refused 8 0 ≡ first_case (node_cases s n)
      unfolding node_cases
      boolean_root h = sym (left2 ∙ stop _ _ _ (sym et ∙ h))

      module _ (h : t ≡ false) where
        left3 : Left 3
        unfolding node_cases
        left3 = left2 ∙ skip _ _ _ (sym et ∙ h)

        pub hollow_node : (k : ℕ) → Some k ≡ found (hollow s) n → refused 9 k ≡ first_case (node_cases s n)
        unfolding node_cases
        hollow_node k e = let (b, f) = found_some (hollow s) n k e in rw (← f) (sym (left3 ∙ stop _ _ _ b))

        pub sound_nodes : None ≡ found (hollow s) n → accepted ≡ first_case (node_cases s n)
        unfolding node_cases
        sound_nodes e = sym (left3 ∙ skip _ _ _ (found_none (hollow s) n e) ∙ through)

-- ---- all refusals, where n is what the code has of the count and t of the test of 4

module _ (newest : ℕ) (s : List ℕ) where
  pub by_heading : (e : Reason) → Answers (heading_refusals 0x54 newest s) (verdict_of e) → ChecksTo newest s (verdict_of e)
  unfolding checked_to
  by_heading e a = checks s newest _ (heading_refused 0x54 newest s e a (later_cases s))

  module _ (a : Answers (heading_refusals 0x54 newest s) accepted) (n : ℕ) (en : n ≡ count s) (t : Bool) (et : t ≡ (leb 1 n && leb n 120)) where
    wrong : not t ≡ (eqb (count s) 0 || ltb 120 (count s))
    wrong = ap not et ∙ split n ∙ ap (λ (m : ℕ). eqb m 0 || ltb 120 m) en
      where
        split : (m : ℕ) → not (leb 1 m && leb m 120) ≡ (eqb m 0 || ltb 120 m)
        split m = same_test (is_not (is_and (is_le 1 m) (is_le m 120))) (is_map (is_or (is_eq m 0) (is_lt 120 m)) to from)
          where
            to : (m ≡ 0) ⊎ (120 < m) → ¬ ((1 ≤ m) × (m ≤ 120))
            to (inl e) (l, h) = omega arith
            to (inr g) (l, h) = omega arith

            from : ¬ ((1 ≤ m) × (m ≤ 120)) → (m ≡ 0) ⊎ (120 < m)
            from f = ⊎_elim (λ (g : 120 < m). inr g) (λ (h : m ≤ 120). ⊎_elim (λ (l : 0 < m). absurd (f (omega arith, h))) (λ (l : m ≤ 0). inl (omega arith)) (side 0 m)) (side 120 m)

    left0 : first_case (cases_to newest s) ≡ first_case (later_cases s)
    left0 = heading_accepted 0x54 newest s a (later_cases s)

    pub wrong_count : not t ≡ true → ChecksTo newest s (refused 4 0)
    unfolding checked_to later_cases
    wrong_count h = checks s newest _ (sym (left0 ∙ stop _ _ _ (sym wrong ∙ h)))

    module _ (h : not t ≡ false) where
      left4 : first_case (cases_to newest s) ≡ first_case (drop 1 (later_cases s))
      unfolding later_cases
      left4 = left0 ∙ skip _ _ _ (sym wrong ∙ h)

      pub wrong_length : ¬ (length s ≡ 4 * n + 6) → ChecksTo newest s (refused 5 0)
      unfolding checked_to later_cases
      wrong_length g = checks s newest _ (sym (left4 ∙ stop _ _ _ (rw (← en) (ap not (ne_eqb _ _ g)))))

      pub by_nodes : length s ≡ 4 * n + 6 → (v : Verdict) → v ≡ first_case (node_cases s n) → ChecksTo newest s v
      unfolding checked_to later_cases
      by_nodes g v ev = checks s newest v (ev ∙ sym (left4 ∙ skip _ _ _ (rw (← en) (ap not (eq-eqb _ _ g))) ∙ ap (λ (m : ℕ). first_case (node_cases s m)) (sym en)))
