-- What the code answers at each of its exits, test by test. Assumes nothing.
use borrow.Author.Tests.{lt-ltb, le-ltb}
use native.Mathlib.Omega.{arith}
use mathlib.Core.Path.{◌≡◌, refl, ◌∙◌, sym, ap}
use mathlib.Core.List.{List, ◌++◌}
use Prim.Native.Nat.{ℕ, ◌+◌, ◌*◌, ◌<◌, ◌≤◌}
use lib.ListN.{length, drop}
use Rattle.std.specs.Prelude.{Option, Ok, Err}
use Rattle.refusal.specs.declared.Reason.{Reason}
use Rattle.refusal.specs.declared.Reason.TheVariants.{ManyNodes, SmallOutput}
use Rattle.refusal.specs.Computed.{first_case, accepted}
use Rattle.refusal.specs.Reasons.{verdict_of}
use Rattle.refusal.proofs.Cases.{skip, stop, through}
use Rattle.refusal.proofs.Errors.{refused_by}
use Rattle.table.specs.Check.{Checks}
use Rattle.nodes.proofs.Built.{Built}
use Rattle.table.proofs.Checking.{sound}
use Rattle.clocks.specs.Computed.{clock_by, AcceptedTable, Timed}
use Rattle.numbers.specs.declared.Counts.{Counts}
use Rattle.numbers.specs.Numbers.{new_count}
use Rattle.numbers.specs.Computed.{CountsOf, Numbered}
use Rattle.writing.specs.Tables.{new_table}
use Rattle.encoding.specs.Encoding.{put}
use Rattle.writing.proofs.Lengths.{length-table}
use Rattle.rewrite.specs.Computed.{rewriting_by, renumbered, Renumbers}
use Rattle.rewrite.proofs.Deciding.{cases, size, size_is, table_stops, table_passes, answered}

-- a table that is accepted
module _ (s : List ℕ) (h : Checks s accepted) where
  built : Built s
  built = (sound s accepted h refl).formed

  pub table_is : AcceptedTable s
  table_is = let l = built.long in record { checks = h; few = built.few; long = omega arith }

module _ (s d : List ℕ) where
  -- a refusal hands on nothing, and changes nothing lent
  refuses : (e : Reason) → verdict_of e ≡ first_case (cases s (length d)) → (clocks : List (Option ℕ)) (numbers : List ℕ) → Renumbers s d (renumbered (rewriting_by (Err e)) clocks numbers) d
  refuses e q clocks numbers =
      record {
        rewrites = record { answer = answered s d (verdict_of e) q; accepted = λ z. absurd (refused_by e z); refused = λ _. (refl, refl) };
        numbered = λ z. absurd (refused_by e z);
      }

  pub of_table : (e : Reason) → Checks s (verdict_of e) → (clocks : List (Option ℕ)) (numbers : List ℕ) → Renumbers s d (renumbered (rewriting_by (Err e)) clocks numbers) d
  of_table e c = refuses e (table_stops s (length d) (verdict_of e) c (refused_by e))

  module _ (h : Checks s accepted) (clocks : List (Option ℕ)) (timed : Timed s clocks) (counts : Counts) (counted : CountsOf s clocks counts) where
    abbrev m : ℕ
    m = counts.all

    size_all : size s ≡ m
    size_all = size_is s h (clock_by clocks) timed.right ∙ sym counted.all

    pub many_nodes : 120 < m → (numbers : List ℕ) → Renumbers s d (renumbered (rewriting_by (Err ManyNodes)) clocks numbers) d
    many_nodes g = refuses ManyNodes (sym (table_passes s (length d) accepted h refl ∙ stop _ _ _ (rw size_all (lt-ltb 120 m g)))) clocks

    module _ (few : m ≤ 120) where
      pub small_output : length d < 4 * m + 6 → (numbers : List ℕ) → Renumbers s d (renumbered (rewriting_by (Err SmallOutput)) clocks numbers) d
      small_output g =
          refuses SmallOutput
          (sym (table_passes s (length d) accepted h refl ∙ skip _ _ _ (rw size_all (le-ltb 120 m few)) ∙ stop _ _ _ (rw size_all (lt-ltb (length d) (6 + 4 * m) (omega arith))))) clocks

      pub rewritten : 4 * m + 6 ≤ length d → (numbers : List ℕ) → Numbered s clocks numbers → (d' : List ℕ) → d' ≡ put d 0 (new_table s (clock_by clocks))
          → Renumbers s d (renumbered (rewriting_by (Ok m)) clocks numbers) d'
      unfolding put
      rewritten g numbers n d' e =
          let l = length-table s (clock_by clocks) (built s h).fit in
          let em = counted.all in
          let j : 0 + length (new_table s (clock_by clocks)) ≡ 6 + 4 * new_count s (clock_by clocks) = omega arith in
          record {
            rewrites = record {
              answer = answered s d accepted
                  (sym (table_passes s (length d) accepted h refl ∙ skip _ _ _ (rw size_all (le-ltb 120 m few)) ∙ skip _ _ _ (rw size_all (le-ltb (length d) (6 + 4 * m) (omega arith))) ∙ through));
              accepted = λ _. (clock_by clocks, timed.right, (em, e ∙ ap (λ (i : ℕ). new_table s (clock_by clocks) ++ drop i d) j));
              refused = λ z. absurd (z refl);
            };
            numbered = λ _. n;
          }
