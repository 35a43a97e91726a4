-- The booleans, the root's form and the heading make the expanded table. Assumes nothing.
use native.Mathlib.Omega.{arith}
use mathlib.Core.Path.{◌≡◌, refl, ◌∙◌, sym, ap}
use mathlib.Core.List.{List}
use Prim.Native.Nat.{ℕ, ◌+◌, ◌*◌, ◌-◌, ◌≤◌}
use lib.ListN.{length}
use Rattle.std.specs.Prelude.{Some, None}
use Rattle.refusal.specs.Heading.{count}
use Rattle.nodes.specs.Operators.{sequence}
use Rattle.nodes.specs.Nodes.{sort_at, root}
use Rattle.encoding.specs.Encoding.{heading, encoded, put, put_nodes}
use Rattle.encoding.proofs.Putting.{put_more, put_before, encoded-append}
use Rattle.expansion.specs.Forms.{Form, size, written}
use Rattle.expansion.specs.Booleans.{number_of, booleans_below}
use Rattle.expansion.specs.Nodes.{form_of}
use Rattle.expansion.specs.Formed.{Formed}
use Rattle.expansion.specs.Expansion.{base_count, base_nodes, base_table}
use Rattle.expansion.proofs.Numbering.{number_le, length-booleans}
use Rattle.firsts.specs.Firsts.{FirstsPut}
use Rattle.pieces.specs.declared.Piece.TheVariants.{NodeOf}
use Rattle.pieces.specs.Pieces.{piece_form, Fits}
use Rattle.nodestep.specs.Ready.{Ready}
use Rattle.unfold.specs.Puts.{Puts}
use Rattle.unfold.proofs.Writing.{no_room, roomy, after}
use Rattle.expand.specs.Opens.{Unfolds}

module _ (s : List ℕ) (n : ℕ) (formed : Formed s n) (en : n ≡ count s) (some : 1 ≤ n) where
  root_is : n - 1 ≡ root s
  root_is = ap (λ (i : ℕ). i - 1) en

  pub root_fits : sequence ≤ sort_at s (root s) → Fits s n (NodeOf (n - 1))
  unfolding Fits
  root_fits h = (omega arith, rw root_is h)

  module _ (d : List ℕ) (first : ℕ) (numbers d₁ : List ℕ) (h : FirstsPut s n d first numbers d₁) where
    pub ready : Ready s n numbers
    ready = record { formed = formed; numbered = h.numbered }

    pub first_few : first ≤ 120
    first_few = let e = h.count in let l = number_le s n in let f = formed.few in omega arith

    abbrev f : Form
    f = form_of s (root s)

    abbrev g : Form
    g = piece_form (form_of s) (NodeOf (n - 1))

    form_is : g ≡ f
    unfolding piece_form
    form_is = ap (form_of s) root_is

    first_is : first ≡ number_of s (count s)
    first_is = h.count ∙ ap (number_of s) en

    counted : first + size g + 0 ≡ base_count s
    counted = let e = first_is in let z = ap size form_is in omega arith

    module _ (d₂ : List ℕ) where
      -- more than 120
      pub unfolds_over : Puts d₁ first 0 (NodeOf (n - 1)) g None d₂ → Unfolds s d None d₂
      unfolds_over p = record { count = λ l. absurd (none l); bytes = λ l. absurd (none l); over = λ _. refl }
        where
          none : base_count s ≤ 120 → ⊥
          none l = let c = counted in no_room p (omega arith)

      -- the booleans and the form
      module _ (m : ℕ) (p : Puts d₁ first 0 (NodeOf (n - 1)) g (Some m) d₂) (room : 486 ≤ length d) where
        nodes : d₂ ≡ put_nodes d 0 (base_nodes s)
        nodes =
            let us = booleans_below s (count s) in
            let e = first_is in
            let b = roomy p in
            let long : length us ≡ number_of s (count s) = length-booleans s (count s) in
            let a : d₁ ≡ put d (4 * 0 + 6) (encoded us) = h.bytes ∙ ap (λ (i : ℕ). put_nodes d 0 (booleans_below s i)) en in
            let place : 4 * first + 6 ≡ 4 * (0 + length us) + 6 = omega arith in
            p.bytes b ∙ ap (λ (g : Form). put_nodes d₁ first (written first g)) form_is
            ∙ ap (λ (i : ℕ). put_nodes d₁ first (written i f)) e
            ∙ ap (λ (i : ℕ). put d₁ i (encoded (written (number_of s (count s)) f))) place
            ∙ put_more d d₁ 0 us a (omega arith) (encoded (written (number_of s (count s)) f))
            ∙ ap (put d (4 * 0 + 6)) (sym (encoded-append us (written (number_of s (count s)) f)))

        pub unfolds : (d₃ : List ℕ) → d₃ ≡ put d₂ 0 (heading 2 0 m) → Unfolds s d (Some m) d₃
        unfolding base_table
        unfolds d₃ e₃ =
            let c = counted in
            let b = roomy p in
            let e : m ≡ base_count s = after p ∙ omega arith in
            record {
              count = λ _. ap Some e;
              bytes = λ _.
                  e₃ ∙ ap (λ (i : ℕ). put d₂ 0 (heading 2 0 i)) e ∙ ap (λ (u : List ℕ). put u 0 (heading 2 0 (base_count s))) nodes
                  ∙ put_before d (heading 2 0 (base_count s)) (encoded (base_nodes s)) (omega arith);
              over = λ o. absurd (let z : ⊥ = omega arith in z);
            }
