-- Writing a piece after its operands, and stopping where there is no room for all. Assumes nothing.
use native.Mathlib.Omega.{arith}
use mathlib.Core.Path.{◌≡◌, refl, ◌∙◌, sym, ap}
use mathlib.Core.Logic.{⊎_elim}
use mathlib.Core.List.{List, [], ◌∷◌, ◌++◌}
use Prim.Native.Nat.{ℕ, ◌+◌, ◌*◌, ◌-◌, ◌<◌, ◌≤◌}
use lib.ListN.{length, length-append}
use Rattle.std.specs.Prelude.{Some, None}
use Rattle.telling.proofs.Telling.{side}
use Rattle.nodes.specs.Operators.{bytes}
use Rattle.encoding.specs.Encoding.{four_bytes, encoded, put, put_nodes}
use Rattle.encoding.proofs.Putting.{put_none, put_more, encoded-append}
use Rattle.expansion.specs.Forms.{Form, byte, node, size, named, written}
use Rattle.expansion.proofs.Lying.{length-written}
use Rattle.pieces.specs.declared.Piece.{Piece}
use Rattle.pieces.specs.declared.Piece.TheVariants.{Byte, NodeOf, SequenceOf, PropertyOf}
use Rattle.pieces.specs.declared.Step.{Step}
use Rattle.pieces.specs.Pieces.{piece_form, rank, NoByte, Stepped}
use Rattle.unfold.specs.Puts.{placed_by, Puts}

-- ---- a plain byte

pub no_byte : (p : Piece) → ((v : ℕ) → p ≡ Byte v → ⊥) → NoByte p
unfolding NoByte
no_byte (Byte v) h = h v refl
no_byte (NodeOf k) h = tt
no_byte (SequenceOf q) h = tt
no_byte (PropertyOf q) h = tt

pub puts_byte : (d : List ℕ) (at later : ℕ) (v : ℕ) → at + later ≤ 120 → Puts d at later (Byte v) (byte v) (Some at) d
unfolding size written encoded NoByte
puts_byte d at later v l = record {
  next = λ _. ap Some (omega arith);
  bytes = λ _. put_none d (4 * at + 6);
  grows = λ _ z. absurd z;
  over = λ g. absurd (let z : ⊥ = omega arith in z);
}

-- the byte that names a form is the number of its last node
last_named : (at : ℕ) (f : Form) → 1 ≤ size f → at + size f - 1 ≡ named at f
unfolding size named
last_named at (byte v) l = absurd (let z : ⊥ = omega arith in z)
last_named at (node op x y) l = omega arith

-- ---- no room

module _ {d : List ℕ} {at later : ℕ} {p : Piece} {f : Form} {d' : List ℕ} where
  pub no_room : Puts d at later p f None d' → at + size f + later ≤ 120 → ⊥
  no_room h g = let e = h.next g in cc

  -- where there is an answer there was room
  module _ {m : ℕ} (h : Puts d at later p f (Some m) d') where
    pub roomy : at + size f + later ≤ 120
    roomy =
        ⊎_elim (λ (g : 120 < at + size f + later). absurd (let e = h.over g in let z : ⊥ = cc in z)) (λ (g : at + size f + later ≤ 120). g)
        (side 120 (at + size f + later))

    pub after : m ≡ at + size f
    after = let e = h.next roomy in cc

    last : NoByte p → m - 1 ≡ named at f
    last z = ap (λ (i : ℕ). i - 1) after ∙ last_named at f (h.grows roomy z)

-- the operand byte of what was written
placed_named : (F : ℕ → Form) {d : List ℕ} {at later m : ℕ} {d' : List ℕ} (p : Piece) → Puts d at later p (piece_form F p) (Some m) d'
    → placed_by p m ≡ named at (piece_form F p)
unfolding placed_by piece_form named NoByte
placed_named F (Byte v) h = refl
placed_named F (NodeOf k) h = last h tt
placed_named F (SequenceOf q) h = last h tt
placed_named F (PropertyOf q) h = last h tt

-- ---- a node, after its operands

module _ (F : ℕ → Form) (s : List ℕ) (n : ℕ) (p : Piece) (t : Step) (steps : Stepped F s n (piece_form F p) (rank p) t) (d : List ℕ) (at later : ℕ) where
  abbrev f : Form
  f = piece_form F p

  abbrev fx : Form
  fx = piece_form F t.x

  abbrev fy : Form
  fy = piece_form F t.y

  size_is : size f ≡ size fx + size fy + 1
  unfolding size
  size_is = ap size steps.form

  full : (d' : List ℕ) → (at + size f + later ≤ 120 → ⊥) → Puts d at later p f None d'
  full d' none = record { next = λ g. absurd (none g); bytes = λ g. absurd (none g); grows = λ g _. absurd (none g); over = λ _. refl }

  -- no room for the first operand
  pub full_x : (d₁ : List ℕ) → Puts d at (later + 1) t.x fx None d₁ → Puts d at later p f None d₁
  full_x d₁ hx = full d₁ (λ g. let z = size_is in no_room hx (omega arith))

  module _ (middle : ℕ) (d₁ : List ℕ) (hx : Puts d at (later + 1) t.x fx (Some middle) d₁) where
    -- none for the second
    pub full_y : (d₂ : List ℕ) → Puts d₁ middle (later + 1) t.y fy None d₂ → Puts d at later p f None d₂
    full_y d₂ hy = full d₂ (λ g. let z = size_is in let e = after hx in no_room hy (omega arith))

    module _ (end : ℕ) (d₂ : List ℕ) (hy : Puts d₁ middle (later + 1) t.y fy (Some end) d₂) where
      -- both operands, one after the other
      both : 4 * end + 6 ≤ length d → d₂ ≡ put_nodes d at (written at fx ++ written (at + size fx) fy)
      both l =
          let ex = after hx in
          let ey = after hy in
          let a = length-written fx at in
          let place : 4 * middle + 6 ≡ 4 * (at + length (written at fx)) + 6 = omega arith in
          hy.bytes (roomy hy) ∙ ap (λ (i : ℕ). put_nodes d₁ middle (written i fy)) ex
          ∙ ap (λ (i : ℕ). put d₁ i (encoded (written (at + size fx) fy))) place
          ∙ put_more d d₁ at (written at fx) (hx.bytes (roomy hx)) (omega arith) (encoded (written (at + size fx) fy))
          ∙ ap (put d (4 * at + 6)) (sym (encoded-append (written at fx) (written (at + size fx) fy)))

      pub puts_node : 486 ≤ length d → (bx by : ℕ) → bx ≡ placed_by t.x middle → by ≡ placed_by t.y end → (d₃ : List ℕ)
          → d₃ ≡ put d₂ (4 * end + 6) (four_bytes (bytes t.op bx by)) → Puts d at later p f (Some (end + 1)) d₃
      unfolding written encoded
      puts_node l bx by ebx eby d₃ e₃ =
          let ex = after hx in
          let ey = after hy in
          let z = size_is in
          let g = roomy hy in
          let us = written at fx ++ written (at + size fx) fy in
          let long : length us ≡ size fx + size fy = length-append (written at fx) (written (at + size fx) fy) ∙ (λ i. length-written fx at i + length-written fy (at + size fx) i) in
          let place : 4 * end + 6 ≡ 4 * (at + length us) + 6 = omega arith in
          let last-x : bx ≡ named at fx = ebx ∙ placed_named F t.x hx in
          let last-y : by ≡ named (at + size fx) fy = eby ∙ placed_named F t.y hy ∙ ap (λ (i : ℕ). named i fy) ex in
          record {
            next = λ _. ap Some (omega arith);
            bytes = λ _.
                e₃ ∙ ap (λ (i : ℕ). put d₂ i (four_bytes (bytes t.op bx by))) place
                ∙ put_more d d₂ at us (both (omega arith)) (omega arith) (four_bytes (bytes t.op bx by))
                ∙ ap (put d (4 * at + 6)) (sym (encoded-append us (bytes t.op bx by ∷ [])))
                ∙ (λ i. put_nodes d at (us ++ (bytes t.op (last-x i) (last-y i) ∷ [])))
                ∙ ap (λ (g : Form). put_nodes d at (written at g)) (sym steps.form);
            grows = λ _ _. omega arith;
            over = λ o. absurd (let w : ⊥ = omega arith in w);
          }
