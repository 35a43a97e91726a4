-- The expanded table's heading and length, and what lies in it: first the booleans, then the root's form. Assumes nothing.
use native.Mathlib.Omega.{arith}
use native.Mathlib.Nat.{zero-add}
use mathlib.Core.Path.{◌≡◌, refl, ◌∙◌, ap, subst}
use mathlib.Core.List.{List}
use Prim.Native.Nat.{ℕ, ◌+◌, ◌*◌, ◌<◌}
use lib.ListN.{length, get_or, length-append}
use Rattle.refusal.specs.Heading.{version, count}
use Rattle.nodes.specs.Nodes.{raw_at, root}
use Rattle.encoding.specs.Encoding.{heading, encoded, blank}
use Rattle.encoding.proofs.Putting.{length-encoded}
use Rattle.encoding.proofs.Reading.{raw_of}
use Rattle.expansion.specs.Forms.{written}
use Rattle.expansion.specs.Booleans.{booleans_below}
use Rattle.expansion.specs.Nodes.{form_of}
use Rattle.expansion.specs.Expansion.{booleans, base_count, base_nodes, base_table}
use Rattle.expansion.proofs.Numbering.{length-booleans}
use Rattle.expansion.proofs.Lying.{length-written, Lies, lies_left, lies_right}

module _ (s : List ℕ) where
  pub length-nodes : length (base_nodes s) ≡ base_count s
  length-nodes =
      length-append (booleans_below s (count s)) (written (booleans s) (form_of s (root s)))
      ∙ (λ i. length-booleans s (count s) i + length-written (form_of s (root s)) (booleans s) i)

  pub version-table : version (base_table s) ≡ 2
  unfolding base_table
  version-table = refl

  pub count-table : count (base_table s) ≡ base_count s
  unfolding base_table
  count-table = refl

  pub length-table : length (base_table s) ≡ 4 * base_count s + 6
  unfolding base_table
  length-table =
      let a = length-append (heading 2 0 (base_count s)) (encoded (base_nodes s)) in
      let b = length-encoded (base_nodes s) in
      let c = length-nodes in
      omega arith

  -- ---- its nodes

  pub raw-table : (q : ℕ) → q < base_count s → raw_at (base_table s) q ≡ get_or (base_nodes s) q blank
  unfolding base_table
  raw-table q l = let e = length-nodes in raw_of 2 0 (base_count s) (base_nodes s) q (omega arith)

  lies_nodes : Lies (base_table s) 0 (base_nodes s)
  lies_nodes i l = let e = length-nodes in ap (raw_at (base_table s)) (zero-add i) ∙ raw-table i (omega arith)

  pub lies_booleans : Lies (base_table s) 0 (booleans_below s (count s))
  lies_booleans = lies_left (base_table s) 0 (booleans_below s (count s)) (written (booleans s) (form_of s (root s))) lies_nodes

  pub lies_form : Lies (base_table s) (booleans s) (written (booleans s) (form_of s (root s)))
  lies_form =
      subst (λ (q : ℕ). Lies (base_table s) q (written (booleans s) (form_of s (root s)))) (zero-add _ ∙ length-booleans s (count s))
      (lies_right (base_table s) 0 (booleans_below s (count s)) (written (booleans s) (form_of s (root s))) lies_nodes)
