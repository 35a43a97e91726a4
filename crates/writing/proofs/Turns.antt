-- What a turn of each loop puts: a node of a block, and what a node gives to a pass. Assumes nothing.
use native.Mathlib.Omega.{arith}
use native.Mathlib.Numerals.{add-one}
use native.Mathlib.Nat.{add-zero, zero-add, le_refl}
use mathlib.Core.Path.{◌≡◌, refl, ◌∙◌, sym, ap}
use mathlib.Core.Bool.{Bool, true, false, cond, beq}
use mathlib.Core.List.{List, ◌++◌, append_assoc, append-nil}
use Prim.Native.Nat.{ℕ, ◌+◌, ◌*◌, ◌<◌, ◌≤◌}
use lib.Dec.{eqb}
use lib.ListN.{length, get_or, take, length-append}
use lib.Seq.{length-take-le, take_all}
use Rattle.std.specs.Prelude.{Option, None}
use Rattle.std.specs.Option.{option_map}
use Rattle.refusal.specs.Heading.{count}
use Rattle.nodes.specs.declared.Raw.{Raw}
use Rattle.nodes.specs.Operators.{Row, none, boolean, row_of}
use Rattle.nodes.specs.Nodes.{raw_at, sort_at}
use Rattle.nodes.specs.Computed.{named_by}
use Rattle.clocks.specs.Computed.{ref_of, clock_by, Timed}
use Rattle.clocks.proofs.HandingDown.{built}
use Rattle.numbers.specs.Numbers.{sum, is_boolean, is_other, length_under, length_of, new_count, taken, start_of}
use Rattle.numbers.specs.declared.Counts.{Counts}
use Rattle.numbers.specs.Computed.{CountsOf, Numbered}
use Rattle.numbers.proofs.Numbering.{start_fits, count_split}
use Rattle.encoding.specs.Encoding.{four_bytes, encoded, blank, put, put_nodes}
use Rattle.encoding.proofs.Putting.{put_none, put_more, put-put, encoded_more, encoded-append, length-encoded}
use Rattle.blocks.specs.Computed.{kind_block}
use Rattle.writing.specs.Tables.{headed, block_of, laid, new_nodes, new_table}
use Rattle.writing.specs.Computed.{of_pass, pass_start, given_below, TableFits, BlockFits}
use Rattle.writing.proofs.Lengths.{block_long, laid-long}
use Rattle.writing.proofs.Passes.{long_is, block_is, of_pass_lem, pass_start_lem, pass_fits}

-- ---- a block

-- the block of node k as the code makes it: how many nodes it has, and the nodes
pub record Blocked (s : List ℕ) (clocks : List (Option ℕ)) (k long : ℕ) (vs : List Raw) : Type 0 where
  pub counted : long ≡ length_of s (clock_by clocks) k
  pub size : long ≡ length (block_of s (clock_by clocks) k)
  pub made : 0 < long → vs ≡ block_of s (clock_by clocks) k

module _ (s : List ℕ) (clocks : List (Option ℕ)) (numbers : List ℕ) (h : Numbered s clocks numbers) (k : ℕ) (l : k < count s) (v : Raw) (ev : v ≡ raw_at s k)
    (r : Row) (er : r ≡ row_of v.op) (long : ℕ) (el : long ≡ length_under (ref_of (get_or clocks k None)) r.block) where
  pub blocked : (x : ℕ) → x ≡ cond (eqb r.x none) v.x (get_or numbers (named_by v.x) 0) → (y : ℕ) → y ≡ cond (eqb r.y none) v.y (get_or numbers (named_by v.y) 0)
      → (at : ℕ) → at ≡ start_of s (clock_by clocks) k → (c : Option ℕ) → c ≡ option_map (λ d. get_or numbers (named_by d) 0) (get_or clocks k None)
      → Blocked s clocks k long (kind_block c at v.op x y)
  blocked x ex y ey at ea c ec =
      let n = long_is s clocks numbers h k l v ev r er long el in
      record {
        counted = n;
        size = n ∙ sym (block_long s (clock_by clocks) (built h.timed.table).fit k l);
        made = λ m. block_is s clocks numbers h k l v ev r er long el x ex y ey at ea m c ec;
      }

-- the first i nodes of the block are put
module _ {s : List ℕ} {clocks : List (Option ℕ)} {k long : ℕ} {vs : List Raw} (b : Blocked s clocks k long vs) (i : ℕ) where
  pub node_within : i < long → i < length vs
  node_within m = let q = ap length (b.made (omega arith)) in let z = b.size in omega arith

  module _ (d : List ℕ) (at : ℕ) (out : List ℕ) (e : out ≡ put_nodes d at (take i (block_of s (clock_by clocks) k))) where
    pub node_put : i < long → 4 * (at + length_of s (clock_by clocks) k) + 6 ≤ length d → (w : Raw) → w ≡ get_or vs i blank
        → (out' : List ℕ) → out' ≡ put out (4 * (at + i) + 6) (four_bytes w) → out' ≡ put_nodes d at (take (i + 1) (block_of s (clock_by clocks) k))
    node_put m room w ew out' e' =
        let us = block_of s (clock_by clocks) k in
        let n = b.counted in
        let z = b.size in
        let t : length (take i us) ≡ i = length-take-le i us (omega arith) in
        let p = put_more d out at (take i us) e (rw t (omega arith)) (four_bytes w) in
        let q : w ≡ get_or us i blank = ew ∙ ap (λ (u : List Raw). get_or u i blank) (b.made (omega arith)) in
        e' ∙ (rw t at p) ∙ ap (put d (4 * at + 6)) (ap (λ (u : Raw). encoded (take i us) ++ four_bytes u) q ∙ sym (encoded_more us i (omega arith)))

    pub block_put : long ≤ i → out ≡ put_nodes d at (block_of s (clock_by clocks) k)
    block_put m = let z = b.size in e ∙ ap (put_nodes d at) (take_all i (block_of s (clock_by clocks) k) (omega arith))

-- ---- a pass

-- the nodes below k have given theirs to a pass that begins at `from`, and the next node is number `at`
pub record Passed (s : List ℕ) (clocks : List (Option ℕ)) (pass : Bool) (d : List ℕ) (from k at : ℕ) (out : List ℕ) : Type 0 where
  pub here : at ≡ from + taken s (clock_by clocks) (of_pass s pass) k
  pub written : out ≡ put_nodes d from (given_below s clocks pass k)

module _ (s : List ℕ) (clocks : List (Option ℕ)) (pass : Bool) (d : List ℕ) (from : ℕ) where
  pub passed_none : Passed s clocks pass d from 0 from d
  unfolding sum laid encoded
  passed_none = record { here = sym (add-zero _); written = put_none _ _ }

  module _ (ef : from ≡ pass_start s (clock_by clocks) pass) (fits : TableFits (new_count s (clock_by clocks)) d) (k : ℕ) (l : k < count s) (at : ℕ) (out : List ℕ)
      (p : Passed s clocks pass d from k at out) (sort : ℕ) (es : sort ≡ sort_at s k) (t : Bool) (et : t ≡ eqb sort boolean) where
    told : of_pass s pass k ≡ beq t pass
    unfolding is_boolean
    told = rw (et, es) (of_pass_lem s pass k)

    pub block_fits : beq t pass ≡ true → length out ≡ length d → BlockFits s clocks k at out
    block_fits q same =
        let e : at ≡ start_of s (clock_by clocks) k = p.here ∙ ap (λ (f : ℕ). f + taken s (clock_by clocks) (of_pass s pass) k) ef ∙ pass_start_lem s pass k (clock_by clocks) (told ∙ q) in
        let f = start_fits s (clock_by clocks) k l in
        let few = fits.0 in
        let room = fits.1 in
        (e, omega arith, omega arith)

    pub passed_over : beq t pass ≡ false → Passed s clocks pass d from (k + 1) at out
    unfolding sum laid
    passed_over q =
        let z = told ∙ q in
        record {
          here = rw (add-one k, z, add-zero (taken s (clock_by clocks) (of_pass s pass) k)) p.here;
          written = rw (add-one k, z, append-nil (given_below s clocks pass k)) p.written;
        }

    pub passed_by : Timed s clocks → beq t pass ≡ true → (at' : ℕ) → at' ≡ at + length_of s (clock_by clocks) k
        → (out' : List ℕ) → out' ≡ put_nodes out at (block_of s (clock_by clocks) k) → Passed s clocks pass d from (k + 1) at' out'
    unfolding sum laid
    passed_by h u at' e out' q = let z = told ∙ u in record {
      here = rw (add-one k, z) (let m = p.here in omega arith);
      written =
          let us = given_below s clocks pass k in
          let vs = block_of s (clock_by clocks) k in
          let n : length us ≡ taken s (clock_by clocks) (of_pass s pass) k = laid-long s (clock_by clocks) (built h.table).fit (of_pass s pass) k (omega arith) in
          let f = pass_fits s pass k (clock_by clocks) (omega arith) in
          let a : at ≡ from + length us = let m = p.here in omega arith in
          let room = fits.1 in
          let c = put_more d out from us p.written (omega arith) (encoded vs) in
          rw (add-one k, z) (q ∙ rw a (c ∙ ap (put d (4 * from + 6)) (sym (encoded-append us vs))));
    }

-- ---- the table

module _ (s : List ℕ) (clocks : List (Option ℕ)) (counts : Counts) (counted : CountsOf s clocks counts) (h : Timed s clocks) (d : List ℕ) (fits : TableFits counts.all d) where
  -- where the two passes begin
  pub booleans_begin : (d' : List ℕ) → length d' ≡ length d → (0 ≡ pass_start s (clock_by clocks) true) × TableFits (new_count s (clock_by clocks)) d'
  unfolding pass_start
  booleans_begin d' e = (refl, rw (e, sym counted.all) fits)

  pub others_begin : (d' : List ℕ) → length d' ≡ length d → (counts.booleans ≡ pass_start s (clock_by clocks) false) × TableFits (new_count s (clock_by clocks)) d'
  unfolding pass_start
  others_begin d' e = (counted.booleans, rw (e, sym counted.all) fits)

  -- the two passes, one after the other
  both : encoded (laid s (clock_by clocks) (of_pass s true) (count s)) ++ encoded (laid s (clock_by clocks) (of_pass s false) (count s)) ≡ encoded (new_nodes s (clock_by clocks))
  unfolding of_pass
  both = sym (encoded-append (laid s (clock_by clocks) (is_boolean s) (count s)) (laid s (clock_by clocks) (is_other s) (count s)))

  pub table_put : (d₁ : List ℕ) → d₁ ≡ put d 0 (headed s counts.all) → (d₂ : List ℕ) → d₂ ≡ put_nodes d₁ 0 (given_below s clocks true (count s))
      → (d₃ : List ℕ) → d₃ ≡ put_nodes d₂ counts.booleans (given_below s clocks false (count s)) → d₃ ≡ put d 0 (new_table s (clock_by clocks))
  unfolding of_pass new_table
  table_put d₁ e₁ d₂ e₂ d₃ e₃ =
      let b = counts.booleans in
      let m = counts.all in
      let us = laid s (clock_by clocks) (is_boolean s) (count s) in
      let x = encoded us in
      let y = encoded (laid s (clock_by clocks) (is_other s) (count s)) in
      let eb = counted.booleans in
      let em = counted.all in
      let room = fits.1 in
      let p : length us ≡ b = laid-long s (clock_by clocks) (built h.table).fit (is_boolean s) (count s) (le_refl _) ∙ sym eb in
      let c = count_split s (clock_by clocks) (count s) in
      let l = length-encoded us in
      let q : length (headed s m ++ x) ≡ 4 * b + 6 = length-append (headed s m) x ∙ omega arith in
      let f₂ : d₂ ≡ put d 0 (headed s m ++ x) = e₂ ∙ ap (λ (u : List ℕ). put u 6 x) e₁ ∙ put-put d 0 (headed s m) x (omega arith) in
      let f₃ : put (put d 0 (headed s m ++ x)) (4 * b + 6) y ≡ put d 0 ((headed s m ++ x) ++ y) =
      rw (← zero-add (4 * b + 6)) (rw q at (put-put d 0 (headed s m ++ x) y (rw q (omega arith)))) in
      e₃ ∙ ap (λ (u : List ℕ). put u (4 * b + 6) y) f₂ ∙ f₃
      ∙ ap (put d 0) (append_assoc (headed s m) x y ∙ ap (λ (u : List ℕ). headed s m ++ u) both ∙ ap (λ (i : ℕ). headed s i ++ encoded (new_nodes s (clock_by clocks))) em)
