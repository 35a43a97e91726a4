-- A sample from its 8 bytes, and the words as they are written, sample by sample.
-- Assumes nothing.
use mathlib.Core.Path.{◌≡◌, refl, ◌∙◌, sym}
use mathlib.Core.List.{List, [], ◌∷◌, ◌++◌}
use Prim.Native.Nat.{ℕ, zero, suc, ◌+◌, ◌*◌, ◌-◌, ◌≤◌, ◌<◌}
use native.Mathlib.Numerals.{add-one}
use native.Mathlib.Omega.{arith}
use lib.ListN.{length, get_or, take, drop, set, length-append, length-drop}
use lib.Seq.{length-take-le, drop-cons, set_at, append_snoc}
use Rattle.refusal.specs.Heading.{number}
use Rattle.record.specs.Record.{sample_at, samples}

-- ---- bytes

-- the sum of 8 bytes, as `from_le_bytes` has it
abbrev pub eight : (ℕ → ℕ) → ℕ
eight f =
    f 0 + f 1 * 256 + f 2 * 65536 + f 3 * 16777216 + f 4 * 4294967296 + f 5 * 1099511627776 + f 6 * 281474976710656 + f 7 * 72057594037927936

in_eight : (t : List ℕ) → length t ≡ 8 → eight (λ k. get_or t k 0) ≡ number t
in_eight [] l = absurd (omega arith)
in_eight (a ∷ []) l = absurd (omega arith)
in_eight (a ∷ b ∷ []) l = absurd (omega arith)
in_eight (a ∷ b ∷ c ∷ []) l = absurd (omega arith)
in_eight (a ∷ b ∷ c ∷ d ∷ []) l = absurd (omega arith)
in_eight (a ∷ b ∷ c ∷ d ∷ e ∷ []) l = absurd (omega arith)
in_eight (a ∷ b ∷ c ∷ d ∷ e ∷ f ∷ []) l = absurd (omega arith)
in_eight (a ∷ b ∷ c ∷ d ∷ e ∷ f ∷ g ∷ []) l = absurd (omega arith)
in_eight (a ∷ b ∷ c ∷ d ∷ e ∷ f ∷ g ∷ h ∷ []) l = omega arith
in_eight (a ∷ b ∷ c ∷ d ∷ e ∷ f ∷ g ∷ h ∷ i ∷ t) l = absurd (omega arith)

module _ (s : List ℕ) where
  -- a sample from its bytes
  pub sample_is : (i : ℕ) → 6 + 8 * (i + 1) ≤ length s → eight (λ k. get_or (take (6 + 8 * i + 8 - (6 + 8 * i)) (drop (6 + 8 * i) s)) k 0) ≡ sample_at s i
  unfolding sample_at
  sample_is i l =
      let n : 6 + 8 * i + 8 - (6 + 8 * i) ≡ 8 = omega arith in
      rw n (in_eight (take 8 (drop (6 + 8 * i) s)) (length-take-le 8 (drop (6 + 8 * i) s) (simp length-drop (omega arith))))

  -- ---- words

  pub length-samples : (n : ℕ) → length (samples s n) ≡ n
  unfolding samples
  length-samples zero = refl
  length-samples (suc n) = let e = length-samples n in simp length-append (omega arith)

  module _ (d : List ℕ) where
    pub none_written : d ≡ samples s 0 ++ drop 0 d
    unfolding samples
    none_written = refl

    -- of n samples, i are written
    module _ (n : ℕ) (fits : n ≤ length d) (d' : List ℕ) (i : ℕ) (written : d' ≡ samples s i ++ drop i d) where
      pub one_written : i < n → (x : ℕ) → x ≡ sample_at s i → set d' i x ≡ samples s (i + 1) ++ drop (i + 1) d
      unfolding samples
      one_written l x e =
          let h : i < length d = omega arith in
          rw (written, add-one i, e, drop-cons d i 0)
          (set_at (samples s i) (get_or d i 0) (drop (suc i) d) (sample_at s i) i (length-samples i) ∙ sym (append_snoc (samples s i) (sample_at s i) (drop (suc i) d)))

      pub all_written : i ≤ n → n ≤ i → d' ≡ samples s n ++ drop n d
      all_written g h = let e : i ≡ n = omega arith in rw e at written
