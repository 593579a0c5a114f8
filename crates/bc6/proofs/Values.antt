-- The patterns that the pixels call writes. Assumes nothing.
use mathlib.Core.Path.{◌≡◌, refl, sym, ap, ◌∙◌, subst}
use mathlib.Core.Logic.{◌⊎◌, inl, inr, ⊎_elim}
use mathlib.Core.Bool.{Bool, true, false}
use mathlib.Core.List.{List}
use Prim.Native.Nat.{ℕ, ◌/◌, ◌%◌, ◌≤◌, ◌<◌}
use native.Mathlib.Nat.{mod-lt}
use native.Mathlib.Decide.{ℕ_discrete}
use native.Mathlib.Omega.{arith}
use lib.Dec.{lit≤, lit<}
use lib.ListN.{length, get_or, drop, get_or-append, get_or-replicate}
use Rattle.laws.specs.Ranges.{InBits}
use Rattle.laws.proofs.Rows.{get_d_made}
use Rattle.bcn_spec.specs.Answers.{done}
use Rattle.bc6h_spec.specs.Fields.{mode_of, index_of}
use Rattle.bc6h_spec.specs.Regions.{region_of}
use Rattle.bc6h_spec.specs.Half.{highest_pattern, minus_infinity, finished}
use Rattle.bc6h_spec.specs.Picture.{value_count, value, picture_as, is_signed, palette, between}
use Rattle.bc6h_spec.specs.Block.{format_number, fields_in, pixels_of}
use Rattle.bc6h_spec.proofs.Formats.{number_le}
use Rattle.bc6h_spec.proofs.Reading.{fields_valid}
use Rattle.bc6h_spec.proofs.Highest.{exactly, exception}
use Rattle.bc6h_spec.proofs.Shown.{region_lt, mixed_in, value_unsigned, value_signed, value_not}
use Rattle.bc6.specs.Call.{Pixels}
use Rattle.bc6.specs.Call.{refusal_of, Painted}
use Rattle.bc6.specs.Numbers.{interpolated_at, lowest}
use Rattle.bc6h_spec.proofs.Pixel.{pixels_none}
use Rattle.bc6h_spec.proofs.Pixel.{shows_as}
use Rattle.bc6h_spec.proofs.Values.{length_pixels}
use Rattle.bc6.proofs.Calls.{written}

-- ---- the values of a block

module _ (s : Bool) (block : List ℕ) (j : ℕ) (h : j < 48) where
  value_at : 1 ≤ mode_of block → get_or (pixels_of s block) j 0 ≡ value s (fields_in s block) j
  unfolding picture_as
  value_at m = ap (λ (l : List ℕ). get_or l j 0) (shows_as s block m) ∙ get_d_made (value s (fields_in s block)) 48 j 0 h

  value_none : mode_of block ≡ 0 → get_or (pixels_of s block) j 0 ≡ 0
  value_none z = ap (λ (l : List ℕ). get_or l j 0) (pixels_none s block z) ∙ get_or-replicate 48 j 0 0 h

  -- what holds of zero and of every value of a valid record holds of every value of a block
  of_each : (P : ℕ → Type 0) → P 0 → (1 ≤ mode_of block → P (value s (fields_in s block) j)) → P (get_or (pixels_of s block) j 0)
  of_each P base step = go (ℕ_discrete (mode_of block) 0)
    where
      go : Dec (mode_of block ≡ 0) → P (get_or (pixels_of s block) j 0)
      go (yes z) = subst P (sym (value_none z)) base
      go (no n) = let m : 1 ≤ mode_of block = omega arith in subst P (sym (value_at m)) (step m)

  value_is : value s (fields_in s block) j ≡ finished s (interpolated_at s (fields_in s block) j)
  unfolding value palette between
  value_is = refl

  number_in : 1 ≤ mode_of block → InBits s 16 (interpolated_at s (fields_in s block) j)
  number_in m =
      let f = fields_in s block in
      mixed_in s f (fields_valid (format_number s) block (number_le s) m) (region_of f.mode f.partition (j / 3)) (j % 3) (index_of f (j / 3))
      (region_lt f.mode f.partition (j / 3)) (mod-lt j (lit< tt))

-- ---- the values that the call wrote

module _ {block : List ℕ} {format : ℕ} {out : List ℕ} {r : Pixels} {after : List ℕ} (p : Painted block format out r after)
    (ok : refusal_of format (length block) (length out) ≡ done) (j : ℕ) (h : j < 48) where
  pub wrote : get_or after j 0 ≡ get_or (pixels_of (is_signed format) block) j 0
  wrote =
      ap (λ (l : List ℕ). get_or l j 0) (written p ok)
      ∙ get_or-append (pixels_of (is_signed format) block) (drop value_count out) 0 j (rw (length_pixels (is_signed format) block) h)

  of_written : (s : Bool) → is_signed format ≡ s → (P : ℕ → Type 0) → P 0 → (1 ≤ mode_of block → P (value s (fields_in s block) j)) → P (get_or after j 0)
  of_written s e P base step =
      subst P (sym (wrote ∙ ap (λ (b : Bool). get_or (pixels_of b block) j 0) e)) (of_each s block j h P base step)

  -- S-25: every unsigned pattern is at most the highest
  pub unsigned_highest : is_signed format ≡ false → get_or after j 0 ≤ highest_pattern
  unsigned_highest e = of_written false e (λ (v : ℕ). v ≤ highest_pattern) (lit≤ tt) (λ m. value_unsigned (fields_in false block) (fields_valid 0 block (lit≤ tt) m) j)

  -- S-25: signed magnitudes stay at or below it, but for 0xFC00
  pub signed_highest : is_signed format ≡ true → (get_or after j 0 ≡ minus_infinity) ⊎ (get_or after j 0 % 0x8000 ≤ highest_pattern)
  signed_highest e =
      of_written true e (λ (v : ℕ). (v ≡ minus_infinity) ⊎ (v % 0x8000 ≤ highest_pattern)) (inr (lit≤ tt))
      (λ m. ⊎_elim (λ x. inl x.1) (λ x. inr x) (value_signed (fields_in true block) (fields_valid 1 block (lit≤ tt) m) j))

  -- S-24: 0x8000 is never shown
  pub no_minus_zero : get_or after j 0 ≡ 0x8000 → ⊥
  no_minus_zero =
      let s = is_signed format in
      of_written s refl (λ (v : ℕ). v ≡ 0x8000 → ⊥) (λ e. omega arith)
      (λ m. value_not s (fields_in s block) (fields_valid (format_number s) block (number_le s) m) j)

  -- S-25: 0xFC00 exactly where the interpolated number is −32768, in signed format, and never in a reserved block
  pub minus_infinity_at : is_signed format ≡ true → get_or after j 0 ≡ minus_infinity → (1 ≤ mode_of block) × (interpolated_at true (fields_in true block) j ≡ lowest)
  minus_infinity_at e =
      of_written true e (λ (v : ℕ). v ≡ minus_infinity → (1 ≤ mode_of block) × (interpolated_at true (fields_in true block) j ≡ lowest)) (λ x. absurd (omega arith))
      (λ m x. (m, exactly (interpolated_at true (fields_in true block) j) (number_in true block j h m) (sym (value_is true block j h) ∙ x)))

  pub minus_infinity_there : is_signed format ≡ true → 1 ≤ mode_of block → interpolated_at true (fields_in true block) j ≡ lowest → get_or after j 0 ≡ minus_infinity
  minus_infinity_there e m x =
      wrote ∙ ap (λ (b : Bool). get_or (pixels_of b block) j 0) e ∙ value_at true block j h m ∙ value_is true block j h ∙ ap (finished true) x ∙ exception

  pub no_unsigned_infinity : is_signed format ≡ false → get_or after j 0 ≡ minus_infinity → ⊥
  no_unsigned_infinity e x = let l : get_or after j 0 ≤ highest_pattern = unsigned_highest e in omega arith
