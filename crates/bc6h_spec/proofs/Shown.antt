-- The range of what a valid record shows. Assumes nothing.
use mathlib.Core.Path.{◌≡◌, refl, sym, ap, ◌∙◌}
use mathlib.Core.Logic.{◌⊎◌, inl, inr}
use mathlib.Core.Bool.{Bool, true, false}
use mathlib.Core.List.{List}
use Prim.Native.Nat.{ℕ, ◌+◌, ◌*◌, ◌/◌, ◌%◌, ◌^◌, ◌≤◌, ◌<◌}
use native.Mathlib.Nat.{mod-lt}
use native.Mathlib.Decide.{ℕ_discrete, dec_lt}
use native.Mathlib.Omega.{arith}
use lib.Dec.{T, leb, leb→le, lit<, lit≤}
use lib.IntN.{ℤ, pos, negsuc, ℤ_discrete}
use lib.ListN.{length, get_or, get_or-eq_default}
use borrow.Author.Tests.{ne_eqb}
use Rattle.laws.specs.Pick.{pick}
use Rattle.laws.specs.Every.{below}
use Rattle.laws.specs.Made.{count_of}
use Rattle.laws.specs.Ranges.{Below, InBits}
use Rattle.laws.proofs.Tests.{below_at}
use Rattle.laws.proofs.Counts.{count_never}
use Rattle.bc6h_spec.specs.declared.Fields.{Fields}
use Rattle.bc6h_spec.specs.Layout.{precision, own_width, transformed, two_regions}
use Rattle.bcn_spec.specs.Regions.{map_of}
use Rattle.bc6h_spec.specs.Regions.{region_of}
use Rattle.bc6h_spec.specs.Fields.{stored, index_of, Valid}
use Rattle.bc6h_spec.specs.Half.{unquantized, interpolated, highest_pattern, minus_infinity, finished}
use Rattle.bcn_spec.specs.Weights.{weights8, weights16}
use Rattle.bc6h_spec.specs.Picture.{first_end, endpoint, weights, between, palette, value, value_count, picture_as}
use Rattle.bc6h_spec.proofs.Ranges.{first_in, other_in, unquantized_in, interpolated_in}
use Rattle.bc6h_spec.proofs.Highest.{unsigned_top, signed_top, exception, no_minus_zero}
use Rattle.bc6h_spec.proofs.Widths.{known, first_fits, other_fits}

-- ---- weights

light : (ws : List ℕ) (n : ℕ) → T (below (λ i. leb (get_or ws i 0) 64) n) → length ws ≤ n → (i : ℕ) → get_or ws i 0 ≤ 64
light ws n t h i = go (dec_lt i n)
  where
    go : Dec (i < n) → get_or ws i 0 ≤ 64
    go (yes l) = leb→le _ _ (below_at (λ i. leb (get_or ws i 0) 64) n i t l)
    go (no l) = rw (get_or-eq_default ws 0 {n = i} (omega arith)) (lit≤ tt)

pub weight_le : (m i : ℕ) → get_or (weights m) i 0 ≤ 64
weight_le m i = go (two_regions m)
  where
    go : (b : Bool) → get_or (pick b weights8 weights16) i 0 ≤ 64
    go true = light weights8 8 tt (lit≤ tt) i
    go false = light weights16 16 tt (lit≤ tt) i

pub weight_below : (m i : ℕ) → Below 65 (pos (get_or (weights m) i 0))
weight_below m i = record { nonneg = tt; below = (let h : get_or (weights m) i 0 ≤ 64 = weight_le m i in omega arith) }

pub region_lt : (m p k : ℕ) → region_of m p k < 2
unfolding region_of
region_lt m p k = go (two_regions m)
  where
    go : (b : Bool) → pick b (map_of p / 2 ^ k % 2) 0 < 2
    go true = mod-lt (map_of p / 2 ^ k) (lit< tt)
    go false = lit< tt

module _ (s : Bool) (f : Fields) (v : Valid f) where
  abbrev p : ℕ
  p = precision f.mode

  -- an endpoint after the transform is a number of p bits
  pub endpoint_in : (e c : ℕ) → e < 4 → c < 3 → InBits s p (endpoint s f e c)
  unfolding endpoint
  endpoint_in e c he hc = go (ℕ_discrete e 0)
    where
      go : Dec (e ≡ 0) → InBits s p (endpoint s f e c)
      go (yes z) = rw z (first_in s p (stored f 0 c) (known f v).some (first_fits f v c hc))
      go (no z) =
          rw (ne_eqb e 0 z)
          (other_in s (transformed f.mode) p (own_width f.mode c) (first_end s p (stored f 0 c)) (stored f e c) (known f v).some
          (other_fits f v e c (omega arith) he hc) (λ q. (known f v).whole q c hc))

  -- the number between two ends, before it is scaled
  abbrev mixed : ℕ → ℕ → ℕ → ℤ
  mixed r c i =
      interpolated (unquantized s p (endpoint s f (2 * r) c)) (unquantized s p (endpoint s f (2 * r + 1) c)) (pos (get_or (weights f.mode) i 0))

  pub mixed_in : (r c i : ℕ) → r < 2 → c < 3 → InBits s 16 (mixed r c i)
  mixed_in r c i hr hc =
      interpolated_in s _ _ (pos (get_or (weights f.mode) i 0)) (weight_below f.mode i)
      (unquantized_in s p _ (known f v).most (endpoint_in (2 * r) c (omega arith) hc))
      (unquantized_in s p _ (known f v).most (endpoint_in (2 * r + 1) c (omega arith) hc))

  -- value j, by the number that it scales
  abbrev number : ℕ → ℤ
  number j = mixed (region_of f.mode f.partition (j / 3)) (j % 3) (index_of f (j / 3))

  value_is : (j : ℕ) → value s f j ≡ finished s (number j)
  unfolding value palette between
  value_is j = refl

  number_in : (j : ℕ) → InBits s 16 (number j)
  number_in j = mixed_in _ _ _ (region_lt f.mode f.partition (j / 3)) (mod-lt j (lit< tt))

  pub value_not : (j : ℕ) → value s f j ≡ 0x8000 → ⊥
  value_not j e = no_minus_zero s (number j) (number_in j) (sym (value_is j) ∙ e)

-- every unsigned pattern is at most 0x7BFF
pub value_unsigned : (f : Fields) → Valid f → (j : ℕ) → value false f j ≤ highest_pattern
value_unsigned f v j = rw (value_is false f v j) (unsigned_top (number false f v j) (number_in false f v j))

-- no value of an unsigned picture is minus infinity
pub unsigned_finite : (f : Fields) → Valid f → count_of minus_infinity (picture_as false f) ≡ 0
unfolding picture_as
unsigned_finite f v = count_never minus_infinity (value false f) (λ j e. let h : value false f j ≤ highest_pattern = value_unsigned f v j in omega (arith, e, h)) value_count

-- every signed magnitude too, but 0xFC00, exactly where the interpolated number is −32768
pub value_signed : (f : Fields) (v : Valid f) (j : ℕ)
    → ((number true f v j ≡ negsuc 32767) × (value true f j ≡ minus_infinity)) ⊎ (value true f j % 0x8000 ≤ highest_pattern)
value_signed f v j = go (ℤ_discrete (number true f v j) (negsuc 32767))
  where
    go : Dec (number true f v j ≡ negsuc 32767) → ((number true f v j ≡ negsuc 32767) × (value true f j ≡ minus_infinity)) ⊎ (value true f j % 0x8000 ≤ highest_pattern)
    go (yes e) = inl (e, value_is true f v j ∙ ap (finished true) e ∙ exception)
    go (no e) = inr (rw (value_is true f v j) (signed_top (number true f v j) (number_in true f v j) e))
