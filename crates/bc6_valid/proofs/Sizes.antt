-- The widths of a record's numbers, as the code works them out. Assumes nothing.
use mathlib.Core.Path.{◌≡◌, ◌∙◌, refl, ap}
use mathlib.Core.Bool.{Bool, true, false}
use mathlib.Core.List.{[], ◌∷◌}
use Prim.Native.Nat.{ℕ, ◌-◌, ◌*◌, ◌%◌, ◌^◌, ◌≤◌, ◌<◌}
use native.Mathlib.Nat.{one-mul, le_refl}
use native.Mathlib.Omega.{arith}
use lib.Dec.{eqb, ltb, lit<, lit≤}
use lib.Pow.{shl_exact}
use borrow.Author.Tests.{lt-ltb, le-ltb, le-leb, lt-leb, eq-eqb, ne_eqb}
use Rattle.laws.specs.Pick.{pick, either}
use Rattle.laws.proofs.Tests.{picks}
use Rattle.laws.specs.Bit.{bit}
use Rattle.laws.specs.Made.{made, count_of}
use Rattle.bc6h_spec.specs.Layout.{own_width, width, two_regions}
use Rattle.bcn_spec.specs.Regions.{fixup_of}
use Rattle.bc6h_spec.specs.Regions.{region1_of}
use Rattle.bcn_spec.specs.Indices.{has, stored_bits}
use Rattle.bc6h_spec.specs.Fields.{index_bits, fixups}
use Rattle.bc6h_spec.proofs.Once.{row_once}
use Rattle.bc6h_spec.proofs.Partitions.{counted_two}
use Rattle.bcn_data.specs.declared.Subset2Map.{Subset2Map}
use Rattle.bcn_data.specs.Subsets.{subset2}
use Rattle.bc6_mode.specs.declared.ModeBits.{ModeBits}
use Rattle.bc6_mode.specs.Modes.{bits_for}
use Rattle.bc6_valid.specs.Sizes.{second_fixup, index_size}

pub below_power : (value bits : ℕ) → bits ≤ 16 → ltb value (1 * 2 ^ bits % 2 ^ 32) ≡ ltb value (2 ^ bits)
below_power value bits h = ap (ltb value) (shl_exact {a = 1} 1 bits 32 (lit< tt) (omega arith) ∙ one-mul (2 ^ bits))

-- ---- the places

module _ (mode : ℕ) {bits : ModeBits} (e : bits ≡ bits_for mode) where
  pub own_red : (channel : ℕ) → channel ≡ 0 → bits.r ≡ own_width mode channel
  unfolding bits_for
  own_red channel z = rw (z, e)

  pub own_green : (channel : ℕ) → channel ≡ 1 → bits.g ≡ own_width mode channel
  unfolding bits_for
  own_green channel z = rw (z, e)

  pub own_blue : (channel : ℕ) → channel < 3 → (channel ≡ 0 → ⊥) → (channel ≡ 1 → ⊥) → bits.b ≡ own_width mode channel
  unfolding bits_for
  own_blue channel h n o = let z : channel ≡ 2 = omega arith in rw (z, e)

  pub first_width : (place : ℕ) → place < 3 → bits.a0 ≡ width mode place
  unfolding width bits_for
  first_width place h = rw (lt-ltb place 3 h, e)

module _ (mode place : ℕ) (h : 3 ≤ place) where
  pub second_width : {w : ℕ} → place < 6 → w ≡ own_width mode (place % 3) → w ≡ width mode place
  unfolding width
  second_width l e = rw (le-ltb place 3 h, lt-ltb place 6 l) e

  module _ (k : 6 ≤ place) (l : place < 12) where
    pub last_width : {w : ℕ} → mode ≤ 10 → w ≡ own_width mode (place % 3) → w ≡ width mode place
    unfolding width
    last_width o e = rw (le-ltb place 3 h, le-ltb place 6 k, lt-ltb place 12 l, le-leb mode 10 o) e

    pub no_width : 10 < mode → 0 ≡ width mode place
    unfolding width
    no_width o = rw (le-ltb place 3 h, le-ltb place 6 k, lt-ltb place 12 l, lt-leb mode 10 o) refl

pub narrow : (mode place : ℕ) → 1 ≤ mode → mode ≤ 14 → place < 12 → {w : ℕ} → w ≡ width mode place → w ≤ 16
narrow mode place low high h {w} e = let k : width mode place < 17 = (row_once mode low high).narrow place (omega arith) in omega (arith, e)

-- ---- the regions

pub count_two : (mode partition : ℕ) {map : Subset2Map} {ones : ℕ} → mode ≤ 10 → map ≡ subset2 partition
    → ones ≡ count_of 1 (made (bit map.subset_indexes) 16) → ones ≡ region1_of mode partition
count_two mode partition h em eo = eo ∙ counted_two mode partition _ (le-leb mode 10 h) (ap (λ (y : Subset2Map). y.subset_indexes) em)

-- ---- the indices

pub bits_range : (mode : ℕ) → (1 ≤ index_bits mode) × (index_bits mode ≤ 4)
bits_range mode = picks (two_regions mode) 3 4 (λ (n : ℕ). (1 ≤ n) × (n ≤ 4)) (λ _. (lit≤ tt, lit≤ tt)) (λ _. (lit≤ tt, lit≤ tt))

module _ (mode fixup pixel : ℕ) {bits : ℕ} (e : bits ≡ index_bits mode) where
  pub size_first : pixel ≡ 0 → bits - 1 ≡ index_size mode fixup pixel
  unfolding index_size
  size_first z = rw (eq-eqb pixel 0 z, e)

  module _ (n : pixel ≡ 0 → ⊥) where
    pub size_fixup : pixel ≡ fixup → bits - 1 ≡ index_size mode fixup pixel
    unfolding index_size
    size_fixup q = rw (ne_eqb pixel 0 n, eq-eqb pixel fixup q, e)

    pub size_other : (pixel ≡ fixup → ⊥) → bits ≡ index_size mode fixup pixel
    unfolding index_size
    size_other q = rw (ne_eqb pixel 0 n, ne_eqb pixel fixup q, e)

pub size_le : (mode fixup pixel : ℕ) → index_size mode fixup pixel ≤ 4
unfolding index_size
size_le mode fixup pixel =
    let w = index_bits mode in
    let k = picks (either (eqb pixel 0) (eqb pixel fixup)) (w - 1) w (λ (n : ℕ). n ≤ w) (λ _. omega arith) (λ _. le_refl w) in
    let h = (bits_range mode).1 in
    omega arith

pub size_narrow : (mode fixup pixel : ℕ) {w : ℕ} → w ≡ index_size mode fixup pixel → w ≤ 16
size_narrow mode fixup pixel e = let h = size_le mode fixup pixel in omega (arith, e)

has_two : (a b : Bool) → either a (either b false) ≡ either a b
has_two true b = refl
has_two false true = refl
has_two false false = refl

has_one : (a : Bool) → either a false ≡ either a a
has_one true = refl
has_one false = refl

stored_case : (t : Bool) (partition pixel w : ℕ)
    → pick (has (pick t (0 ∷ fixup_of partition ∷ []) (0 ∷ [])) pixel) (w - 1) w ≡ pick (either (eqb pixel 0) (eqb pixel (pick t (fixup_of partition) 0))) (w - 1) w
stored_case true partition pixel w = ap (λ (b : Bool). pick b (w - 1) w) (has_two (eqb pixel 0) (eqb pixel (fixup_of partition)))
stored_case false partition pixel w = ap (λ (b : Bool). pick b (w - 1) w) (has_one (eqb pixel 0))

-- what the code works out is what is stored
pub stored_size_lem : (mode partition pixel : ℕ) → stored_bits (index_bits mode) (fixups mode partition) pixel ≡ index_size mode (second_fixup mode partition) pixel
unfolding index_size second_fixup
stored_size_lem mode partition pixel = stored_case (two_regions mode) partition pixel (index_bits mode)
