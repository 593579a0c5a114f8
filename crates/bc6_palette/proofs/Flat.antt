-- The picture as triples and as values. Assumes nothing.
use mathlib.Core.Path.{◌≡◌, ◌∙◌, refl, sym, ap, subst}
use mathlib.Core.Bool.{Bool, true, false}
use mathlib.Core.List.{List, [], ◌∷◌}
use Prim.Native.Nat.{ℕ, zero, suc, ◌+◌, ◌*◌, ◌/◌, ◌%◌, ◌^◌, ◌<◌}
use native.Mathlib.Nat.{mod-lt}
use native.Mathlib.Omega.{arith}
use lib.Dec.{lit<, eqb}
use lib.ListN.{length, get_or}
use Rattle.laws.specs.Pick.{pick}
use Rattle.laws.specs.Bit.{bit}
use Rattle.laws.specs.Made.{made}
use Rattle.laws.proofs.Rows.{made-same, made_each, get_d_made}
use Rattle.laws.proofs.Below.{below_three}
use Rattle.bc6h_spec.specs.declared.Fields.{Fields}
use Rattle.bc6h_spec.specs.Layout.{two_regions, precision}
use Rattle.bcn_spec.specs.Regions.{map_of}
use Rattle.bc6h_spec.specs.Regions.{region_of}
use Rattle.bc6h_spec.specs.Fields.{index_of, Valid}
use Rattle.bcn_spec.specs.Weights.{weights8, weights16}
use Rattle.bc6h_spec.specs.Picture.{weights, between, palette, picture_as}
use Rattle.bc6h_spec.proofs.Pixel.{pixel_shows}
use Rattle.bc6_half.specs.declared.Half.{Half}
use Rattle.bc6_colour.specs.declared.Colour.{Colour}
use Rattle.bc6_half.specs.Halves.{marked}
use Rattle.bc6_colour.specs.Colours.{end_of, unquantized_of}
use Rattle.bc6_palette.specs.Palettes.{blend_of, palette_entry}
use Rattle.bc6_palette.specs.Triples.{marked_triple, in_triples, no_half, triple_half, triple_value, flat, IndicesBelow, one_pixel, two_pixel}

-- ---- values from triples

channel : (values : List ℕ) (k c : ℕ) → c < 3 → get_or (marked_triple values k) c no_half ≡ marked (get_or values (3 * k + c) 0)
unfolding marked_triple
channel values k =
    below_three (λ c. get_or (marked_triple values k) c no_half ≡ marked (get_or values (3 * k + c) 0))
    (let e : 3 * k ≡ 3 * k + 0 = omega arith in ap (λ (j : ℕ). marked (get_or values j 0)) e) refl refl

half_triples : (values : List ℕ) (j : ℕ) → j < 48 → triple_half (in_triples values) j ≡ marked (get_or values j 0)
unfolding in_triples triple_half
half_triples values j lt =
    let back : 3 * (j / 3) + j % 3 ≡ j = omega arith in
    ap (λ (t : List Half). get_or t (j % 3) no_half) (get_d_made (marked_triple values) 16 (j / 3) [] (omega arith))
    ∙ channel values (j / 3) (j % 3) (mod-lt j (lit< tt))
    ∙ ap (λ (n : ℕ). marked (get_or values n 0)) back

value_triples : (values : List ℕ) (j : ℕ) → j < 48 → triple_value (in_triples values) j ≡ get_or values j 0
unfolding triple_value marked
value_triples values j lt = ap (λ (h : Half). h.pattern) (half_triples values j lt)

-- the triples of 48 values, laid out flat, are the values
pub flat_triples : (values : List ℕ) → length values ≡ 48 → flat (in_triples values) ≡ values
unfolding flat
flat_triples values h =
    sym (made_each (triple_value (in_triples values)) values 48 h (λ j lt. sym (value_triples values j lt)))

-- ---- the triples of a picture

-- red, green and blue of a region's palette at an index
shown : Bool → Fields → ℕ → ℕ → List Half
shown s f r i = marked (palette s f r 0 i) ∷ marked (palette s f r 1 i) ∷ marked (palette s f r 2 i) ∷ []

-- the palette of a region, as the code makes it
unfoldable colours : Bool → Fields → ℕ → List ℕ → ℕ → List Half
colours s f r ws =
    let p = precision f.mode in
    palette_entry s (unquantized_of s p (end_of s f (2 * r))) (unquantized_of s p (end_of s f (2 * r + 1))) ws

colours_are : (s : Bool) (f : Fields) (r i : ℕ) (ws : List ℕ) → ws ≡ weights f.mode → colours s f r ws i ≡ shown s f r i
unfolding colours palette_entry blend_of unquantized_of end_of palette between shown
colours_are s f r i ws e = rw e refl

triple_shown : (s : Bool) (f : Fields) (k : ℕ) → k < 16
    → marked_triple (picture_as s f) k ≡ shown s f (region_of f.mode f.partition k) (index_of f k)
unfolding marked_triple shown
triple_shown s f k h =
    let zero_at : 3 * k ≡ 3 * k + 0 = omega arith in
    let r = ap (λ (j : ℕ). get_or (picture_as s f) j 0) zero_at ∙ pixel_shows s f k 0 h (lit< tt) in
    let g = pixel_shows s f k 1 h (lit< tt) in
    let b = pixel_shows s f k 2 h (lit< tt) in
    λ i. marked (r i) ∷ marked (g i) ∷ marked (b i) ∷ []

-- the indices of a valid record, as wide as its mode has them
module _ (s : Bool) (f : Fields) (v : Valid f) where
  pub indices_16 : two_regions f.mode ≡ false → IndicesBelow 16 f.indices
  indices_16 t k h = subst (λ (b : Bool). index_of f k < 2 ^ pick b 3 4) t (v.index_fits k h)

  pub indices_8 : two_regions f.mode ≡ true → IndicesBelow 8 f.indices
  indices_8 t k h = subst (λ (b : Bool). index_of f k < 2 ^ pick b 3 4) t (v.index_fits k h)

module _ (s : Bool) (f : Fields) (v : Valid f) where
  one_shown : two_regions f.mode ≡ false → made (one_pixel (made (colours s f 0 weights16) 16) f.indices) 16 ≡ in_triples (picture_as s f)
  unfolding in_triples one_pixel region_of
  one_shown t =
      let ws : weights16 ≡ weights f.mode = sym (ap (λ (b : Bool). pick b weights8 weights16) t) in
      made-same (one_pixel (made (colours s f 0 weights16) 16) f.indices) (marked_triple (picture_as s f)) 16
      (λ k h.
      get_d_made (colours s f 0 weights16) 16 (index_of f k) [] (indices_16 s f v t k h)
      ∙ colours_are s f 0 (index_of f k) weights16 ws
      ∙ ap (λ (b : Bool). shown s f (pick b (bit (map_of f.partition) k) 0) (index_of f k)) (sym t)
      ∙ sym (triple_shown s f k h))

  by_region : (i r : ℕ) → i < 8 → r < 2 → weights8 ≡ weights f.mode
      → get_or (pick (eqb r 0) (made (colours s f 0 weights8) 8) (made (colours s f 1 weights8) 8)) i [] ≡ shown s f r i
  by_region i zero h l e = get_d_made (colours s f 0 weights8) 8 i [] h ∙ colours_are s f 0 i weights8 e
  by_region i (suc zero) h l e = get_d_made (colours s f 1 weights8) 8 i [] h ∙ colours_are s f 1 i weights8 e
  by_region i (suc (suc r)) h l e = absurd (omega arith)

  two_shown : two_regions f.mode ≡ true
      → made (two_pixel (made (colours s f 0 weights8) 8) (made (colours s f 1 weights8) 8) (map_of f.partition) f.indices) 16 ≡ in_triples (picture_as s f)
  unfolding in_triples two_pixel one_pixel region_of
  two_shown t =
      let ws : weights8 ≡ weights f.mode = sym (ap (λ (b : Bool). pick b weights8 weights16) t) in
      let map = map_of f.partition in
      made-same (two_pixel (made (colours s f 0 weights8) 8) (made (colours s f 1 weights8) 8) map f.indices) (marked_triple (picture_as s f)) 16
      (λ k h.
      by_region (index_of f k) (bit map k) (indices_8 s f v t k h) (mod-lt _ (lit< tt)) ws
      ∙ ap (λ (b : Bool). shown s f (pick b (bit map k) 0) (index_of f k)) (sym t)
      ∙ sym (triple_shown s f k h))

  -- what the code paints, of its endpoints and its bits
  module _ (p : ℕ) (a b : Colour) (ep : p ≡ precision f.mode) (ea : a ≡ end_of s f 0) (eb : b ≡ end_of s f 1) where
    pub one_painted : (palette q : List (List Half)) → two_regions f.mode ≡ false
        → palette ≡ made (palette_entry s (unquantized_of s p a) (unquantized_of s p b) weights16) 16
        → q ≡ made (one_pixel palette f.indices) 16 → q ≡ in_triples (picture_as s f)
    unfolding colours
    one_painted palette q t e eq =
        eq
        ∙ ap (λ (l : List (List Half)). made (one_pixel l f.indices) 16) e
        ∙ (λ i. made (one_pixel (made (palette_entry s (unquantized_of s (ep i) (ea i)) (unquantized_of s (ep i) (eb i)) weights16) 16) f.indices) 16)
        ∙ one_shown t

    pub two_painted : (c d : Colour) (p₀ p₁ q : List (List Half)) (map : ℕ) → two_regions f.mode ≡ true → c ≡ end_of s f 2 → d ≡ end_of s f 3
        → p₀ ≡ made (palette_entry s (unquantized_of s p a) (unquantized_of s p b) weights8) 8
        → p₁ ≡ made (palette_entry s (unquantized_of s p c) (unquantized_of s p d) weights8) 8
        → map ≡ map_of f.partition → q ≡ made (two_pixel p₀ p₁ map f.indices) 16 → q ≡ in_triples (picture_as s f)
    unfolding colours
    two_painted c d p₀ p₁ q map t ec ed e₀ e₁ em eq =
        eq
        ∙ (λ i. made (two_pixel (e₀ i) (e₁ i) (em i) f.indices) 16)
        ∙ (λ i. made (two_pixel (made (palette_entry s (unquantized_of s (ep i) (ea i)) (unquantized_of s (ep i) (eb i)) weights8) 8) (made (palette_entry s (unquantized_of s (ep i) (ec i)) (unquantized_of s (ep i) (ed i)) weights8) 8) (map_of f.partition) f.indices) 16)
        ∙ two_shown t
