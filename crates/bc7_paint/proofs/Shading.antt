-- A block's bytes, one law for each step of the painters. Assumes nothing.
use mathlib.Core.Path.{◌≡◌, ◌∙◌, refl, sym, ap, ap₂}
use mathlib.Core.Bool.{Bool, true, false}
use mathlib.Core.List.{List, ◌++◌}
use Prim.Native.Nat.{ℕ, ◌+◌, ◌-◌, ◌*◌, ◌/◌, ◌%◌, ◌^◌, ◌<◌, ◌≤◌}
use native.Mathlib.Nat.{mul-le-mul, add-zero, zero-div}
use native.Mathlib.Omega.{arith}
use lib.Dec.{eqb}
use lib.ListN.{get_or, drop}
use lib.Pow.{shr-shr}
use Rattle.laws.specs.Pick.{pick}
use Rattle.laws.specs.Bit.{bit}
use Rattle.laws.specs.Made.{made}
use Rattle.laws.proofs.Below.{below_four}
use Rattle.bc7_spec.specs.Bytes.{turned}
use Rattle.bc7_paint.specs.Shades.{region_by, shade_at, channel_shade, shade_byte, turned_to, solo_at}

-- ---- between two bytes

module _ (a b w : ℕ) (ha : a < 256) (hb : b < 256) (hw : w < 65) where
  pub first_part : a * (64 - w) ≤ 255 * (64 - w)
  first_part = mul-le-mul (let h : a ≤ 255 = omega arith in h) (let h : 64 - w ≤ 64 - w = omega arith in h)

  pub second_part : b * w ≤ 255 * w
  second_part = mul-le-mul (let h : b ≤ 255 = omega arith in h) (let h : w ≤ w = omega arith in h)

  pub parts_fit : a * (64 - w) + b * w ≤ 16320
  parts_fit = omega (arith, first_part, second_part)

-- ---- the endpoints of a region

module _ (ends : List ℕ) (c : ℕ) where
  pub first_end : (one two : Bool) → pick two (get_or ends (c + 16) 0) (pick one (get_or ends (c + 8) 0) (get_or ends c 0)) ≡ get_or ends (c + 8 * region_by one two) 0
  first_end one true = refl
  first_end true false = refl
  first_end false false = ap (λ (x : ℕ). get_or ends x 0) (sym (add-zero c))

  pub second_end : (one two : Bool) → pick two (get_or ends (c + 20) 0) (pick one (get_or ends (c + 12) 0) (get_or ends (c + 4) 0)) ≡ get_or ends (c + (8 * region_by one two + 4)) 0
  second_end one true = refl
  second_end true false = refl
  second_end false false = refl

-- ---- the rotation

module _ (f : ℕ → ℕ) where
  pub red_turned : (rotation : ℕ) → rotation < 4 → pick (eqb rotation 1) (f 3) (f 0) ≡ f (turned rotation 0)
  unfolding turned
  red_turned = below_four (λ r. pick (eqb r 1) (f 3) (f 0) ≡ f (turned r 0)) refl refl refl refl

  pub green_turned : (rotation : ℕ) → rotation < 4 → pick (eqb rotation 2) (f 3) (f 1) ≡ f (turned rotation 1)
  unfolding turned
  green_turned = below_four (λ r. pick (eqb r 2) (f 3) (f 1) ≡ f (turned r 1)) refl refl refl refl

  pub blue_turned : (rotation : ℕ) → rotation < 4 → pick (eqb rotation 3) (f 3) (f 2) ≡ f (turned rotation 2)
  unfolding turned
  blue_turned = below_four (λ r. pick (eqb r 3) (f 3) (f 2) ≡ f (turned r 2)) refl refl refl refl

  pub alpha_turned : (rotation : ℕ) → rotation < 4 → turned_to rotation (f 0) (f 1) (f 2) (f 3) ≡ f (turned rotation 3)
  unfolding turned
  alpha_turned = below_four (λ r. turned_to r (f 0) (f 1) (f 2) (f 3) ≡ f (turned r 3)) refl refl refl refl

-- ---- the maps

-- no pixel lies in the region of the map 0
pub unmarked : (k : ℕ) → false ≡ eqb (bit 0 k) 1
unmarked k = sym (ap (λ (x : ℕ). eqb (x % 2) 1) (zero-div (2 ^ k)))

-- a map without its first k pixels: the map without j more, and whether pixel k + j lies in its region
module _ (map left k : ℕ) (e : left ≡ map / 2 ^ k) (j i : ℕ) (s : k + j ≡ i) where
  pub left_on : left / 2 ^ j ≡ map / 2 ^ i
  left_on = ap (λ (x : ℕ). x / 2 ^ j) e ∙ shr-shr map k j ∙ ap (λ (x : ℕ). map / 2 ^ x) s

  pub marked_left : (b : Bool) → b ≡ eqb (bit left j) 1 → b ≡ eqb (bit map i) 1
  marked_left b h = h ∙ ap (λ (x : ℕ). eqb (x % 2) 1) left_on

-- ---- a turn of the loop

-- out has the first n bytes of f, and from there on it is l
abbrev pub Made : (ℕ → ℕ) → ℕ → List ℕ → List ℕ → Type 0
Made f n l out = out ≡ made f n ++ drop n l

module _ (ends : List ℕ) (ones twos rotation : ℕ) (colours alphas : List ℕ) (k : ℕ) where
  -- channel c of pixel k
  abbrev at : ℕ → ℕ
  at = channel_shade ends ones twos colours alphas k

  -- byte 4 k + c
  pub byte_of : (c : ℕ) → c < 4 → at (turned rotation c) ≡ shade_byte ends ones twos rotation colours alphas (4 * k + c)
  unfolding shade_byte
  byte_of c h =
      let d : (4 * k + c) / 4 ≡ k = omega arith in
      let m : (4 * k + c) % 4 ≡ c = omega arith in
      sym (ap₂ (λ (p q : ℕ). channel_shade ends ones twos colours alphas p (turned rotation q)) d m)

-- a block of one index set, from what `shade` answers and the tests of the two maps
one_weight : (alpha : Bool) (w : ℕ) → w ≡ pick alpha w w
one_weight true w = refl
one_weight false w = refl

module _ (ends : List ℕ) (ones twos : ℕ) (weights : List ℕ) (k : ℕ) where
  pub shown : (c i s : ℕ) (one two : Bool) → s ≡ shade_at ends c (region_by one two) (get_or weights k 0) → one ≡ eqb (bit ones k) 1 → two ≡ eqb (bit twos k) 1
      → c < 4 → 4 * k + c ≡ i → s ≡ shade_byte ends ones twos 0 weights weights i
  unfolding turned channel_shade
  shown c i s one two e eo et h n =
      e ∙ ap₂ (λ (r w : ℕ). shade_at ends c r w) (ap₂ region_by eo et) (one_weight (eqb c 3) (get_or weights k 0))
      ∙ byte_of ends ones twos 0 weights weights k c h
      ∙ ap (shade_byte ends ones twos 0 weights weights) n

-- a block of one region
pub solo_byte : (ends : List ℕ) (rotation : ℕ) (colours alphas : List ℕ) (k c : ℕ) → c < 4
    → solo_at ends rotation (get_or colours k 0) (get_or alphas k 0) c ≡ shade_byte ends 0 0 rotation colours alphas (4 * k + c)
unfolding solo_at channel_shade
solo_byte ends rotation colours alphas k c h =
    ap₂ (λ (one two : Bool). shade_at ends (turned rotation c) (region_by one two) (pick (eqb (turned rotation c) 3) (get_or alphas k 0) (get_or colours k 0))) (unmarked k) (unmarked k)
    ∙ byte_of ends 0 0 rotation colours alphas k c h
