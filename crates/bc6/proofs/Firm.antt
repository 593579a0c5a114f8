-- S-79: wrong decoders that the statement of the pixels call keeps out. Assumes nothing.
use mathlib.Core.Path.{◌≡◌, refl, ap, ◌∙◌}
use mathlib.Core.Bool.{Bool, true, false}
use mathlib.Core.List.{List, [], ◌∷◌, ◌++◌}
use Prim.Native.Nat.{ℕ, ◌+◌, ◌*◌, ◌<◌}
use native.Mathlib.Omega.{arith}
use lib.Dec.{lit≤, lit<}
use lib.ListN.{length, get_or, drop, replicate}
use Rattle.laws.specs.Pick.{pick}
use Rattle.laws.specs.Made.{made, count_of}
use Rattle.laws.specs.Packed.{before, unpacked}
use Rattle.bcn_spec.specs.Answers.{done}
use Rattle.bcn_spec.specs.Bits.{block_size}
use Rattle.bc6h_spec.specs.Layout.{transformed, rows, row11, row13}
use Rattle.bc6h_spec.specs.Regions.{region_of}
use Rattle.bc6h_spec.specs.Fields.{mode_in, mode_of, gathered, fields_at, fields_of}
use Rattle.bc6h_spec.specs.Half.{sign_extend, keep, transform, unquantize_u, unquantize_m, unquantized, interpolated, highest_pattern, finish_u, scaled, finish_s, finished}
use Rattle.bc6h_spec.specs.Picture.{first_end, delta, other_end, endpoint, between, palette, value, picture_as, picture, value_count}
use Rattle.bc6h_spec.specs.Block.{pixels_of}
use Rattle.bc6h_spec.specs.Named.{B3, B5}
use Rattle.bc6.specs.Call.{Pixels}
use Rattle.bc6.specs.Call.{refusal_of, Painted}
use Rattle.bc6.proofs.Calls.{done_when, answered}
use Rattle.bc6.proofs.Values.{wrote}

-- ---- what three blocks show

B5_red : get_or (pixels_of false B5) 0 0 ≡ 0x3E03
unfolding made count_of transformed rows row13 region_of mode_in mode_of gathered before unpacked fields_at fields_of sign_extend keep transform
    unquantize_u unquantized interpolated finish_u finished first_end delta other_end endpoint between palette value picture_as picture pixels_of
B5_red = refl

B3_red : (get_or (pixels_of false B3) 0 0 ≡ 0) × (get_or (pixels_of false B3) 45 0 ≡ highest_pattern)
unfolding made count_of transformed rows row11 region_of mode_in mode_of gathered before unpacked fields_at fields_of sign_extend keep transform
    unquantize_u unquantized interpolated finish_u finished first_end delta other_end endpoint between palette value picture_as picture pixels_of
B3_red = (refl, refl)

-- B3 with one bit fewer in the second endpoint's red: 0x1FF, the highest of ten bits in signed format
abbrev B3_signed : List ℕ
B3_signed = 0x03 ∷ replicate 3 0 ++ (0xF8 ∷ 0x0F ∷ replicate 9 0) ++ (0xF0 ∷ [])

B3_signed_red : get_or (pixels_of true B3_signed) 45 0 ≡ highest_pattern
unfolding made count_of transformed rows row11 region_of mode_in mode_of gathered before unpacked fields_at fields_of sign_extend keep transform
    unquantize_m unquantized interpolated scaled finish_s finished first_end delta other_end endpoint between palette value picture_as picture pixels_of
B3_signed_red = refl

-- S-25: each format shows the highest pattern
pub attained : (s : Bool) → get_or (pixels_of s (pick s B3_signed B3)) 45 0 ≡ highest_pattern
attained true = B3_signed_red
attained false = B3_red.1

-- ---- a decoder: what it answers, and what it leaves in the lent values

abbrev Answers : Type 0
Answers = List ℕ → ℕ → List ℕ → Pixels

abbrev Leaves : Type 0
Leaves = List ℕ → ℕ → List ℕ → List ℕ

-- it keeps the statement of the call
abbrev Keeps : Answers → Leaves → Type 0
Keeps answers leaves = (block : List ℕ) (format : ℕ) (out : List ℕ) → Painted block format out (answers block format out) (leaves block format out)

-- a lent output of 48 zeros
abbrev room : List ℕ
room = replicate 48 0

module _ (answers : Answers) (leaves : Leaves) (keeps : Keeps answers leaves) where
  is_done : (block : List ℕ) → length block ≡ block_size → refusal_of 0 (length block) (length room) ≡ done
  is_done block h = done_when 0 (length block) (length room) (lit≤ tt) h (lit≤ tt)

  -- S-30: a decoder that refuses everything is ruled out, since a refusal has its condition.
  pub not_all_refused : ((block : List ℕ) (format : ℕ) (out : List ℕ) → (answers block format out).answer ≡ done → ⊥) → ⊥
  not_all_refused refuses = refuses B5 0 room (answered (keeps B5 0 room) ∙ is_done B5 refl)

  left : (block : List ℕ) → length block ≡ block_size → (j : ℕ) → j < 48 → get_or (leaves block 0 room) j 0 ≡ get_or (pixels_of false block) j 0
  left block h j l = wrote (keeps block 0 room) (is_done block h) j l

  -- S-2: one that paints every block black is ruled out at B5.
  pub not_all_black : ((block : List ℕ) (format : ℕ) (out : List ℕ) → leaves block format out ≡ replicate value_count 0 ++ drop value_count out) → ⊥
  not_all_black black =
      let zero : get_or (leaves B5 0 room) 0 0 ≡ 0 = ap (λ (l : List ℕ). get_or l 0 0) (black B5 0 room) in
      let red : get_or (leaves B5 0 room) 0 0 ≡ 0x3E03 = left B5 refl 0 (lit< tt) ∙ B5_red in
      omega arith

  -- S-31: one that writes nothing is ruled out by the 48 values.
  pub not_silent : ((block : List ℕ) (format : ℕ) (out : List ℕ) → leaves block format out ≡ out) → ⊥
  not_silent silent =
      let zero : get_or (leaves B5 0 room) 0 0 ≡ 0 = ap (λ (l : List ℕ). get_or l 0 0) (silent B5 0 room) in
      let red : get_or (leaves B5 0 room) 0 0 ≡ 0x3E03 = left B5 refl 0 (lit< tt) ∙ B5_red in
      omega arith

  -- S-2: one that decodes pixel 0 and copies it on is ruled out at B3.
  pub not_copied : ((block : List ℕ) (format : ℕ) (out : List ℕ) (k c : ℕ) → k < 16 → c < 3
      → get_or (leaves block format out) (3 * k + c) 0 ≡ get_or (leaves block format out) c 0) → ⊥
  not_copied copied =
      let same : get_or (leaves B3 0 room) 45 0 ≡ get_or (leaves B3 0 room) 0 0 = copied B3 0 room 15 0 (lit< tt) (lit< tt) in
      let first : get_or (leaves B3 0 room) 0 0 ≡ 0 = left B3 refl 0 (lit< tt) ∙ B3_red.0 in
      let last : get_or (leaves B3 0 room) 45 0 ≡ highest_pattern = left B3 refl 45 (lit< tt) ∙ B3_red.1 in
      omega arith
