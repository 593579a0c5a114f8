-- Why each premise of demand 3 stands: leave any one of them out, and two different blocks show one picture. Assumes nothing.
use mathlib.Core.Path.{◌≡◌, refl, sym, ap, ◌∙◌, subst}
use mathlib.Core.Logic.{◌⊎◌, inl, inr, ⊎_elim}
use mathlib.Core.Bool.{Bool, true}
use mathlib.Core.List.{List, [], ◌∷◌}
use Prim.Native.Nat.{ℕ, ◌≤◌, ◌<◌}
use lib.Dec.{T, eqb, leb, eqb→eq, leb→le, lit<}
use lib.IntN.{negsuc}
use lib.ListN.{get_or}
use Rattle.laws.specs.Pick.{both, either}
use Rattle.laws.specs.Every.{every}
use Rattle.laws.specs.Made.{made, count_of}
use Rattle.laws.specs.Packed.{before, unpacked}
use Rattle.laws.specs.Search.{some, distinct}
use Rattle.laws.proofs.Tests.{both_left, both_right}
use Rattle.laws.proofs.Search.{either_cases, Found, some_found, distinct_apart}
use Rattle.bcn_spec.specs.Bits.{IsBlock}
use Rattle.bc6h_spec.specs.Layout.{transformed, rows, row1, row2, row3, row4, row5, row6, row7, row8, row9, row10, row11, row12, row13, row14}
use Rattle.bcn_spec.specs.Regions.{partitions}
use Rattle.bc6h_spec.specs.Regions.{region_of, region1_of}
use Rattle.bc6h_spec.specs.Fields.{mode_in, mode_of, gathered, fields_at, fields_of, index_of}
use Rattle.bc6h_spec.specs.Half.{sign_extend, keep, transform, unquantize_u, unquantize_m, unquantized, interpolated, finish_u, scaled, finish_s, finished}
use Rattle.bc6h_spec.specs.Picture.{first_end, delta, other_end, endpoint, between, palette, value, is_signed, picture_as, picture}
use Rattle.bc6h_spec.specs.Block.{pixels_of}
use Rattle.store_copies.specs.Words.{PixelAt, ChannelDiffers, palette_value}
use Rattle.store_copies.specs.Trust.{is_block}
use Rattle.store_copies.proofs.Demand3.{demand3}
use Rattle.store_copies.proofs.Trust.{block_sound}
use Rattle.store_copies.proofs.Premises.{Pair, Premise, each, Claim, Row, Without, fools?, all_refuted}
use Rattle.store_copies.proofs.Pairs.{longer, two_modes, in_mode_14, without_index_0, without_index_15, only_ends_differ, least}

-- ---- the premises, one by one

abbrev pub sixteen_bytes : Premise
sixteen_bytes = each (λ n b. IsBlock b) (λ n b. is_block b) (λ n b. block_sound b)

abbrev pub one_mode : Premise
one_mode = record { Met = λ p. mode_of p.x ≡ mode_of p.y; test = λ p. eqb (mode_of p.x) (mode_of p.y); shows = λ p t. eqb→eq _ _ t }

abbrev in? : ℕ → ℕ → ℕ → Bool
in? a b m = both (leb a m) (leb m b)

pub in_shown : (a b m : ℕ) → T (in? a b m) → (a ≤ m) × (m ≤ b)
in_shown a b m t = (leb→le _ _ (both_left (leb a m) _ t), leb→le _ _ (both_right (leb a m) _ t))

-- both modes from a to z
abbrev pub modes : ℕ → ℕ → Premise
modes a z = each (λ n b. (a ≤ mode_of b) × (mode_of b ≤ z)) (λ n b. in? a z (mode_of b)) (λ n b. in_shown a z (mode_of b))

abbrev at? : ℕ → List ℕ → Bool
at? n block = some (λ pixel. eqb (index_of (fields_of 0 block) pixel) n) 16

pub at_shown : (n : ℕ) (block : List ℕ) → T (at? n block) → PixelAt block n
at_shown n block t =
    let r : Found (λ pixel. eqb (index_of (fields_of 0 block) pixel) n) 16 = some_found (λ pixel. eqb (index_of (fields_of 0 block) pixel) n) 16 t in
    record { pixel = r.place; is_pixel = r.inside; at_index = eqb→eq _ _ r.there }

abbrev index : ℕ → Premise
index k = each (λ n b. PixelAt b k) (λ n b. at? k b) (λ n b. at_shown k b)

abbrev differ? : ℕ → List ℕ → Bool
differ? format block = some (λ c. distinct (palette_value (is_signed format) block c) 16) 3

pub differ_shown : (format : ℕ) (block : List ℕ) → T (differ? format block) → ChannelDiffers (is_signed format) block
differ_shown format block t =
    let r : Found (λ c. distinct (palette_value (is_signed format) block c) 16) 3 = some_found (λ c. distinct (palette_value (is_signed format) block c) 16) 3 t in
    record { channel = r.place; is_channel = r.inside; all_differ = distinct_apart (palette_value (is_signed format) block r.place) 16 r.there }

abbrev channel_differs : Premise
channel_differs =
    record {
      Met = λ p. ChannelDiffers (is_signed p.format) p.x ⊎ ChannelDiffers (is_signed p.other) p.y;
      test = λ p. either (differ? p.format p.x) (differ? p.other p.y);
      shows = λ p t.
          ⊎_elim (λ a. inl (differ_shown p.format p.x a)) (λ a. inr (differ_shown p.other p.y a))
          (either_cases (differ? p.format p.x) _ t);
    }

abbrev unsigned : Premise
unsigned = each (λ n b. n ≡ 0) (λ n b. eqb n 0) (λ n b. eqb→eq n 0)

abbrev pub premises : List Premise
premises = sixteen_bytes ∷ one_mode ∷ modes 11 13 ∷ index 0 ∷ index 15 ∷ channel_differs ∷ unsigned ∷ []

-- together they are demand 3's
abbrev All : Pair → Type 0
All p = (q : ℕ) → q < 7 → (get_or premises q unsigned).Met p

together : Claim All
together p met e =
    demand3 p.x p.y
    (record { bytes = (met 0 (lit< tt)).0; mode_from = (met 2 (lit< tt)).0.0; mode_to = (met 2 (lit< tt)).0.1; lowest = (met 3 (lit< tt)).0; highest = (met 4 (lit< tt)).0 })
    (record { bytes = (met 0 (lit< tt)).1; mode_from = (met 2 (lit< tt)).1.0; mode_to = (met 2 (lit< tt)).1.1; lowest = (met 3 (lit< tt)).1; highest = (met 4 (lit< tt)).1 })
    (met 1 (lit< tt))
    (⊎_elim (λ a. inl (subst (λ (f : ℕ). ChannelDiffers (is_signed f) p.x) x_unsigned a)) (λ a. inr (subst (λ (f : ℕ). ChannelDiffers (is_signed f) p.y) y_unsigned a)) (met 5 (lit< tt)))
    (ap (λ (f : ℕ). pixels_of (is_signed f) p.x) (sym x_unsigned) ∙ e ∙ ap (λ (f : ℕ). pixels_of (is_signed f) p.y) y_unsigned)
  where
    x_unsigned : p.format ≡ 0
    x_unsigned = (met 6 (lit< tt)).0

    y_unsigned : p.other ≡ 0
    y_unsigned = (met 6 (lit< tt)).1

-- ---- one table, one theorem

abbrev against : List Row
against =
    record { against = 0; pair = longer } ∷
    record { against = 1; pair = two_modes } ∷
    record { against = 2; pair = in_mode_14 } ∷
    record { against = 3; pair = without_index_0 } ∷
    record { against = 4; pair = without_index_15 } ∷
    record { against = 5; pair = only_ends_differ } ∷
    record { against = 6; pair = least } ∷ []

all_fool : T (every (fools? premises unsigned) against)
unfolding made count_of transformed rows row1 row2 row3 row4 row5 row6 row7 row8 row9 row10 row11 row12 row13 row14
    partitions region_of region1_of mode_in mode_of gathered before unpacked fields_at fields_of sign_extend keep transform unquantize_u unquantize_m unquantized interpolated finish_u scaled finish_s finished
    first_end delta other_end endpoint between palette value picture_as picture pixels_of some
all_fool = tt

-- demand 3 without any one of its premises
pub needed : (k : ℕ) → k < 7 → Claim (Without premises unsigned (get_or against k (record { against = 0; pair = longer })).against) → ⊥
needed = all_refuted premises unsigned against (record { against = 0; pair = longer }) all_fool

-- the signed pair's first ends: −2 ^ (p − 1) and its neighbour
least_ends : (endpoint true (fields_of 1 least.x) 0 0 ≡ negsuc 511) × (endpoint true (fields_of 1 least.y) 0 0 ≡ negsuc 510)
unfolding made count_of rows row11 partitions region_of region1_of mode_in mode_of gathered before unpacked fields_at fields_of sign_extend first_end endpoint
least_ends = (refl, refl)
