-- Why each clause of the wider theorem stands: leave any one of them out, and two different blocks show one picture. Where a clause
-- speaks of regions or of both forms there is a pair for each. And that the clauses can be met. Assumes nothing.
use mathlib.Core.Path.{◌≡◌, subst}
use mathlib.Core.Logic.{inl, inr, ⊎_elim}
use mathlib.Core.Bool.{Bool, not}
use mathlib.Core.List.{List, [], ◌∷◌}
use Prim.Native.Nat.{ℕ, ◌≤◌, ◌<◌}
use lib.Dec.{T, eqb, leb, eqb→eq, leb→le, lit<}
use lib.ListN.{get_or}
use Rattle.laws.specs.Pick.{both, either}
use Rattle.laws.specs.Every.{below, every}
use Rattle.laws.specs.Made.{made, count_of}
use Rattle.laws.specs.Packed.{before, unpacked}
use Rattle.laws.specs.Search.{some}
use Rattle.laws.proofs.Tests.{both_left, both_right, below_at}
use Rattle.laws.proofs.Search.{either_cases}
use Rattle.bc6h_spec.specs.declared.Fields.{Fields}
use Rattle.bc6h_spec.specs.Layout.{transformed, rows, row1, row2, row3, row4, row5, row6, row7, row8, row9, row10, row11, row12, row13, row14}
use Rattle.bcn_spec.specs.Regions.{partitions}
use Rattle.bc6h_spec.specs.Regions.{region_of, region1_of}
use Rattle.bc6h_spec.specs.Fields.{mode_in, mode_of, gathered, fields_at, fields_of}
use Rattle.bc6h_spec.specs.Half.{sign_extend, keep, transform, unquantize_u, unquantize_m, unquantized, interpolated, finish_u, scaled, finish_s, finished}
use Rattle.bc6h_spec.specs.Picture.{first_end, delta, other_end, endpoint, between, palette, value, is_signed, picture_as, picture}
use Rattle.bc6h_spec.specs.Block.{pixels_of}
use Rattle.bc6h_spec.specs.Named.{B3}
use Rattle.store_copies.specs.Wide.{regions, last_index, AllReach, NoLeast, RegionsDiffer}
use Rattle.store_copies.specs.Trust.{Trusted, reaches, channel_differs, differs, least_end, has_least, region_trusted, fields_trusted, trusted}
use Rattle.store_copies.proofs.Wide.{copies}
use Rattle.store_copies.proofs.Trust.{reaches_sound, differs_sound, not_least_sound, sound}
use Rattle.store_copies.proofs.Premises.{Pair, Premise, each, Claim, Row, Without, fools?, all_refuted}
use Rattle.store_copies.proofs.Needed.{sixteen_bytes, one_mode, modes}
use Rattle.store_copies.proofs.Pairs.{longer, two_modes, in_mode_14, without_index_0, without_index_15, only_ends_differ, least, two_formats, two_partitions, region_without_index_0, region_without_index_7, flat_region, least_of_region, regions_of_two_formats}

-- ---- the clauses, one by one

-- S-5: both unsigned or both signed
abbrev one_format : Premise
one_format =
    record {
      Met = λ p. (p.format ≤ 1) × (p.format ≡ p.other);
      test = λ p. both (leb p.format 1) (eqb p.format p.other);
      shows = λ p t. (leb→le _ _ (both_left (leb p.format 1) _ t), eqb→eq _ _ (both_right (leb p.format 1) _ t));
    }

-- S-4: one partition
abbrev one_partition : Premise
one_partition =
    record {
      Met = λ p. (fields_of p.format p.x).partition ≡ (fields_of p.other p.y).partition;
      test = λ p. eqb (fields_of p.format p.x).partition (fields_of p.other p.y).partition;
      shows = λ p t. eqb→eq _ _ t;
    }

-- what is asked of the fields of each block, in its format
abbrev of_fields : (Met : ℕ → Fields → Type 0) (test : ℕ → Fields → Bool) → ((n : ℕ) (f : Fields) → T (test n f) → Met n f) → Premise
of_fields Met test shows = each (λ n b. Met n (fields_of n b)) (λ n b. test n (fields_of n b)) (λ n b. shows n (fields_of n b))

pub all_shown : (f : Fields) (n : ℕ) → T (below (λ r. reaches f r n) (regions f.mode)) → AllReach f n
all_shown f n t r h = reaches_sound f r n (below_at (λ r. reaches f r n) (regions f.mode) r t h)

-- S-4: each region has a pixel at index 0
abbrev index_0 : Premise
index_0 = of_fields (λ n f. AllReach f 0) (λ n f. below (λ r. reaches f r 0) (regions f.mode)) (λ n f. all_shown f 0)

-- S-4: each region has a pixel at the last index, 7 or 15
abbrev last_index_lem : Premise
last_index_lem =
    of_fields (λ n f. AllReach f (last_index f.mode)) (λ n f. below (λ r. reaches f r (last_index f.mode)) (regions f.mode))
    (λ n f. all_shown f (last_index f.mode))

-- S-5: no endpoint, after the transform, is −2^(p−1)
abbrev no_least : Premise
no_least = of_fields (λ n f. NoLeast (is_signed n) f) (λ n f. not (both (is_signed n) (has_least f))) (λ n f. not_least_sound (is_signed n) f)

abbrev differ? : Pair → ℕ → Bool
differ? p r = either (differs (is_signed p.format) (fields_of p.format p.x) r) (differs (is_signed p.other) (fields_of p.other p.y) r)

pub differ_shown : (p : Pair) → T (below (differ? p) (regions (mode_of p.x))) → RegionsDiffer p.format p.x p.other p.y
differ_shown p t r h =
    ⊎_elim (λ a. inl (differs_sound (is_signed p.format) (fields_of p.format p.x) r a)) (λ a. inr (differs_sound (is_signed p.other) (fields_of p.other p.y) r a))
    (either_cases (differs (is_signed p.format) (fields_of p.format p.x) r) _ (below_at (differ? p) (regions (mode_of p.x)) r t h))

-- S-4: for each region one of the two blocks has a channel whose palette values differ
abbrev regions_differ : Premise
regions_differ =
    record {
      Met = λ p. RegionsDiffer p.format p.x p.other p.y;
      test = λ p. below (differ? p) (regions (mode_of p.x));
      shows = differ_shown;
    }

abbrev pub clauses : List Premise
clauses = sixteen_bytes ∷ one_format ∷ one_mode ∷ one_partition ∷ modes 1 13 ∷ index_0 ∷ last_index_lem ∷ regions_differ ∷ no_least ∷ []

-- together they are the theorem's
abbrev All : Pair → Type 0
All p = (q : ℕ) → q < 9 → (get_or clauses q no_least).Met p

together : Claim All
together p met =
    copies p.format p.other p.x p.y
    (record {
      known_format = (met 1 (lit< tt)).0;
      bytes = (met 0 (lit< tt)).0;
      spanning = record { lowest = (met 5 (lit< tt)).0; highest = (met 6 (lit< tt)).0; not_least = (met 8 (lit< tt)).0 };
      mode_from = (met 4 (lit< tt)).0.0;
      mode_to = (met 4 (lit< tt)).0.1;
    })
    (record {
      known_format = subst (λ (f : ℕ). f ≤ 1) (met 1 (lit< tt)).1 (met 1 (lit< tt)).0;
      bytes = (met 0 (lit< tt)).1;
      spanning = record { lowest = (met 5 (lit< tt)).1; highest = (met 6 (lit< tt)).1; not_least = (met 8 (lit< tt)).1 };
      mode_from = (met 4 (lit< tt)).1.0;
      mode_to = (met 4 (lit< tt)).1.1;
    })
    (record { one_mode = met 2 (lit< tt); one_partition = met 3 (lit< tt); differ = met 7 (lit< tt); one_format = (met 1 (lit< tt)).1 })

-- ---- one table, one theorem

abbrev against : List Row
against =
    record { against = 0; pair = longer } ∷
    record { against = 1; pair = two_formats } ∷
    record { against = 2; pair = two_modes } ∷
    record { against = 3; pair = two_partitions } ∷
    record { against = 4; pair = in_mode_14 } ∷
    record { against = 5; pair = region_without_index_0 } ∷
    record { against = 6; pair = region_without_index_7 } ∷
    record { against = 7; pair = flat_region } ∷
    record { against = 8; pair = least_of_region } ∷
    record { against = 1; pair = regions_of_two_formats } ∷
    record { against = 5; pair = without_index_0 } ∷
    record { against = 6; pair = without_index_15 } ∷
    record { against = 7; pair = only_ends_differ } ∷
    record { against = 8; pair = least } ∷ []

all_fool : T (every (fools? clauses no_least) against)
unfolding made count_of transformed rows row1 row2 row3 row4 row5 row6 row7 row8 row9 row10 row11 row12 row13 row14
    partitions region_of region1_of mode_in mode_of gathered before unpacked fields_at fields_of sign_extend keep transform unquantize_u unquantize_m unquantized interpolated finish_u scaled finish_s finished
    first_end delta other_end endpoint between palette value picture_as picture pixels_of some reaches channel_differs differs least_end has_least
all_fool = tt

-- the theorem without any one of its clauses, by each pair
pub needed : (k : ℕ) → k < 14 → Claim (Without clauses no_least (get_or against k (record { against = 0; pair = longer })).against) → ⊥
needed = all_refuted clauses no_least against (record { against = 0; pair = longer }) all_fool

-- ---- the clauses can be met: with one region and with two, unsigned and signed

abbrev met? : List ℕ → List ℕ → Bool
met? x y = both (trusted 0 x) (trusted 1 y)

all_met : T (both (met? B3 least.y) (met? two_partitions.x least_of_region.y))
unfolding made count_of transformed rows row1 row2 row3 row4 row5 row6 row7 row8 row9 row10 row11 row12 row13 row14
    partitions region_of region1_of mode_in mode_of gathered before unpacked fields_at fields_of sign_extend keep transform unquantize_u unquantize_m unquantized interpolated finish_u scaled finish_s finished
    first_end delta other_end endpoint between palette some reaches channel_differs differs least_end has_least region_trusted fields_trusted trusted
all_met = tt

pub met : (Trusted 0 B3 × Trusted 1 least.y) × (Trusted 0 two_partitions.x × Trusted 1 least_of_region.y)
met = (
  shown B3 least.y (both_left (met? B3 least.y) _ all_met),
  shown two_partitions.x least_of_region.y (both_right (met? B3 least.y) _ all_met),
)
  where
    shown : (x y : List ℕ) → T (met? x y) → Trusted 0 x × Trusted 1 y
    shown x y t = (sound 0 x (both_left (trusted 0 x) _ t), sound 1 y (both_right (trusted 0 x) _ t))
