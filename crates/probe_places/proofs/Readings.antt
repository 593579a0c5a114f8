-- Which check gives the record call its answer, what a reading and a part say, and that each call's statement admits one outcome. Assumes
-- nothing.
use mathlib.Core.Path.{◌≡◌, refl, sym, ◌∙◌, ap}
use mathlib.Core.List.{List, [], ◌∷◌}
use Prim.Native.Nat.{ℕ, zero, suc, ◌+◌, ◌-◌, ◌*◌, ◌%◌, ◌≤◌, ◌<◌}
use native.Mathlib.Nat.{add_assoc}
use native.Mathlib.Omega.{arith}
use lib.ListN.{length, get_or, length-take, length-drop}
use borrow.Author.Tests.{lt-ltb, le-ltb, eq-eqb, ne_eqb, ltb-true, ltb-false, eqb-true, not-false}
use Rattle.laws.proofs.Checks.{none_met, no_number}
use Rattle.bcn_spec.specs.Answers.{done, long_store, uneven_store, no_record}
use Rattle.bcn_spec.specs.Bits.{block_size}
use Rattle.raw_bytes.specs.Bytes.{low_first}
use Rattle.raw_bytes.proofs.Bytes.{two_bytes}
use Rattle.probe_places.specs.declared.Place.{Place}
use Rattle.probe_places.specs.declared.PlacedRecord.{PlacedRecord}
use Rattle.probe_places.specs.declared.PlacedReading.{PlacedReading}
use Rattle.probe_places.specs.declared.PlacedReading.TheVariants as reading
use Rattle.probe_places.specs.Places.{place_size, place_limit, places_in, pair_at, tile_in, format_in, face_in, column_in, row_in, place_in, block_in, place_record_checks, place_record_refusal}
use Rattle.probe_places.specs.Readings.{placed_checks, placed_refusal, Readable, values_at, PlacedRead, placed_part}

-- ---- which check

module _ (store : List ℕ) (n : ℕ) where
  pub long : place_limit < length store → long_store ≡ placed_refusal store n
  unfolding placed_refusal
  long h = rw (lt-ltb _ _ h)

  pub uneven : length store ≤ place_limit → (length store % place_size ≡ 0 → ⊥) → uneven_store ≡ placed_refusal store n
  unfolding placed_refusal
  uneven h w = rw (le-ltb _ _ h, ne_eqb _ _ w)

  pub past : length store ≤ place_limit → length store % place_size ≡ 0 → places_in store ≤ n → no_record ≡ placed_refusal store n
  unfolding placed_refusal
  past h w l = rw (le-ltb _ _ h, eq-eqb _ _ w, le-ltb _ _ l)

  pub of_record : {r : ℕ} → length store ≤ place_limit → length store % place_size ≡ 0 → n < places_in store → r ≡ place_record_refusal store n
      → r ≡ placed_refusal store n
  unfolding placed_refusal place_record_refusal
  of_record h w l e = e ∙ rw (le-ltb _ _ h, eq-eqb _ _ w, lt-ltb _ _ l)

-- what a record that is not refused says of its store
pub record Known (store : List ℕ) (n : ℕ) : Type 0 where
  pub fits : length store ≤ place_limit
  pub whole : length store % place_size ≡ 0
  pub below : n < places_in store
  pub unrefused : place_record_refusal store n ≡ done

pub known : (store : List ℕ) (n : ℕ) → Readable store n → Known store n
unfolding placed_refusal place_record_refusal
known store n z =
    let m = none_met (placed_checks store n) tt z in
    record {
      fits = ltb-false _ _ m.0;
      whole = eqb-true _ _ (not-false _ m.1.0);
      below = ltb-true _ _ (not-false _ m.1.1.0);
      unrefused = no_number (place_record_checks store n) m.1.1.1;
    }

pub known_of : {store : List ℕ} {n r : ℕ} → r ≡ placed_refusal store n → r ≡ done → Known store n
known_of {store} {n} e z = known store n (sym e ∙ z)

-- ---- the record call

pub pair_read : (store : List ℕ) (n k : ℕ) → low_first store (n * place_size + k) 2 ≡ pair_at store n k
pair_read store n k =
    sym (two_bytes store (n * place_size + k))
    ∙ ap (λ (i : ℕ). get_or store (n * place_size + k) 0 + get_or store i 0 * 0x100) (add_assoc (n * place_size) k 1)

pub read_refused : (store : List ℕ) (n : ℕ) {r : ℕ} → r ≡ placed_refusal store n → (r ≡ done → ⊥) → PlacedRead store n (reading.Refused r)
read_refused store n {r} e z = let s : placed_refusal store n ≡ suc (r - 1) = omega arith in record { answers = e; gives = rw s }

pub read_record : (store : List ℕ) (n : ℕ) {r tile : ℕ} {place : Place} → r ≡ placed_refusal store n → r ≡ done → tile ≡ tile_in store n
    → place ≡ place_in store n → PlacedRead store n (reading.Record (record { tile = tile; format = format_in store n; place = place }))
read_record store n e z t p = let u : Readable store n = sym e ∙ z in record { answers = sym u; gives = rw (u, t, p) }

-- a reading that is a record: it is not refused, and it is the store's
pub unrefused : {store : List ℕ} {n : ℕ} {x : PlacedReading} {r : PlacedRecord} → PlacedRead store n x → x ≡ reading.Record r → Readable store n
unrefused d e = cc d.answers

pub record_is : {store : List ℕ} {n : ℕ} {x : PlacedReading} {r : PlacedRecord} → PlacedRead store n x → x ≡ reading.Record r
    → r ≡ record { tile = tile_in store n; format = format_in store n; place = place_in store n }
record_is {store} {n} {x} {r} d e =
    let v : r.tile ∷ r.format ∷ r.place.face ∷ r.place.column ∷ r.place.row ∷ []
    ≡ tile_in store n ∷ format_in store n ∷ face_in store n ∷ column_in store n ∷ row_in store n ∷ [] = rw (e, unrefused d e) at d.gives in
    let tile : r.tile ≡ tile_in store n = cc in
    let format : r.format ≡ format_in store n = cc in
    let face : r.place.face ≡ face_in store n = cc in
    let column : r.place.column ≡ column_in store n = cc in
    let row : r.place.row ≡ row_in store n = cc in
    λ i. record { tile = tile i; format = format i; place = record { face = face i; column = column i; row = row i } }

-- a reading that is a refusal
refused_at : (store : List ℕ) (n a : ℕ) → [] ≡ values_at a store n → a ≡ done → ⊥
refused_at store n zero v z = omega (arith, ap length v)
refused_at store n (suc a) v z = omega arith

pub refused : {store : List ℕ} {n k : ℕ} {x : PlacedReading} → PlacedRead store n x → x ≡ reading.Refused k → Readable store n → ⊥
refused {store} {n} {k} {x} d e u = refused_at store n (placed_refusal store n) (rw e at d.gives) u

same_reading : (a b : PlacedReading) (store : List ℕ) (n : ℕ) → PlacedRead store n a → PlacedRead store n b → a ≡ b
same_reading (reading.Record q) (reading.Record r) store n d e = ap reading.Record (record_is d refl ∙ sym (record_is e refl))
same_reading (reading.Record q) (reading.Refused k) store n d e = absurd (refused e refl (sym d.answers))
same_reading (reading.Refused k) (reading.Record r) store n d e = absurd (refused d refl (sym e.answers))
same_reading (reading.Refused j) (reading.Refused k) store n d e = ap reading.Refused (d.answers ∙ sym e.answers)

pub one_reading : {store : List ℕ} {n : ℕ} {a b : PlacedReading} → PlacedRead store n a → PlacedRead store n b → a ≡ b
one_reading {store} {n} {a} {b} d e = same_reading a b store n d e

-- ---- the block call

pub part_of : (store : List ℕ) (n : ℕ) {r : ℕ} → r ≡ placed_refusal store n → r ≡ done → block_in store n ≡ placed_part (placed_refusal store n) store n
part_of store n e z = let u : Readable store n = sym e ∙ z in rw u

pub block_length : {store : List ℕ} {n : ℕ} → Known store n → length (block_in store n) ≡ block_size
unfolding block_in
block_length k = simp (length-take, length-drop) (omega arith)

-- the part is empty exactly when the record call refuses
pub empty_refused : (store : List ℕ) (n : ℕ) → (Readable store n → ⊥) → placed_part (placed_refusal store n) store n ≡ []
empty_refused store n r = let s : placed_refusal store n ≡ suc (placed_refusal store n - 1) = omega arith in rw s

pub empty_only : (store : List ℕ) (n : ℕ) → placed_part (placed_refusal store n) store n ≡ [] → Readable store n → ⊥
empty_only store n e u =
    omega (arith, sym (block_length (known store n u)) ∙ ap length (part_of store n refl u ∙ e))

pub one_part : (store : List ℕ) (n : ℕ) {a b : List ℕ} → a ≡ placed_part (placed_refusal store n) store n
    → b ≡ placed_part (placed_refusal store n) store n → a ≡ b
one_part store n d e = d ∙ sym e
