-- Which records have a place, and how many. Assumes nothing.
use mathlib.Core.Path.{◌≡◌, refl}
use mathlib.Core.Bool.{Bool, false, not}
use mathlib.Core.List.{List}
use Prim.Native.Nat.{ℕ, ◌+◌, ◌≤◌}
use native.Mathlib.Omega.{arith}
use lib.Dec.{ltb}
use borrow.Author.Tests.{eq-eqb, ne_eqb}
use Rattle.laws.specs.Pick.{pick}
use Rattle.bcn_spec.specs.Answers.{done}
use Rattle.probe_places.specs.declared.PlacedRecord.{PlacedRecord}
use Rattle.probe_places.specs.declared.PlacedReading.{PlacedReading}
use Rattle.probe_places.specs.declared.PlacedReading.TheVariants as reading
use Rattle.probe_places.specs.Places.{face_count, places_in}
use Rattle.probe_places.specs.Readings.{placed_refusal, Readable, PlacedRead}
use Rattle.probe_places.proofs.Readings.{unrefused, record_is}
use Rattle.store_faulty.specs.declared.FaultCounts.{FaultCounts}
use Rattle.store_faulty.specs.Faulty.{form_of, how_many, counts_of}
use Rattle.store_faulty.proofs.Forms.{more}
use Rattle.text_places.specs.Lines.{is_placed, is_unplaced, place_counts}

-- ---- a record

module _ (store : List ℕ) (n : ℕ) where
  pub refused_no_place : (Readable store n → ⊥) → false ≡ is_placed store n
  unfolding is_placed
  refused_no_place r = rw (ne_eqb (placed_refusal store n) done r)

  pub refused_not_unplaced : (Readable store n → ⊥) → false ≡ is_unplaced store n
  unfolding is_unplaced
  refused_not_unplaced r = rw (ne_eqb (placed_refusal store n) done r)

  module _ {x : PlacedReading} {r : PlacedRecord} (d : PlacedRead store n x) (e : x ≡ reading.Record r) where
    pub read_placed : ltb r.place.face face_count ≡ is_placed store n
    unfolding is_placed
    read_placed = rw (eq-eqb (placed_refusal store n) done (unrefused d e), record_is d e)

    pub read_unplaced : not (ltb r.place.face face_count) ≡ is_unplaced store n
    unfolding is_unplaced
    read_unplaced = rw (eq-eqb (placed_refusal store n) done (unrefused d e), record_is d e)

-- ---- how many

-- The counts over the first n records, as a loop has them.
pub record Sorted (store : List ℕ) (n placed unplaced : ℕ) : Type 0 where
  pub placed_is : placed ≡ how_many (is_placed store) n
  pub unplaced_is : unplaced ≡ how_many (is_unplaced store) n
  pub few : (placed ≤ n) × (unplaced ≤ n)

module _ (store : List ℕ) where
  pub none_sorted : Sorted store 0 0 0
  unfolding how_many
  none_sorted = record { placed_is = refl; unplaced_is = refl; few = (omega arith, omega arith) }

  pub one_sorted : {n placed unplaced a b : ℕ} {x y : Bool} → Sorted store n placed unplaced → x ≡ is_placed store n
      → (a ≤ 1) × (a ≡ pick x 1 0) → y ≡ is_unplaced store n → (b ≤ 1) × (b ≡ pick y 1 0) → Sorted store (n + 1) (placed + a) (unplaced + b)
  one_sorted {n} {placed} {unplaced} {a} {b} c r p d q =
      let ra : a ≡ pick (is_placed store n) 1 0 = rw r at p.1 in
      let db : b ≡ pick (is_unplaced store n) 1 0 = rw d at q.1 in
      record {
        placed_is = let e = more (is_placed store) n in let f = c.placed_is in omega arith;
        unplaced_is = let e = more (is_unplaced store) n in let f = c.unplaced_is in omega arith;
        few = let f = c.few in (omega arith, omega arith);
      }

  pub all_sorted : {n placed unplaced : ℕ} {faults : FaultCounts} → n ≤ places_in store → places_in store ≤ n → Sorted store n placed unplaced
      → faults ≡ counts_of (form_of 32) store → record { placed = placed; unplaced = unplaced; bad = faults.refused } ≡ place_counts store
  unfolding place_counts form_of
  all_sorted {n} h k c f =
      let is : n ≡ places_in store = omega arith in
      rw (rw is at c.placed_is, rw is at c.unplaced_is, f)
