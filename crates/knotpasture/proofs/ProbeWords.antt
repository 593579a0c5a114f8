-- The words of the exports over records with a place and over a probe, from what the calls ensure. Assumes nothing.
use mathlib.Core.Path.{◌≡◌, refl, sym, ap, subst, ◌∙◌}
use mathlib.Core.List.{List}
use Prim.Native.Nat.{ℕ, zero, suc, ◌+◌, ◌-◌, ◌*◌, ◌<◌, ◌≤◌}
use native.Mathlib.Omega.{arith}
use lib.Dec.{eqb, ltb}
use lib.ListN.{length, take, drop}
use borrow.Author.Tests.{ltb-true}
use Rattle.laws.proofs.Tests.{cases}
use Rattle.bcn_spec.specs.Answers.{done}
use Rattle.bcn_spec.specs.Bits.{block_size}
use Rattle.store_records.specs.Store.{most_records}
use Rattle.probe_places.specs.declared.Fault.{Fault}
use Rattle.probe_places.specs.declared.Place.{Place}
use Rattle.probe_places.specs.declared.PlacedRecord.{PlacedRecord}
use Rattle.probe_places.specs.declared.PlacedReading.{PlacedReading}
use Rattle.probe_places.specs.declared.PlacedReading.TheVariants as reading
use Rattle.probe_places.specs.Faults.{whole_first}
use Rattle.probe_places.specs.Places.{place_size, place_head, place_limit, places_in, block_in}
use Rattle.probe_places.specs.Readings.{placed_refusal, Readable, PlacedRead, placed_part}
use Rattle.probe_places.proofs.Readings.{known, unrefused, record_is, refused}
use Rattle.probe_moves.specs.declared.Moved.{Moved}
use Rattle.probe_moves.specs.Moves.{PlacedStore, UnplacedStore}
use Rattle.probe_moves.proofs.Checks.{sized}
use Rattle.probe_put.specs.Put.{put_sizes, own_refusal, record_fault, putting_fault, PlacePut}
use Rattle.probe_put.proofs.Checks.{puttable}
use Rattle.probe.specs.declared.ProbePixel.{ProbePixel}
use Rattle.probe.specs.Probe.{probe_fault, Asked}
use Rattle.probe.proofs.Telling.{faulty_small}
use Rattle.probe_faces.specs.Face.{FacePainted}
use Rattle.probe_open.specs.Open.{open_fault, Opened, table_answer, TablePixel}
use Rattle.probe_open.proofs.Once.{one_outcome}
use Rattle.knotpasture.specs.Probe.{placed_offset, moved_word, PlacedReadingCalled, PlaceCalled, UnplaceCalled, PutCalled, pixel_word, PixelCalled, fault_word, FaceCalled, OpenCalled}

-- ---- the record calls

module _ {store : List ℕ} {n : ℕ} {x : PlacedReading} (d : PlacedRead store n x) where
  pub placed_called : {r : PlacedRecord} → x ≡ reading.Record r
      → PlacedReadingCalled store n (r.format * 0x100 + r.place.face * 0x10000 + r.tile * 0x100000000) r.place.column r.place.row
  placed_called {r} e =
      let u = unrefused d e in
      let i = record_is d e in
      record { answers = rw (u, i); column_told = rw (u, i); row_told = rw (u, i) }

  some_number : {number : ℕ} → x ≡ reading.Refused number → placed_refusal store n ≡ suc (placed_refusal store n - 1)
  some_number e = omega (arith, refused d e)

  pub placed_refused : {number : ℕ} → x ≡ reading.Refused number → PlacedReadingCalled store n number 0 0
  placed_refused {number} e =
      let a : number ≡ placed_refusal store n = rw e at d.answers in
      record { answers = a ∙ rw (some_number e); column_told = rw (some_number e); row_told = rw (some_number e) }

  pub placed_offset_lem : {r : PlacedRecord} → x ≡ reading.Record r → n * place_size + place_head ≡ placed_offset (placed_refusal store n) n
  placed_offset_lem e = rw (unrefused d e)

  pub refused_offset : {number : ℕ} → x ≡ reading.Refused number → 0 ≡ placed_offset (placed_refusal store n) n
  refused_offset e = rw (some_number e)

  -- a record that is there starts inside the store
  pub inside : {r : PlacedRecord} → x ≡ reading.Record r → n * place_size < place_limit
  inside e = let k = known store n (unrefused d e) in omega arith

-- from the offset on stand the bytes that `placed_record_block` gives
pub placed_block_at_offset : (store : List ℕ) (n : ℕ) {offset : ℕ} {part : List ℕ} → offset ≡ placed_offset (placed_refusal store n) n
    → part ≡ placed_part (placed_refusal store n) store n → Readable store n → take block_size (drop offset store) ≡ part
unfolding block_in
placed_block_at_offset store n {offset} e p u =
    let o : offset ≡ n * place_size + place_head = e ∙ rw u in
    ap (λ (at : ℕ). take block_size (drop at store)) o ∙ sym (p ∙ rw u)

pub one_placed : {store : List ℕ} {n r s c b a w : ℕ} → PlacedReadingCalled store n r c a → PlacedReadingCalled store n s b w → (r ≡ s) × (c ≡ b) × (a ≡ w)
one_placed d e = (d.answers ∙ sym e.answers, d.column_told ∙ sym e.column_told, d.row_told ∙ sym e.row_told)

-- ---- the moves

pub place_called : {old lent after : List ℕ} {r : Moved} {word : ℕ} → PlacedStore old lent r after → word ≡ moved_word r → PlaceCalled old lent word after
place_called d e = record { answers = e ∙ ap moved_word d.answers; holds = d.holds }

pub unplace_called : {new lent after : List ℕ} {r : Moved} {word : ℕ} → UnplacedStore new lent r after → word ≡ moved_word r
    → UnplaceCalled new lent word after
unplace_called d e = record { answers = e ∙ ap moved_word d.answers; holds = d.holds }

pub one_place : {old lent : List ℕ} {r s : ℕ} {a b : List ℕ} → PlaceCalled old lent r a → PlaceCalled old lent s b → (r ≡ s) × (a ≡ b)
one_place d e = (d.answers ∙ sym e.answers, d.holds ∙ sym e.holds)

pub one_unplace : {new lent : List ℕ} {r s : ℕ} {a b : List ℕ} → UnplaceCalled new lent r a → UnplaceCalled new lent s b → (r ≡ s) × (a ≡ b)
one_unplace d e = (d.answers ∙ sym e.answers, d.holds ∙ sym e.holds)

-- ---- a place that is put

-- no record above the last of 2,000 is told
put_small : (store : List ℕ) (n : ℕ) (p : Place) (room : ℕ) → (putting_fault store n p room).faulty ≤ most_records
unfolding putting_fault record_fault
put_small store n p room = whole (put_sizes (length store) room) refl
  where
    whole : (k : ℕ) → put_sizes (length store) room ≡ k → (whole_first k (record_fault store n p)).faulty ≤ most_records
    whole zero e =
        let f = (sized place_limit place_size place_size (length store) room e).fits in
        cases (ltb n (places_in store))
        (λ t.
        let l : n < places_in store = ltb-true _ _ t in
        cases (eqb (own_refusal store n) done) (λ h. rw (t, h) (omega arith)) (λ h. rw (t, h) (omega arith)))
        (λ t. rw t (omega arith))
    whole (suc k) e = omega arith

module _ (store : List ℕ) (n : ℕ) (p : Place) {lent after : List ℕ} {r : Moved} (d : PlacePut store n p lent r after) where
  pub put_called : {word : ℕ} → word ≡ moved_word r → PutCalled store n p lent word after
  put_called e = record { answers = e ∙ ap moved_word d.answers; holds = d.holds }

  pub put_few : r.records ≤ most_records
  put_few = go (putting_fault store n p (length lent)).answer refl
    where
      go : (k : ℕ) → (putting_fault store n p (length lent)).answer ≡ k → r.records ≤ most_records
      go zero q =
          let f = (puttable store n p (length lent) refl q).fits in
          let e : r.records ≡ places_in store = ap (λ (x : Moved). x.records) d.answers ∙ rw q in
          omega arith
      go (suc k) q = let e : r.records ≡ 0 = ap (λ (x : Moved). x.records) d.answers ∙ rw q in omega arith

  pub put_few_told : r.faulty ≤ most_records
  put_few_told = go (putting_fault store n p (length lent)).answer refl
    where
      go : (k : ℕ) → (putting_fault store n p (length lent)).answer ≡ k → r.faulty ≤ most_records
      go zero q = let e : r.faulty ≡ 0 = ap (λ (x : Moved). x.faulty) d.answers ∙ rw q in omega arith
      go (suc k) q =
          let s = put_small store n p (length lent) in
          let e : r.faulty ≡ (putting_fault store n p (length lent)).faulty = ap (λ (x : Moved). x.faulty) d.answers ∙ rw q in
          omega arith

pub one_put : {store : List ℕ} {n : ℕ} {p : Place} {lent : List ℕ} {r s : ℕ} {a b : List ℕ} → PutCalled store n p lent r a → PutCalled store n p lent s b
    → (r ≡ s) × (a ≡ b)
one_put d e = (d.answers ∙ sym e.answers, d.holds ∙ sym e.holds)

-- ---- the probe

pub pixel_called : {store : List ℕ} {edge face x y : ℕ} {p : ProbePixel} {word : ℕ} → Asked store edge face x y p → word ≡ pixel_word p
    → PixelCalled store edge face x y word p.faulty
pixel_called d e = record { answers = e ∙ ap pixel_word d.answers; faulty_told = ap (λ (p : ProbePixel). p.faulty) d.answers }

pub one_pixel : {store : List ℕ} {edge face x y r s m n : ℕ} → PixelCalled store edge face x y r m → PixelCalled store edge face x y s n → (r ≡ s) × (m ≡ n)
one_pixel d e = (d.answers ∙ sym e.answers, d.faulty_told ∙ sym e.faulty_told)

module _ (store : List ℕ) (edge : ℕ) {fault : Fault} (e : fault ≡ probe_fault store edge) where
  pub fault_few : fault.faulty ≤ most_records
  fault_few = let s : fault.faulty ≡ (probe_fault store edge).faulty = ap (λ (x : Fault). x.faulty) e in let l = faulty_small store edge in omega arith

  pub fault_called : {word : ℕ} → word ≡ fault_word fault → word ≡ fault_word (probe_fault store edge)
  fault_called w = w ∙ ap fault_word e

pub face_called : {store : List ℕ} {edge face : ℕ} {lent after : List ℕ} {fault : Fault} → FacePainted store edge face lent fault after
    → FaceCalled store edge face lent fault.answer after
face_called d = record { answers = ap (λ (x : Fault). x.answer) d.answers; holds = d.holds }

pub one_face : {store : List ℕ} {edge face : ℕ} {lent : List ℕ} {r s : ℕ} {a b : List ℕ} → FaceCalled store edge face lent r a
    → FaceCalled store edge face lent s b → (r ≡ s) × (a ≡ b)
one_face d e = (d.answers ∙ sym e.answers, d.holds ∙ sym e.holds)

-- ---- the probe that is opened once

open_small : (store : List ℕ) (edge room : ℕ) → (open_fault store edge room).faulty ≤ most_records
unfolding open_fault
open_small store edge room = cases (eqb (probe_fault store edge).answer done) (λ t. rw t (omega arith)) (λ t. rw t (faulty_small store edge))

module _ {store : List ℕ} {edge : ℕ} {lent after : List ℕ} {fault : Fault} (d : Opened store edge lent fault after) where
  pub open_few : fault.faulty ≤ most_records
  open_few = let e : fault.faulty ≡ (open_fault store edge (length lent)).faulty = ap (λ (x : Fault). x.faulty) d.answers in let l = open_small store edge (length lent) in omega arith

  pub open_called : {word : ℕ} → word ≡ fault_word fault → OpenCalled store edge lent word after
  open_called e = record {
    answers = e ∙ ap fault_word d.answers;
    leaves = subst (λ (x : Fault). Opened store edge lent x after) d.answers d;
  }

pub one_open : {store : List ℕ} {edge : ℕ} {lent : List ℕ} {r s : ℕ} {a b : List ℕ} → OpenCalled store edge lent r a → OpenCalled store edge lent s b
    → (r ≡ s) × (a ≡ b)
one_open d e = (d.answers ∙ sym e.answers, (one_outcome d.leaves e.leaves).1)

pub table_called : {store table : List ℕ} {edge face x y : ℕ} {p : ProbePixel} {word : ℕ} → TablePixel store table edge face x y p → word ≡ pixel_word p
    → word ≡ pixel_word (table_answer store table edge face x y)
table_called d e = e ∙ ap pixel_word d.answers
