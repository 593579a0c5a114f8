-- The two moves undo each other, byte for byte. Assumes nothing.
use mathlib.Core.Path.{◌≡◌, refl, sym, ◌∙◌, ap}
use mathlib.Core.Bool.{true, false}
use mathlib.Core.List.{List}
use Prim.Native.Nat.{ℕ, zero, suc, ◌+◌, ◌-◌, ◌*◌, ◌/◌, ◌%◌, ◌≤◌, ◌<◌}
use native.Mathlib.Omega.{arith}
use lib.Dec.{eqb, ltb, lit<, lit≤}
use lib.ListN.{length, get_or, drop, length-drop}
use lib.Seq.{get_or-drop}
use borrow.Author.Tests.{ltb-true, ltb-false, eqb-true, eqb-false}
use Rattle.laws.specs.Pick.{pick}
use Rattle.laws.proofs.Tests.{cases, both_true}
use Rattle.laws.proofs.Rows.{get_d_made, made-same, made_each}
use Rattle.laws.proofs.Taken.{made_taken}
use Rattle.laws.proofs.Below.{below_four}
use Rattle.bcn_spec.specs.Answers.{done, placed_record}
use Rattle.raw_bytes.proofs.Bytes.{bytes_same}
use Rattle.store_records.specs.Store.{record_size, records_in, byte_of, format_of, tile_of, block_of, Unrefused}
use Rattle.store_records.proofs.Refusals.{known, spare_is}
use Rattle.store_records.proofs.Refusals as checks
use Rattle.probe_places.specs.declared.Place.{Place}
use Rattle.probe_places.specs.Places.{place_size, place_limit, places_in, byte_at, tile_in, format_in, place_in, block_in, IsUnplaced, placed, unplaced, place_refusal, place_record_refusal}
use Rattle.probe_moves.specs.Moves.{placed_byte, placed_at, placed_store, old_byte, old_at, old_store, back_refusal}
use Rattle.probe_places.proofs.Checks.{Fine, fine, fine_so}
use Rattle.probe_moves.proofs.Moving.{byte_kept, byte_face, byte_zero, byte_block, back_kept, back_zero, back_block, placed_length, old_length}

-- ---- the bytes of a moved record

module _ (old : List ℕ) (n : ℕ) (h : n < records_in old) where
  pub placed_at_lem : (k : ℕ) → k < 32 → byte_at (placed_store old) n k ≡ placed_byte old n k
  unfolding placed_store
  placed_at_lem k l =
      let q : (n * 32 + k) / 32 ≡ n = omega arith in
      let r : (n * 32 + k) % 32 ≡ k = omega arith in
      get_d_made (placed_at old) (records_in old * 32) (n * 32 + k) 0 (omega arith) ∙ rw (q, r)

module _ (new : List ℕ) (n : ℕ) (h : n < places_in new) where
  pub old_at_lem : (k : ℕ) → k < 24 → byte_of (old_store new) n k ≡ old_byte new n k
  unfolding old_store
  old_at_lem k l =
      let q : (n * 24 + k) / 24 ≡ n = omega arith in
      let r : (n * 24 + k) % 24 ≡ k = omega arith in
      get_d_made (old_at new) (places_in new * 24) (n * 24 + k) 0 (omega arith) ∙ rw (q, r)

-- the number of records stays
pub placed_count : (old : List ℕ) → places_in (placed_store old) ≡ records_in old
placed_count old = let e : length (placed_store old) ≡ records_in old * 32 = placed_length old in omega arith

pub old_count : (new : List ℕ) → records_in (old_store new) ≡ places_in new
old_count new = let e : length (old_store new) ≡ places_in new * 24 = old_length new in omega arith

-- ---- old, new, old

module _ (old : List ℕ) (fine : (n : ℕ) → n < records_in old → Unrefused old n) where
  back_byte : (n k : ℕ) → n < records_in old → k < 24 → old_byte (placed_store old) n k ≡ byte_of old n k
  back_byte n k h l =
      cases (ltb k 5)
      (λ t. let s : k < 5 = ltb-true _ _ t in sym (back_kept (placed_store old) n k s) ∙ placed_at_lem old n h k (omega arith) ∙ sym (byte_kept old n k s))
      (λ f. let g : 5 ≤ k = ltb-false _ _ f in
      cases (ltb k 8)
      (λ t. let s : k < 8 = ltb-true _ _ t in sym (back_zero (placed_store old) n k g s) ∙ sym (spare_is old n k (fine n h) g s))
      (λ u. let s : 8 ≤ k = ltb-false _ _ u in
      let e : k + 8 - 8 ≡ k = omega arith in
      sym (back_block (placed_store old) n k s) ∙ placed_at_lem old n h (k + 8) (omega arith) ∙ sym (byte_block old n (k + 8) (omega arith)) ∙ ap (byte_of old n) e))

  pub there_and_back : length old % 24 ≡ 0 → old_store (placed_store old) ≡ old
  unfolding old_store
  there_and_back even =
      let c : places_in (placed_store old) ≡ records_in old = placed_count old in
      sym
      (made_each (old_at (placed_store old)) old (places_in (placed_store old) * 24) (omega arith) (λ j l.
      let at : j / 24 * 24 + j % 24 ≡ j = omega arith in
      ap (λ (i : ℕ). get_or old i 0) (sym at) ∙ sym (back_byte (j / 24) (j % 24) (omega arith) (omega arith))))

-- ---- new, old, new

-- a record that moves back is not placed
pub record Movable (new : List ℕ) (n : ℕ) : Type 0 where
  pub fine : Fine new n
  pub off : IsUnplaced new n

refusal_unplaced : (p : Place) → place_refusal p ≡ done → placed p ≡ false → unplaced p ≡ true
unfolding place_refusal
refusal_unplaced p z f = cases (unplaced p) (λ t. t) (λ u. absurd (omega (arith, rw (f, u) at z)))

pub movable : (new : List ℕ) (n : ℕ) → back_refusal new n ≡ done → Movable new n
unfolding back_refusal
movable new n z = go (place_record_refusal new n) refl
  where
    go : (m : ℕ) → place_record_refusal new n ≡ m → Movable new n
    go zero e =
        let f = fine new n e in
        let y : pick (placed (place_in new n)) placed_record done ≡ done = rw e at z in
        let off : placed (place_in new n) ≡ false = cases (placed (place_in new n)) (λ t. absurd (omega (arith, rw t at y))) (λ u. u) in
        let u = both_true _ _ (refusal_unplaced (place_in new n) f.place off) in
        let v = both_true _ _ u.1 in
        record { fine = f; off = record { no_face = eqb-true _ _ u.0; no_column = eqb-true _ _ v.0; no_row = eqb-true _ _ v.1 } }
    go (suc m) e = absurd (omega (arith, rw e at z))

-- its bytes before the block
pub movable_byte : (new : List ℕ) (n k : ℕ) → Movable new n → 6 ≤ k → k < 16 → byte_at new n k ≡ 0
movable_byte new n k m l h =
    let column : byte_at new n 6 + byte_at new n 7 * 0x100 ≡ 0 = m.off.no_column in
    let row : byte_at new n 8 + byte_at new n 9 * 0x100 ≡ 0 = m.off.no_row in
    let four = below_four (λ i. byte_at new n (6 + i) ≡ 0) (omega arith) (omega arith) (omega arith) (omega arith) in
    cases (ltb k 10)
    (λ t. let s : k < 10 = ltb-true _ _ t in let e : 6 + (k - 6) ≡ k = omega arith in ap (byte_at new n) (sym e) ∙ four (k - 6) (omega arith))
    (λ f. let s : 10 ≤ k = ltb-false _ _ f in let e : 10 + (k - 10) ≡ k = omega arith in
    ap (byte_at new n) (sym e) ∙ m.fine.zeros (k - 10) (omega arith))

module _ (new : List ℕ) (fine : (n : ℕ) → n < places_in new → Movable new n) where
  forth_byte : (n k : ℕ) → n < places_in new → k < 32 → placed_byte (old_store new) n k ≡ byte_at new n k
  forth_byte n k h l =
      cases (ltb k 5)
      (λ t. let s : k < 5 = ltb-true _ _ t in sym (byte_kept (old_store new) n k s) ∙ old_at_lem new n h k (omega arith) ∙ sym (back_kept new n k s))
      (λ f. let g : 5 ≤ k = ltb-false _ _ f in
      cases (eqb k 5)
      (λ t. let e : k ≡ 5 = eqb-true _ _ t in sym (byte_face (old_store new) n k e) ∙ rw e (sym (fine n h).off.no_face))
      (λ u. let o : k ≡ 5 → ⊥ = eqb-false _ _ u in
      cases (ltb k 16)
      (λ t. let s : k < 16 = ltb-true _ _ t in sym (byte_zero (old_store new) n k g o s) ∙ sym (movable_byte new n k (fine n h) (omega arith) s))
      (λ v. let s : 16 ≤ k = ltb-false _ _ v in
      let e : k - 8 + 8 ≡ k = omega arith in
      sym (byte_block (old_store new) n k s) ∙ old_at_lem new n h (k - 8) (omega arith) ∙ sym (back_block new n (k - 8) (omega arith)) ∙ ap (byte_at new n) e)))

  pub back_and_there : length new % 32 ≡ 0 → placed_store (old_store new) ≡ new
  unfolding placed_store
  back_and_there even =
      let c : records_in (old_store new) ≡ places_in new = old_count new in
      sym
      (made_each (placed_at (old_store new)) new (records_in (old_store new) * 32) (omega arith) (λ j l.
      let at : j / 32 * 32 + j % 32 ≡ j = omega arith in
      ap (λ (i : ℕ). get_or new i 0) (sym at) ∙ sym (forth_byte (j / 32) (j % 32) (omega arith) (omega arith))))

-- ---- a moved record is not refused on the way back

module _ (old : List ℕ) (n : ℕ) (u : Unrefused old n) where
  inside : n < records_in old
  inside = (known old n u).below

  zero_at : (k : ℕ) → 6 ≤ k → k < 16 → byte_at (placed_store old) n k ≡ 0
  zero_at k l h = placed_at_lem old n inside k (omega arith) ∙ sym (byte_zero old n k (omega arith) (λ e. omega arith) h)

  pub moved_off : IsUnplaced (placed_store old) n
  moved_off = record {
    no_face = placed_at_lem old n inside 5 (lit< tt) ∙ sym (byte_face old n 5 refl);
    no_column = let a : byte_at (placed_store old) n 6 ≡ 0 = zero_at 6 (lit≤ tt) (lit< tt) in let b : byte_at (placed_store old) n 7 ≡ 0 = zero_at 7 (lit≤ tt) (lit< tt) in omega arith;
    no_row = let a : byte_at (placed_store old) n 8 ≡ 0 = zero_at 8 (lit≤ tt) (lit< tt) in let b : byte_at (placed_store old) n 9 ≡ 0 = zero_at 9 (lit≤ tt) (lit< tt) in omega arith;
  }

  pub moved_format : format_in (placed_store old) n ≡ format_of old n
  moved_format = placed_at_lem old n inside 4 (lit< tt) ∙ sym (byte_kept old n 4 (lit< tt))

  pub moved_fine : Fine (placed_store old) n
  unfolding place_refusal
  moved_fine = record {
    small = rw moved_format (known old n u).small;
    zeros = λ k h. zero_at (10 + k) (omega arith) (omega arith);
    place = let o = moved_off in rw (o.no_face, o.no_column, o.no_row);
  }

  pub moved_passes : back_refusal (placed_store old) n ≡ done
  unfolding back_refusal
  moved_passes = rw (fine_so (placed_store old) n moved_fine, moved_off.no_face)

  -- the tile and the block stay
  pub moved_tile : tile_in (placed_store old) n ≡ tile_of old n
  unfolding tile_in tile_of
  moved_tile =
      bytes_same (placed_store old) old (n * place_size) (n * record_size) 4 (λ k l. placed_at_lem old n inside k (omega arith) ∙ sym (byte_kept old n k (omega arith)))

  pub moved_block : block_in (placed_store old) n ≡ block_of old n
  unfolding block_in block_of
  moved_block =
      let c : length (placed_store old) ≡ records_in old * 32 = placed_length old in
      let b : n < records_in old = inside in
      sym (made_taken (drop (n * 32 + 16) (placed_store old)) 16 (simp length-drop (omega arith)))
      ∙ made-same _ _ 16 (λ k l.
      let e : n * 32 + 16 + k ≡ n * 32 + (16 + k) = omega arith in
      let f : n * 24 + (16 + k - 8) ≡ n * 24 + 8 + k = omega arith in
      get_or-drop (n * 32 + 16) (placed_store old) k 0 ∙ ap (λ (i : ℕ). get_or (placed_store old) i 0) e
      ∙ placed_at_lem old n inside (16 + k) (omega arith) ∙ sym (byte_block old n (16 + k) (omega arith))
      ∙ ap (λ (i : ℕ). get_or old i 0) f ∙ sym (get_or-drop (n * 24 + 8) old k 0))
      ∙ made_taken (drop (n * 24 + 8) old) 16 (simp length-drop (omega arith))

-- ---- a record moved back is not refused on the way there

module _ (new : List ℕ) (n : ℕ) (fits : length new ≤ place_limit) (h : n < places_in new) (m : Movable new n) where
  pub back_passes : Unrefused (old_store new) n
  back_passes =
      let e : length (old_store new) ≡ places_in new * 24 = old_length new in
      let c : records_in (old_store new) ≡ places_in new = old_count new in
      let f : format_of (old_store new) n ≡ format_in new n = old_at_lem new n h 4 (lit< tt) ∙ sym (back_kept new n 4 (lit< tt)) in
      let s : format_in new n ≤ 1 = m.fine.small in
      checks.good (old_store new) n (omega arith) (omega arith) (omega arith) (omega arith)
      (old_at_lem new n h 5 (lit< tt) ∙ sym (back_zero new n 5 (lit≤ tt) (lit< tt)))
      (old_at_lem new n h 6 (lit< tt) ∙ sym (back_zero new n 6 (lit≤ tt) (lit< tt)))
      (old_at_lem new n h 7 (lit< tt) ∙ sym (back_zero new n 7 (lit≤ tt) (lit< tt)))
