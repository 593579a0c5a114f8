-- What the two moves say: one outcome each, nothing on a refusal, and that they undo each other. Assumes nothing.
use mathlib.Core.Path.{◌≡◌, refl, sym, ◌∙◌, ap, ap₂}
use mathlib.Core.List.{List, ◌++◌}
use Prim.Native.Nat.{ℕ, zero, suc, ◌-◌, ◌*◌, ◌%◌, ◌≤◌, ◌<◌}
use native.Mathlib.Omega.{arith}
use lib.Dec.{eqb, ltb}
use lib.ListN.{length, take, drop}
use lib.Seq.{take_at, drop_at}
use borrow.Author.Tests.{eqb-true, eqb-false, ltb-true, ltb-false}
use Rattle.laws.proofs.Tests.{cases}
use Rattle.bcn_spec.specs.Answers.{done, placed_record}
use Rattle.store_records.specs.Store.{record_size, store_limit, records_in, tile_of, format_of, block_of, record_refusal, Unrefused}
use Rattle.store_records.proofs.Refusals.{known}
use Rattle.probe_places.specs.declared.Fault.{Fault}
use Rattle.probe_places.specs.Faults.{first_fault, whole_first}
use Rattle.probe_places.specs.Places.{place_size, place_limit, places_in, tile_in, format_in, place_in, block_in, IsPlaced, IsUnplaced, placed, place_record_refusal}
use Rattle.probe_places.specs.Readings.{Readable}
use Rattle.probe_places.proofs.Checks.{fine_so}
use Rattle.probe_places.proofs.Readings.{of_record}
use Rattle.probe_places.proofs.Faults.{Told, fault_told, none_faulty, all_pass, whole_done, whole_passes}
use Rattle.probe_moves.specs.declared.Moved.{Moved}
use Rattle.probe_moves.specs.Moves.{placed_store, old_store, place_sizes, unplace_sizes, back_refusal, placing_fault, unplacing_fault, placing_refusal, unplacing_refusal, moved_at, MovedTo, PlacedStore, UnplacedStore}
use Rattle.probe_moves.proofs.Checks.{sized, enough}
use Rattle.probe_moves.proofs.Moving.{placed_length, old_length}
use Rattle.probe_moves.proofs.Undone.{Movable, movable, there_and_back, back_and_there, placed_count, old_count, moved_fine, moved_passes, back_passes, moved_tile, moved_format, moved_block, moved_off}

-- ---- of both moves

answer_is : (k faulty count : ℕ) → (moved_at k faulty count).answer ≡ k
answer_is zero faulty count = refl
answer_is (suc k) faulty count = refl

module _ {fault : Fault} {count : ℕ} {moved lent after : List ℕ} {r : Moved} (d : MovedTo fault count moved lent r after) where
  pub one_outcome : {s : Moved} {other : List ℕ} → MovedTo fault count moved lent s other → (r ≡ s) × (after ≡ other)
  one_outcome e = (d.answers ∙ sym e.answers, d.holds ∙ sym e.holds)

  pub answer_number : r.answer ≡ fault.answer
  answer_number = ap (λ (x : Moved). x.answer) d.answers ∙ answer_is fault.answer fault.faulty count

  -- S-55: every record moves, and the rest of the lent bytes is as it was
  module _ (z : r.answer ≡ done) where
    unrefused : fault.answer ≡ done
    unrefused = sym answer_number ∙ z

    pub all_moved : r ≡ record { answer = done; records = count; faulty = 0 }
    all_moved = rw unrefused at d.answers

    pub whole_moved : after ≡ moved ++ drop (length moved) lent
    whole_moved = rw unrefused at d.holds

    pub moved_front : (size : ℕ) → length moved ≡ size → take size after ≡ moved
    moved_front size e = ap (take size) whole_moved ∙ take_at moved (drop (length moved) lent) size e

    pub rest_stays : drop (length moved) after ≡ drop (length moved) lent
    rest_stays = ap (drop (length moved)) whole_moved ∙ drop_at moved (drop (length moved) lent) (length moved) refl

  -- .. or nothing
  module _ (n : r.answer ≡ done → ⊥) where
    refused : fault.answer ≡ suc (r.answer - 1)
    refused = omega (arith, answer_number)

    pub silent : after ≡ lent
    silent = rw refused at d.holds

    pub none_moved : r ≡ record { answer = fault.answer; records = 0; faulty = fault.faulty }
    none_moved = d.answers ∙ rw refused

-- ---- which number

-- a check of the whole store comes first; else the lowest refused record decides
module _ (whole : ℕ) (refusal : ℕ → ℕ) (number : ℕ) {moved lent after : List ℕ} {r : Moved}
    (d : MovedTo (whole_first whole (first_fault refusal number)) number moved lent r after) where
  told_whole : (k : ℕ) → whole ≡ suc k → r ≡ record { answer = suc k; records = 0; faulty = 0 }
  told_whole k e = d.answers ∙ rw e

  told_first : whole ≡ done → (r.answer ≡ done → ⊥) → Told refusal number r.answer r.faulty
  told_first e n =
      let q : (first_fault refusal number).answer ≡ suc (r.answer - 1) = rw e at (refused d n) in
      let is : r.answer ≡ suc (r.answer - 1) = omega arith in
      let tells : r.faulty ≡ (first_fault refusal number).faulty = ap (λ (x : Moved). x.faulty) (none_moved d n) ∙ rw e in
      rw (is, tells) (fault_told refusal number q)

  -- no count is above 2,000, and the record that is told is one of the store's
  few : (whole ≡ done → number ≤ 2000) → (r.records ≤ 2000) × (r.faulty ≤ 2000)
  few most = go whole refl
    where
      go : (k : ℕ) → whole ≡ k → (r.records ≤ 2000) × (r.faulty ≤ 2000)
      go zero q =
          let l = most q in
          cases (eqb r.answer done) (λ t. rw (all_moved d (eqb-true _ _ t)) (l, omega arith))
          (λ f. let n = eqb-false _ _ f in (omega (arith, ap (λ (x : Moved). x.records) (none_moved d n)), omega (arith, (told_first q n).inside)))
      go (suc k) q = rw (told_whole k q) (omega arith, omega arith)

module _ (old : List ℕ) {lent after : List ℕ} {r : Moved} (d : PlacedStore old lent r after) where
  pub place_whole : (k : ℕ) → place_sizes (length old) (length lent) ≡ suc k → r ≡ record { answer = suc k; records = 0; faulty = 0 }
  unfolding placing_fault
  place_whole = told_whole (place_sizes (length old) (length lent)) (record_refusal old) (records_in old) d

  pub place_told : place_sizes (length old) (length lent) ≡ done → (r.answer ≡ done → ⊥)
      → Told (record_refusal old) (records_in old) r.answer r.faulty
  unfolding placing_fault
  place_told = told_first (place_sizes (length old) (length lent)) (record_refusal old) (records_in old) d

  pub place_few : r.records ≤ 2000
  unfolding placing_fault
  place_few = (few (place_sizes (length old) (length lent)) (record_refusal old) (records_in old) d (λ z. omega (arith, (sized _ _ _ _ _ z).fits))).0

  pub place_few_told : r.faulty ≤ 2000
  unfolding placing_fault
  place_few_told = (few (place_sizes (length old) (length lent)) (record_refusal old) (records_in old) d (λ z. omega (arith, (sized _ _ _ _ _ z).fits))).1

module _ (new : List ℕ) {lent after : List ℕ} {r : Moved} (d : UnplacedStore new lent r after) where
  pub unplace_whole : (k : ℕ) → unplace_sizes (length new) (length lent) ≡ suc k → r ≡ record { answer = suc k; records = 0; faulty = 0 }
  unfolding unplacing_fault
  unplace_whole = told_whole (unplace_sizes (length new) (length lent)) (back_refusal new) (places_in new) d

  pub unplace_told : unplace_sizes (length new) (length lent) ≡ done → (r.answer ≡ done → ⊥)
      → Told (back_refusal new) (places_in new) r.answer r.faulty
  unfolding unplacing_fault
  unplace_told = told_first (unplace_sizes (length new) (length lent)) (back_refusal new) (places_in new) d

  pub unplace_few : r.records ≤ 2000
  unfolding unplacing_fault
  unplace_few = (few (unplace_sizes (length new) (length lent)) (back_refusal new) (places_in new) d (λ z. omega (arith, (sized _ _ _ _ _ z).fits))).0

  pub unplace_few_told : r.faulty ≤ 2000
  unfolding unplacing_fault
  unplace_few_told = (few (unplace_sizes (length new) (length lent)) (back_refusal new) (places_in new) d (λ z. omega (arith, (sized _ _ _ _ _ z).fits))).1

-- ---- which stores are moved

-- an old store that moves: it fits, and no record is refused
pub record Placeable (old : List ℕ) (room : ℕ) : Type 0 where
  pub fits : length old ≤ store_limit
  pub even : length old % record_size ≡ 0
  pub enough_room : records_in old * place_size ≤ room
  pub unrefused : (n : ℕ) → n < records_in old → Unrefused old n

pub record Unplaceable (new : List ℕ) (room : ℕ) : Type 0 where
  pub fits : length new ≤ place_limit
  pub even : length new % place_size ≡ 0
  pub enough_room : places_in new * record_size ≤ room
  pub movable_all : (n : ℕ) → n < places_in new → back_refusal new n ≡ done

pub placeable : (old : List ℕ) (room : ℕ) → placing_refusal old room ≡ done → Placeable old room
unfolding placing_fault
placeable old room z =
    let w = whole_done (place_sizes (length old) room) _ z in
    let s = sized store_limit record_size place_size (length old) room w.0 in
    record { fits = s.fits; even = s.even; enough_room = s.enough_room; unrefused = none_faulty (record_refusal old) (records_in old) w.1 }

pub placeable_so : (old : List ℕ) (room : ℕ) → Placeable old room → placing_refusal old room ≡ done
unfolding placing_fault
placeable_so old room p =
    ap (λ (x : Fault). x.answer)
    (sym
    (whole_passes (enough store_limit record_size place_size (length old) room p.fits p.even p.enough_room)
    (sym (all_pass (record_refusal old) (records_in old) p.unrefused))))

pub unplaceable : (new : List ℕ) (room : ℕ) → unplacing_refusal new room ≡ done → Unplaceable new room
unfolding unplacing_fault
unplaceable new room z =
    let w = whole_done (unplace_sizes (length new) room) _ z in
    let s = sized place_limit place_size record_size (length new) room w.0 in
    record { fits = s.fits; even = s.even; enough_room = s.enough_room; movable_all = none_faulty (back_refusal new) (places_in new) w.1 }

pub unplaceable_so : (new : List ℕ) (room : ℕ) → Unplaceable new room → unplacing_refusal new room ≡ done
unfolding unplacing_fault
unplaceable_so new room p =
    ap (λ (x : Fault). x.answer)
    (sym
    (whole_passes (enough place_limit place_size record_size (length new) room p.fits p.even p.enough_room)
    (sym (all_pass (back_refusal new) (places_in new) p.movable_all))))

-- a move that is done, of such a store
pub place_done : {old lent after : List ℕ} {r : Moved} → PlacedStore old lent r after → r.answer ≡ done → Placeable old (length lent)
place_done {old} {lent} d z = placeable old (length lent) (sym (answer_number d) ∙ z)

pub unplace_done : {new lent after : List ℕ} {r : Moved} → UnplacedStore new lent r after → r.answer ≡ done → Unplaceable new (length lent)
unplace_done {new} {lent} d z = unplaceable new (length lent) (sym (answer_number d) ∙ z)

-- the store that a move leaves in the lent bytes
place_front : (old : List ℕ) {lent after : List ℕ} {r : Moved} → PlacedStore old lent r after → r.answer ≡ done
    → take (records_in old * place_size) after ≡ placed_store old
place_front old d z = moved_front d z (records_in old * 32) (placed_length old)

unplace_front : (new : List ℕ) {lent after : List ℕ} {r : Moved} → UnplacedStore new lent r after → r.answer ≡ done
    → take (places_in new * record_size) after ≡ old_store new
unplace_front new d z = moved_front d z (places_in new * 24) (old_length new)

all_movable : {new : List ℕ} {room : ℕ} → Unplaceable new room → (n : ℕ) → n < places_in new → Movable new n
all_movable {new} p n h = movable new n (p.movable_all n h)

-- ---- S-55: back to the same bytes

-- whatever the move and then the move back may answer by their statements: what was moved comes back, byte for byte
pub old_again : (old : List ℕ) {lent after room back : List ℕ} {r q : Moved} → PlacedStore old lent r after → r.answer ≡ done
    → length old ≤ length room → UnplacedStore (take (records_in old * place_size) after) room q back
    → (q.answer ≡ done) × (take (length old) back ≡ old)
old_again old {lent} {after} {room} {back} {r} {q} d z l b =
    let p = place_done d z in
    let e : UnplacedStore (placed_store old) room q back = rw (place_front old d z) at b in
    let size : length (placed_store old) ≡ records_in old * 32 = placed_length old in
    let count : places_in (placed_store old) ≡ records_in old = placed_count old in
    let f = p.fits in let v = p.even in
    let fine : unplacing_refusal (placed_store old) (length room) ≡ done =
    unplaceable_so (placed_store old) (length room) (record {
      fits = omega arith;
      even = omega arith;
      enough_room = omega arith;
      movable_all = λ n h. moved_passes old n (p.unrefused n (omega arith));
    }) in
    let y : q.answer ≡ done = answer_number e ∙ fine in
    let same : old_store (placed_store old) ≡ old = there_and_back old p.unrefused p.even in
    (y, moved_front e y (length old) (ap length same) ∙ same)

-- and the other way round
pub new_again : (new : List ℕ) {lent after room back : List ℕ} {r q : Moved} → UnplacedStore new lent r after → r.answer ≡ done
    → length new ≤ length room → PlacedStore (take (places_in new * record_size) after) room q back
    → (q.answer ≡ done) × (take (length new) back ≡ new)
new_again new {lent} {after} {room} {back} {r} {q} d z l b =
    let p = unplace_done d z in
    let e : PlacedStore (old_store new) room q back = rw (unplace_front new d z) at b in
    let size : length (old_store new) ≡ places_in new * 24 = old_length new in
    let count : records_in (old_store new) ≡ places_in new = old_count new in
    let f = p.fits in let v = p.even in
    let fine : placing_refusal (old_store new) (length room) ≡ done =
    placeable_so (old_store new) (length room) (record {
      fits = omega arith;
      even = omega arith;
      enough_room = omega arith;
      unrefused = λ n h. let g : n < places_in new = omega arith in back_passes new n p.fits g (all_movable p n g);
    }) in
    let y : q.answer ≡ done = answer_number e ∙ fine in
    let same : placed_store (old_store new) ≡ new = back_and_there new (all_movable p) p.even in
    (y, moved_front e y (length new) (ap length same) ∙ same)

-- ---- the records before and after

-- record n of an old store and of a new one: neither record call refuses it, tile, format and block are the same, and it is not placed
pub record SameRecord (old new : List ℕ) (n : ℕ) : Type 0 where
  pub unrefused : Unrefused old n
  pub readable : Readable new n
  pub tile : tile_in new n ≡ tile_of old n
  pub format : format_in new n ≡ format_of old n
  pub block : block_in new n ≡ block_of old n
  pub off : IsUnplaced new n

same_there : (old : List ℕ) (n : ℕ) → Unrefused old n → SameRecord old (placed_store old) n
same_there old n u =
    let k = known old n u in
    let size : length (placed_store old) ≡ records_in old * 32 = placed_length old in
    record {
      unrefused = u;
      readable = sym (of_record (placed_store old) n (omega arith) (omega arith) (omega arith) (sym (fine_so (placed_store old) n (moved_fine old n u))));
      tile = moved_tile old n u;
      format = moved_format old n u;
      block = moved_block old n u;
      off = moved_off old n u;
    }

pub place_same : (old : List ℕ) {lent after : List ℕ} {r : Moved} → PlacedStore old lent r after → r.answer ≡ done
    → (n : ℕ) → n < records_in old → SameRecord old (take (records_in old * place_size) after) n
place_same old d z n h = rw (place_front old d z) (same_there old n ((place_done d z).unrefused n h))

pub unplace_same : (new : List ℕ) {lent after : List ℕ} {r : Moved} → UnplacedStore new lent r after → r.answer ≡ done
    → (n : ℕ) → n < places_in new → SameRecord (take (places_in new * record_size) after) new n
unplace_same new d z n h =
    let p = unplace_done d z in
    let same : placed_store (old_store new) ≡ new = back_and_there new (all_movable p) p.even in
    rw (unplace_front new d z) (rw same at (same_there (old_store new) n (back_passes new n p.fits h (all_movable p n h))))

-- ---- S-55: a placed record does not move back

pub placed_refused : (new : List ℕ) (n : ℕ) → IsPlaced new n → back_refusal new n ≡ done → ⊥
placed_refused new n h z = let f = (movable new n z).off.no_face in omega arith

-- one placed record holds the whole store back: nothing is written
pub held_back : (new : List ℕ) {lent after : List ℕ} {r : Moved} → UnplacedStore new lent r after → (n : ℕ) → n < places_in new → IsPlaced new n
    → (r.answer ≡ done → ⊥) × (after ≡ lent)
held_back new {r = r} d n h p =
    let no : r.answer ≡ done → ⊥ = λ z. placed_refused new n p ((unplace_done d z).movable_all n h) in
    (no, silent d no)

-- a record that nothing else is wrong with moves back, or is told with 18
back_18 : (new : List ℕ) (n : ℕ) → place_record_refusal new n ≡ done → (back_refusal new n ≡ done → ⊥) → back_refusal new n ≡ placed_record
unfolding back_refusal
back_18 new n z r = cases (placed (place_in new n)) (λ t. rw (z, t)) (λ f. absurd (r (rw (z, f))))

-- the answer is 18 where no other fault comes first: the store's size and the room are right, and the record call refuses no record up to
-- the placed one
pub held_18 : (new : List ℕ) {lent after : List ℕ} {r : Moved} → UnplacedStore new lent r after
    → length new ≤ place_limit → length new % place_size ≡ 0 → places_in new * record_size ≤ length lent
    → (n : ℕ) → n < places_in new → IsPlaced new n → ((k : ℕ) → k ≤ n → place_record_refusal new k ≡ done)
    → (r ≡ record { answer = placed_record; records = 0; faulty = r.faulty }) × (r.faulty ≤ n) × (after ≡ lent)
held_18 new {lent} {after} {r} d fits even room n h p fine =
    let held = held_back new d n h p in
    let t = unplace_told new d (enough place_limit place_size record_size (length new) (length lent) fits even room) held.0 in
    let m : ℕ = r.faulty in
    let low : m ≤ n = cases (ltb n m) (λ l. absurd (placed_refused new n p (t.first n (ltb-true _ _ l)))) (λ f. ltb-false _ _ f) in
    let is : r.answer ≡ placed_record = sym t.refused ∙ back_18 new m (fine m low) (λ z. held.0 (sym t.refused ∙ z)) in
    let none = none_moved d held.0 in
    let tells : r.faulty ≡ (unplacing_fault new (length lent)).faulty = ap (λ (x : Moved). x.faulty) none in
    (none ∙ ap₂ (λ (x y : ℕ). record { answer = x; records = 0; faulty = y }) (sym (answer_number d) ∙ is) (sym tells), low, held.1)
