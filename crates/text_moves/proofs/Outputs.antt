-- The answer before the moved store, by the statement of the move; and that a longer input than any that is taken may be cut. Assumes nothing.
use mathlib.Core.Path.{◌≡◌, sym, ap, ◌∙◌}
use mathlib.Core.List.{List, [], ◌∷◌, ◌++◌, append-nil}
use Prim.Native.Nat.{ℕ, zero, suc, ◌+◌, ◌-◌, ◌*◌, ◌≤◌, ◌<◌}
use native.Mathlib.Omega.{arith}
use lib.ListN.{length, get_or, set, take, drop, drop_of_length-le, length-drop}
use lib.Seq.{sets, sets-eq, take_all, length-take-le}
use lib.Dec.{ltb}
use borrow.Author.Tests.{lt-ltb, le-ltb, ltb-true, ltb-false}
use borrow.Rule.Slice.PartMut.{mid_of, put_mid, mid_len}
use Rattle.laws.proofs.Tests.{cases}
use Rattle.bcn_spec.specs.Answers.{done, long_store}
use Rattle.store_records.specs.Store.{record_size, store_limit, records_in, record_refusal}
use Rattle.probe_places.specs.Places.{place_size, place_limit, places_in}
use Rattle.probe_places.specs.declared.Fault.{Fault}
use Rattle.probe_places.specs.declared.Place.{Place}
use Rattle.probe_places.specs.Faults.{first_fault, whole_first}
use Rattle.probe_moves.specs.declared.Moved.{Moved}
use Rattle.probe_moves.specs.Moves.{placed_store, old_store, back_refusal, placing_fault, unplacing_fault, placing_refusal, unplacing_refusal, MovedTo, PlacedStore, UnplacedStore}
use Rattle.probe_moves.proofs.Checks.{long}
use Rattle.probe_moves.proofs.Moving.{placed_length, old_length}
use Rattle.probe_moves.proofs.Calls.{answer_number, whole_moved, silent, place_done, unplace_done}
use Rattle.probe_put.specs.Put.{put_store, record_fault, putting_fault, PlacePut}
use Rattle.probe_put.proofs.Putting.{put_length, put_known}
use Rattle.raw_bytes.specs.Bytes.{low_first}
use Rattle.text.specs.Text.{Written}
use Rattle.text.proofs.Texts.{said}
use Rattle.text_moves.proofs.Heads.{Put, fitting, nothing, rest_whole}
use Rattle.text_moves.specs.Output.{moved_output, placed_output, unplaced_output, wish_head, wish_limit, wished_record, wished_place, wish_output}

-- ---- a byte, and a word that was stored in the part behind it

behind : (answer : ℕ) (rest word after : List ℕ) → after ≡ word ++ drop (length word) rest → length word ≤ length rest
    → answer ∷ (after ++ []) ≡ sets (answer ∷ rest) 1 word
behind answer rest word after e h =
    let one : 1 + length word ≡ suc (length word) = omega arith in
    ap (λ (l : List ℕ). answer ∷ l) (append-nil after ∙ e)
    ∙ sym (sets-eq word (answer ∷ rest) 1 (omega arith) ∙ ap (λ (k : ℕ). answer ∷ (word ++ drop k (answer ∷ rest))) one)

pub answer_first : (out word after : List ℕ) (answer : ℕ) → 1 + length word ≤ length out → after ≡ word ++ drop (length word) (mid_of 1 (length out - 1) out)
    → Written out 0 (answer ∷ word) (1 + length word) (set (put_mid 1 (length out - 1) out after) 0 answer)
answer_first [] word after answer h e = absurd (omega arith)
answer_first (x ∷ rest) word after answer h e =
    let whole : take (length rest) rest ≡ rest = take_all (length rest) rest (omega arith) in
    let none : drop (length rest) rest ≡ [] = drop_of_length-le rest {i = length rest} (omega arith) in
    let size : length (x ∷ rest) - 1 ≡ length rest = omega arith in
    record {
      next_is = omega arith;
      exit_is = rw (size, none) (behind answer rest word after (rw (size, whole) at e) (omega arith));
    }

-- ---- an answer and what it says of the moved bytes

module _ (out after moved : List ℕ) {answer k : ℕ} (e : answer ≡ k) where
  pub answered_refused : (answer ≡ done → ⊥) → after ≡ mid_of 1 (length out - 1) out → 1 ≤ length out
      → Written out 0 (moved_output k moved) 1 (set (put_mid 1 (length out - 1) out after) 0 answer)
  answered_refused n silent some = said (answer_first out [] after answer some silent) (go k e)
    where
      go : (k : ℕ) → answer ≡ k → answer ∷ [] ≡ moved_output k moved
      go zero e = absurd (n e)
      go (suc k) e = ap (λ (a : ℕ). a ∷ []) e

  pub answered_done : answer ≡ done → after ≡ moved ++ drop (length moved) (mid_of 1 (length out - 1) out) → {size : ℕ} → length moved ≡ size
      → 1 + size ≤ length out → Written out 0 (moved_output k moved) (1 + size) (set (put_mid 1 (length out - 1) out after) 0 answer)
  answered_done z whole {size} l room =
      let number : k ≡ done = sym e ∙ z in
      rw (sym l) (said (answer_first out moved after answer (omega arith) whole) (rw (number, z)))

-- ---- of each move

module _ {fault : Fault} {count : ℕ} {moved : List ℕ} (out after : List ℕ) {r : Moved} (d : MovedTo fault count moved (mid_of 1 (length out - 1) out) r after)
  where
    written_refused : 1 ≤ length out → (r.answer ≡ done → ⊥)
        → Written out 0 (moved_output fault.answer moved) 1 (set (put_mid 1 (length out - 1) out after) 0 r.answer)
    written_refused some n = answered_refused out after moved (answer_number d) n (silent d n) some

    written_done : r.answer ≡ done → {size : ℕ} → length moved ≡ size → 1 + size ≤ length out
        → Written out 0 (moved_output fault.answer moved) (1 + size) (set (put_mid 1 (length out - 1) out after) 0 r.answer)
    written_done z e room = answered_done out after moved (answer_number d) z (whole_moved d z) e room

-- ---- of each, where what is lent is the room that the definition has

pub part_length : (out : List ℕ) {room : ℕ} → length out ≡ 1 + room → length (mid_of 1 (length out - 1) out) ≡ room
part_length out e = mid_len 1 (length out) out (omega arith) ∙ omega arith

module _ (old out after : List ℕ) {r : Moved} (room : length out ≡ 1 + place_limit) (d : PlacedStore old (mid_of 1 (length out - 1) out) r after) where
  lent : moved_output (placing_refusal old (length (mid_of 1 (length out - 1) out))) (placed_store old) ≡ placed_output old
  unfolding placed_output
  lent = ap (λ (n : ℕ). moved_output (placing_refusal old n) (placed_store old)) (part_length out room)

  pub placed_refused : (r.answer ≡ done → ⊥) → Put out (placed_output old) 1 (set (put_mid 1 (length out - 1) out after) 0 r.answer)
  placed_refused n = fitting (omega arith) (said (written_refused out after d (omega arith) n) lent)

  pub placed_done : {count : ℕ} → count ≡ records_in old → r.answer ≡ done
      → Put out (placed_output old) (1 + count * place_size) (set (put_mid 1 (length out - 1) out after) 0 r.answer)
  placed_done q z =
      let p = (place_done d z).enough_room in
      let l : length (mid_of 1 (length out - 1) out) ≡ place_limit = part_length out room in
      rw q (fitting (omega arith) (said (written_done out after d z (placed_length old) (omega arith)) lent))

module _ (new out after : List ℕ) {r : Moved} (room : length out ≡ 1 + store_limit) (d : UnplacedStore new (mid_of 1 (length out - 1) out) r after) where
  lent_back : moved_output (unplacing_refusal new (length (mid_of 1 (length out - 1) out))) (old_store new) ≡ unplaced_output new
  unfolding unplaced_output
  lent_back = ap (λ (n : ℕ). moved_output (unplacing_refusal new n) (old_store new)) (part_length out room)

  pub unplaced_refused : (r.answer ≡ done → ⊥) → Put out (unplaced_output new) 1 (set (put_mid 1 (length out - 1) out after) 0 r.answer)
  unplaced_refused n = fitting (omega arith) (said (written_refused out after d (omega arith) n) lent_back)

  pub unplaced_done : r.answer ≡ done
      → Put out (unplaced_output new) (1 + places_in new * record_size) (set (put_mid 1 (length out - 1) out after) 0 r.answer)
  unplaced_done z =
      let p = (unplace_done d z).enough_room in
      let l : length (mid_of 1 (length out - 1) out) ≡ store_limit = part_length out room in
      fitting (omega arith) (said (written_done out after d z (old_length new) (omega arith)) lent_back)

module _ (input : List ℕ) (h : wish_head ≤ length input) where
  module _ {n column row : ℕ} (number : n ≡ low_first input 0 4) (col : column ≡ low_first input 5 2) (r2 : row ≡ low_first input 7 2) where
    abbrev store : List ℕ
    store = take (length input - wish_head) (drop wish_head input)

    abbrev place : Place
    place = record { face = get_or input 4 0; column = column; row = row }

    lent_wish : (room : ℕ) → room ≡ place_limit → moved_output (putting_fault store n place room).answer (put_store store n place) ≡ wish_output input
    unfolding wish_output wished_record wished_place
    lent_wish room e = rw (e, rest_whole wish_head input h, le-ltb _ _ h, number, col, r2)

    module _ (out after : List ℕ) {r : Moved} (room : length out ≡ 1 + place_limit) (d : PlacePut store n place (mid_of 1 (length out - 1) out) r after) where
      pub wish_refused : (r.answer ≡ done → ⊥) → Put out (wish_output input) 1 (set (put_mid 1 (length out - 1) out after) 0 r.answer)
      wish_refused not_done = fitting (omega arith) (said (written_refused out after d (omega arith) not_done) (lent_wish _ (part_length out room)))

      pub wish_done : r.answer ≡ done
          → Put out (wish_output input) (1 + length store) (set (put_mid 1 (length out - 1) out after) 0 r.answer)
      wish_done z =
          let p = (put_known store n place d z).fits in
          fitting (omega arith) (said (written_done out after d z (put_length store n place) (omega arith)) (lent_wish _ (part_length out room)))

pub no_wish : (input out : List ℕ) → length input < wish_head → Put out (wish_output input) 0 out
unfolding wish_output
no_wish input out h = nothing out (rw (lt-ltb _ _ h))

-- ---- an input that is longer than any store that is taken is refused, and what is cut off of it changes nothing

module _ (definition : List ℕ → List ℕ) (limit number : ℕ) (long_refused : (l : List ℕ) → limit < length l → definition l ≡ number ∷ []) where
  cut : (input : List ℕ) (room : ℕ) → limit < room → definition (take room input) ≡ definition input
  cut input room h =
      cases (ltb room (length input))
      (λ t. let longer = ltb-true room (length input) t in
      let size : length (take room input) ≡ room = length-take-le room input (omega arith) in
      long_refused (take room input) (omega arith) ∙ sym (long_refused input (omega arith)))
      (λ f. ap definition (take_all room input (ltb-false room (length input) f)))

alone : (moved : List ℕ) (fault : Fault) {whole : ℕ} → whole ≡ long_store → moved_output (whole_first whole fault).answer moved ≡ long_store ∷ []
alone moved fault e = rw e

long_placed : (old : List ℕ) → store_limit < length old → placed_output old ≡ long_store ∷ []
unfolding placed_output placing_fault
long_placed old h = alone (placed_store old) (first_fault (record_refusal old) (records_in old)) (long store_limit record_size place_size (length old) place_limit h)

pub placed_cut : (input : List ℕ) (room : ℕ) → store_limit < room → placed_output (take room input) ≡ placed_output input
placed_cut = cut placed_output store_limit long_store long_placed

long_unplaced : (new : List ℕ) → place_limit < length new → unplaced_output new ≡ long_store ∷ []
unfolding unplaced_output unplacing_fault
long_unplaced new h = alone (old_store new) (first_fault (back_refusal new) (places_in new)) (long place_limit place_size record_size (length new) store_limit h)

pub unplaced_cut : (input : List ℕ) (room : ℕ) → place_limit < room → unplaced_output (take room input) ≡ unplaced_output input
unplaced_cut = cut unplaced_output place_limit long_store long_unplaced

long_wish : (input : List ℕ) → wish_limit < length input → wish_output input ≡ long_store ∷ []
unfolding wish_output putting_fault
long_wish input h =
    let some : wish_head ≤ length input = omega arith in
    let store = drop wish_head input in
    let far : place_limit < length store = simp length-drop (omega arith) in
    rw (le-ltb _ _ some) (alone _ (record_fault store (wished_record input) (wished_place input)) (long place_limit place_size place_size (length store) place_limit far))

pub wish_cut : (input : List ℕ) (room : ℕ) → wish_limit < room → wish_output (take room input) ≡ wish_output input
wish_cut = cut wish_output wish_limit long_store long_wish
