-- The bytes of a moved store, and each call's statement at its returns. Assumes nothing.
use mathlib.Core.Path.{◌≡◌, sym, ◌∙◌}
use mathlib.Core.List.{List, ◌++◌}
use Prim.Native.Nat.{ℕ, suc, ◌+◌, ◌-◌, ◌*◌, ◌≤◌, ◌<◌}
use native.Mathlib.Omega.{arith}
use lib.ListN.{length, drop}
use borrow.Author.Tests.{lt-ltb, le-ltb, ne_eqb}
use Rattle.laws.proofs.Rows.{length_made}
use Rattle.bcn_spec.specs.Answers.{done}
use Rattle.store_records.specs.Store.{record_size, store_limit, records_in, byte_of}
use Rattle.probe_places.specs.Places.{place_size, place_head, place_limit, no_face, places_in, byte_at}
use Rattle.probe_places.specs.declared.Fault.{Fault}
use Rattle.probe_places.proofs.Faults.{whole_done}
use Rattle.probe_moves.specs.declared.Moved.{Moved}
use Rattle.probe_moves.specs.Moves.{placed_byte, placed_at, placed_store, old_byte, old_at, old_store, placing_fault, unplacing_fault, moved_at, MovedTo}
use Rattle.probe_moves.proofs.Checks.{sized}

-- ---- one byte

module _ (old : List ℕ) (n k : ℕ) where
  pub byte_kept : k < 5 → byte_of old n k ≡ placed_byte old n k
  unfolding placed_byte
  byte_kept h = rw (lt-ltb _ _ h)

  pub byte_face : k ≡ 5 → no_face ≡ placed_byte old n k
  unfolding placed_byte
  byte_face e = rw e

  pub byte_zero : 5 ≤ k → (k ≡ 5 → ⊥) → k < place_head → 0 ≡ placed_byte old n k
  unfolding placed_byte
  byte_zero l e h = rw (le-ltb k 5 l, ne_eqb k 5 e, lt-ltb k place_head h)

  pub byte_block : place_head ≤ k → byte_of old n (k - 8) ≡ placed_byte old n k
  unfolding placed_byte
  byte_block h = rw (le-ltb k 5 (omega arith), ne_eqb k 5 (λ e. omega arith), le-ltb k place_head h)

module _ (new : List ℕ) (n k : ℕ) where
  pub back_kept : k < 5 → byte_at new n k ≡ old_byte new n k
  unfolding old_byte
  back_kept h = rw (lt-ltb _ _ h)

  pub back_zero : 5 ≤ k → k < 8 → 0 ≡ old_byte new n k
  unfolding old_byte
  back_zero l h = rw (le-ltb k 5 l, lt-ltb k 8 h)

  pub back_block : 8 ≤ k → byte_at new n (k + 8) ≡ old_byte new n k
  unfolding old_byte
  back_block h = rw (le-ltb k 5 (omega arith), le-ltb k 8 h)

-- ---- all bytes

pub placed_length : (old : List ℕ) → length (placed_store old) ≡ records_in old * place_size
unfolding placed_store
placed_length old = length_made (placed_at old) (records_in old * place_size)

pub old_length : (new : List ℕ) → length (old_store new) ≡ places_in new * record_size
unfolding old_store
old_length new = length_made (old_at new) (places_in new * record_size)

-- ---- the room, where nothing is refused

pub place_room : (old : List ℕ) (room : ℕ) {fault : Fault} → fault ≡ placing_fault old room → fault.answer ≡ done → records_in old * place_size ≤ room
unfolding placing_fault
place_room old room e z = (sized store_limit record_size place_size (length old) room (whole_done _ _ (rw e at z)).0).enough_room

pub unplace_room : (new : List ℕ) (room : ℕ) {fault : Fault} → fault ≡ unplacing_fault new room → fault.answer ≡ done → places_in new * record_size ≤ room
unfolding unplacing_fault
unplace_room new room e z = (sized place_limit place_size record_size (length new) room (whole_done _ _ (rw e at z)).0).enough_room

-- ---- the statement, at each return

module _ (count : ℕ) (moved lent : List ℕ) {fault a : Fault} (e : a ≡ fault) where
  pub moved_refused : {r : Moved} → (a.answer ≡ done → ⊥) → r ≡ record { answer = a.answer; records = 0; faulty = a.faulty }
      → MovedTo fault count moved lent r lent
  moved_refused {r} z q =
      let s : a.answer ≡ suc (a.answer - 1) = omega (arith, z) in
      rw (sym e) (record { answers = q ∙ rw s; holds = rw s })

  pub moved_done : (size : ℕ) {r : Moved} {after : List ℕ} → a.answer ≡ done → r ≡ moved_at 0 0 count → length moved ≡ size
      → after ≡ moved ++ drop size lent → MovedTo fault count moved lent r after
  moved_done size z q l h = rw (sym e) (record { answers = q ∙ rw z; holds = rw (z, l) h })
