-- The program undoes a clean-up: the input is cut where it was put together, and the call's theorem does the rest. Assumes nothing.
use mathlib.Core.Path.{◌≡◌, refl, sym, ap, ◌∙◌}
use mathlib.Core.List.{List, ◌∷◌}
use Prim.Native.Nat.{ℕ, ◌+◌, ◌≤◌}
use native.Mathlib.Omega.{arith}
use lib.ListN.{length, take, drop, length-append}
use lib.Seq.{take_at, drop_at, drop-drop}
use Rattle.bcn_spec.specs.Answers.{done}
use Rattle.raw_bytes.proofs.Bytes.{four_back}
use Rattle.store_records.specs.Store.{store_limit}
use Rattle.store_clean.specs.Clean.{cleaned_of}
use Rattle.store_clean.proofs.Moving.{Sized, cleaned_sized}
use Rattle.store_receipt.specs.Receipt.{receipt_of}
use Rattle.store_restore.proofs.Undoing.{restored_same}
use Rattle.store_restore.proofs.Theorems.{done_again}
use Rattle.text_restore.specs.Restoring.{length_size, cleaned_length, cleaned_part, receipt_part, input_refusal, restored_output, restoring_output, input_of, ProgramUndoes}
use Rattle.text_restore.proofs.Answering.{whole_input}

module _ (cleaned receipt : List ℕ) (few : length cleaned ≤ store_limit) where
  length_told : cleaned_length (input_of cleaned receipt) ≡ length cleaned
  unfolding cleaned_length
  length_told = four_back (input_of cleaned receipt) 0 (length cleaned) (omega arith) refl refl refl (omega arith)

  cleaned_back : cleaned_part (input_of cleaned receipt) ≡ cleaned
  unfolding cleaned_part
  cleaned_back =
      ap (λ (k : ℕ). take k (drop length_size (input_of cleaned receipt))) length_told ∙ take_at cleaned receipt (length cleaned) refl

  receipt_back : receipt_part (input_of cleaned receipt) ≡ receipt
  unfolding receipt_part
  receipt_back =
      ap (λ (k : ℕ). drop (length_size + k) (input_of cleaned receipt)) length_told
      ∙ sym (drop-drop (length cleaned) length_size (input_of cleaned receipt))
      ∙ drop_at cleaned receipt (length cleaned) refl

  whole : input_refusal (input_of cleaned receipt) ≡ done
  whole =
      let l : length (input_of cleaned receipt) ≡ length_size + (length cleaned + length receipt) = omega (arith, length-append cleaned receipt) in
      sym (whole_input (input_of cleaned receipt) (length cleaned) (sym length_told) (omega arith) few (omega arith))

pub program_undoes : ProgramUndoes
unfolding restoring_output restored_output
program_undoes store fits even =
    let sized : Sized store = record { fits = fits; even = even } in
    let c = cleaned_of store in
    let r = receipt_of store in
    let few = (cleaned_sized store sized).fits in
    rw (whole c r few, cleaned_back c r few, receipt_back c r few, done_again store sized store_limit fits)
    (ap (λ (l : List ℕ). done ∷ l) (restored_same store sized))
