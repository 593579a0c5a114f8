-- How much of an input the program has to read. Assumes nothing.
use mathlib.Core.Path.{◌≡◌, refl, sym, ap, ◌∙◌}
use mathlib.Core.List.{List, [], ◌∷◌}
use Prim.Native.Nat.{ℕ, ◌+◌, ◌-◌, ◌≤◌, ◌<◌}
use native.Mathlib.Omega.{arith}
use lib.Dec.{ltb}
use lib.ListN.{length, take, drop, length-take, length-drop}
use lib.Seq.{length-take-le, take_all}
use borrow.Author.Tests.{ltb-true, ltb-false}
use Rattle.laws.proofs.Tests.{cases}
use Rattle.bcn_spec.specs.Answers.{long_store}
use Rattle.store_records.specs.Store.{store_limit}
use Rattle.store_restore.specs.Restore.{restore_refusal}
use Rattle.store_restore.proofs.Fitting.{many}
use Rattle.text_restore.specs.Restoring.{length_size, cleaned_length, cleaned_part, receipt_part, restored_output, restoring_output, read_limit, ReadEnough}
use Rattle.text_restore.proofs.Answering.{long_length, whole_input}

module _ (input : List ℕ) (h : read_limit ≤ length input) where
  too_many : cleaned_length input ≤ store_limit → restore_refusal (cleaned_part input) (receipt_part input) store_limit ≡ long_store
  unfolding cleaned_part receipt_part
  too_many l =
      let a : length (take (cleaned_length input) (drop length_size input)) ≤ store_limit = simp length-take (omega arith) in
      let b : length (drop (length_size + cleaned_length input) input) ≡ length input - (length_size + cleaned_length input) =
      length-drop (length_size + cleaned_length input) input in
      many _ _ _ a (omega arith)

  full : restoring_output input ≡ long_store ∷ []
  unfolding restoring_output restored_output
  full =
      cases (ltb store_limit (cleaned_length input))
      (λ t. rw (sym (long_length input (cleaned_length input) refl (omega arith) (ltb-true _ _ t))))
      (λ f. let l : cleaned_length input ≤ store_limit = ltb-false _ _ f in
      rw (sym (whole_input input (cleaned_length input) refl (omega arith) l (omega arith)), too_many l))

pub read_enough : ReadEnough
read_enough input =
    cases (ltb read_limit (length input))
    (λ t. let h : read_limit < length input = ltb-true _ _ t in
    let n : length (take read_limit input) ≡ read_limit = length-take-le read_limit input (omega arith) in
    full (take read_limit input) (omega arith) ∙ sym (full input (omega arith)))
    (λ f. ap restoring_output (take_all read_limit input (ltb-false _ _ f)))
