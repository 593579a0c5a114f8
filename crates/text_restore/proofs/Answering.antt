-- Which inputs are refused, the answer and the store behind it, and how much of an input has to be read. Assumes nothing.
use mathlib.Core.Path.{◌≡◌, refl, sym, ap, ◌∙◌}
use mathlib.Core.List.{List, [], ◌∷◌}
use Prim.Native.Nat.{ℕ, zero, suc, ◌+◌, ◌*◌, ◌-◌, ◌≤◌, ◌<◌}
use native.Mathlib.Omega.{arith}
use lib.ListN.{length, take, drop, length-append, length-take, length-drop}
use lib.Seq.{take_all, take_at}
use borrow.Author.Tests.{lt-ltb, le-ltb, ltb-false}
use Rattle.laws.proofs.Checks.{none_met}
use Rattle.bcn_spec.specs.Answers.{done, long_store, bad_receipt}
use Rattle.store_records.specs.Store.{record_size, store_limit}
use Rattle.store_restore.specs.declared.Restored.{Restored}
use Rattle.store_restore.specs.Restore.{total_of, restore_refusal, restored_of, RestoredInto}
use Rattle.store_restore.proofs.Fitting.{restorable}
use Rattle.store_restore.proofs.Restoring as restoring
use Rattle.text.specs.Text.{Written}
use Rattle.text.proofs.Texts.{then, said}
use Rattle.text_restore.specs.Restoring.{length_size, cleaned_length, cleaned_part, receipt_part, input_checks, input_refusal, answered_at, restored_output, restoring_output}

-- ---- the input's own refusals

module _ (input : List ℕ) where
  pub cut_length : length input < length_size → bad_receipt ≡ input_refusal input
  unfolding input_refusal
  cut_length h = rw (lt-ltb (length input) length_size h)

  module _ (size : ℕ) (e : size ≡ cleaned_length input) (l : length_size ≤ length input) where
    pub long_length : store_limit < size → long_store ≡ input_refusal input
    unfolding input_refusal
    long_length h = rw (le-ltb (length input) length_size l, ← e, lt-ltb store_limit size h)

    module _ (f : size ≤ store_limit) where
      pub cut_store : length input < length_size + size → bad_receipt ≡ input_refusal input
      unfolding input_refusal
      cut_store h = rw (le-ltb (length input) length_size l, ← e, le-ltb store_limit size f, lt-ltb (length input) (length_size + size) h)

      pub whole_input : length_size + size ≤ length input → done ≡ input_refusal input
      unfolding input_refusal
      whole_input h = rw (le-ltb (length input) length_size l, ← e, le-ltb store_limit size f, le-ltb (length input) (length_size + size) h)

  -- an input that has both parts
  pub record Whole : Type 0 where
    pub few : cleaned_length input ≤ store_limit
    pub there : length_size + cleaned_length input ≤ length input

  pub whole_when : input_refusal input ≡ done → Whole
  unfolding input_refusal
  whole_when z = let none = none_met (input_checks input) tt z in record { few = ltb-false _ _ none.1.0; there = ltb-false _ _ none.1.1.0 }

  pub whole_as_told : {number : ℕ} → number ≡ input_refusal input → number ≡ done → Whole
  whole_as_told e z = whole_when (sym e ∙ z)

  pub refused_output : (number : ℕ) → number ≡ input_refusal input → (number ≡ done → ⊥) → number ∷ [] ≡ restoring_output input
  unfolding restoring_output
  refused_output zero e n = absurd (n refl)
  refused_output (suc k) e n = rw (sym e)

  -- the two parts, as the code cuts them
  pub parts_output : {number : ℕ} (size : ℕ) → size ≡ cleaned_length input → number ≡ input_refusal input → number ≡ done
      → restored_output (take (length_size + size - length_size) (drop length_size input)) (take (length input - (length_size + size)) (drop (length_size + size) input))
      ≡ restoring_output input
  unfolding restoring_output cleaned_part receipt_part
  parts_output size e t z =
      let q : input_refusal input ≡ done = sym t ∙ z in
      let n : length_size + size - length_size ≡ size = omega arith in
      let rest = take_all (length input - (length_size + size)) (drop (length_size + size) input) (simp length-drop (omega arith)) in
      rw (n, rest, q, e)

-- ---- the answer, and the store behind it

module _ {cleaned receipt lent after : List ℕ} {r : Restored} (room : length lent ≡ store_limit) (d : RestoredInto cleaned receipt lent r after) where
  number_alone : (k : ℕ) → restore_refusal cleaned receipt (length lent) ≡ suc k → r ≡ record { answer = suc k; records = 0 }
  number_alone k q = rw q at d.answers

  pub records_fit : r.records * record_size ≤ store_limit
  records_fit = go (restore_refusal cleaned receipt (length lent)) refl
    where
      go : (k : ℕ) → restore_refusal cleaned receipt (length lent) ≡ k → r.records * record_size ≤ store_limit
      go zero q = let w = restorable cleaned receipt (length lent) q in rw (restoring.all_restored d q) (omega (arith, w.room_for))
      go (suc k) q = rw (number_alone k q) (omega arith)

  pub restored_fits : length (take (r.records * record_size) after) ≤ store_limit
  restored_fits = let n = records_fit in simp length-take (omega arith)

  output_is : length after ≡ store_limit → r.answer ∷ take (r.records * record_size) after ≡ restored_output cleaned receipt
  unfolding restored_output
  output_is same = go (restore_refusal cleaned receipt (length lent)) refl
    where
      go : (k : ℕ) → restore_refusal cleaned receipt (length lent) ≡ k
          → r.answer ∷ take (r.records * record_size) after ≡ answered_at (restore_refusal cleaned receipt store_limit) cleaned receipt
      go zero q =
          let size = total_of cleaned receipt * record_size in
          let w = restorable cleaned receipt (length lent) q in
          let sum : length after ≡ length (restored_of cleaned receipt) + (length lent - size) =
          simp (length-append, length-drop) at (ap length (restoring.store_is d q)) in
          let front : take size after ≡ restored_of cleaned receipt =
          ap (take size) (restoring.store_is d q)
          ∙ take_at (restored_of cleaned receipt) (drop size lent) size (omega (arith, w.room_for)) in
          let z : restore_refusal cleaned receipt store_limit ≡ done = rw room at q in
          rw (z, restoring.all_restored d q) (ap (λ (l : List ℕ). done ∷ l) front)
      go (suc k) q = let z : restore_refusal cleaned receipt store_limit ≡ suc k = rw room at q in rw (z, number_alone k q)

  pub output_put : length after ≡ store_limit → {l m₁ m₂ : List ℕ} {e₁ e₂ : ℕ} → Written l 0 (r.answer ∷ []) e₁ m₁
      → Written m₁ e₁ (take (r.records * record_size) after) e₂ m₂ → Written l 0 (restored_output cleaned receipt) e₂ m₂
  output_put same x y = said (then x y) (output_is same)
