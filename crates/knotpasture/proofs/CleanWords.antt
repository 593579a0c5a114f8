-- The words that the exports of a clean-up and of the way back answer, from what the calls ensure. Assumes nothing.
use mathlib.Core.Path.{◌≡◌, refl, sym, ap, ◌∙◌}
use mathlib.Core.List.{List}
use Prim.Native.Nat.{ℕ, zero, suc, ◌+◌, ◌≤◌}
use native.Mathlib.Omega.{arith}
use lib.Dec.{eqb}
use lib.ListN.{length}
use borrow.Author.Tests.{eqb-true, eqb-false}
use Rattle.laws.proofs.Tests.{cases}
use Rattle.bcn_spec.specs.Answers.{done}
use Rattle.store_records.specs.Store.{most_records}
use Rattle.store_clean.specs.declared.Cleaned.{Cleaned}
use Rattle.store_clean.specs.Clean.{refusal, CleanedInto}
use Rattle.store_clean.proofs.Cleaning as cleaning
use Rattle.store_receipt.specs.Receipt.{receipt_refusal, ReceiptInto}
use Rattle.store_receipt.proofs.Telling as telling
use Rattle.store_restore.specs.declared.Restored.{Restored}
use Rattle.store_restore.specs.Restore.{restore_refusal, RestoredInto}
use Rattle.store_restore.proofs.Fitting.{restorable}
use Rattle.store_restore.proofs.Restoring as restoring
use Rattle.knotpasture.specs.Clean.{clean_word, CleanCalled, ReceiptCalled, restored_word, RestoreCalled}

-- ---- the clean-up

module _ {store lent after : List ℕ} {r : Cleaned} (d : CleanedInto store lent r after) where
  pub clean_called : {word : ℕ} → word ≡ clean_word r → CleanCalled store lent word after
  clean_called e = record { answers = e ∙ ap clean_word d.answers; holds = d.holds }

  clean_done_few : r.answer ≡ done → r.kept + r.removed ≤ most_records
  clean_done_few z = let w = cleaning.whole d z in let c = cleaning.counts_add_up d z in omega arith

  pub clean_few : r.kept + r.removed ≤ most_records
  clean_few =
      cases (eqb r.answer done) (λ z. clean_done_few (eqb-true _ _ z))
      (λ f. rw (cleaning.refused_alone d (eqb-false _ _ f)) (omega arith))

  -- a refusal's word is its number: no count in it is other than 0
  pub clean_word_alone : {word : ℕ} → word ≡ clean_word r → (r.answer ≡ done → ⊥) → word ≡ r.answer
  clean_word_alone e n = e ∙ ap clean_word (cleaning.refused_alone d n) ∙ omega arith

pub one_clean : {store lent : List ℕ} {r s : ℕ} {a b : List ℕ} → CleanCalled store lent r a → CleanCalled store lent s b → (r ≡ s) × (a ≡ b)
one_clean d e = (d.answers ∙ sym e.answers, d.holds ∙ sym e.holds)

-- ---- the clean-up with a receipt

module _ {store lent paper after written : List ℕ} {r : Cleaned} (d : ReceiptInto store lent paper r after written) where
  pub receipt_called : {word : ℕ} → word ≡ clean_word r → ReceiptCalled store lent paper word after written
  receipt_called e = record { answers = e ∙ ap clean_word d.answers; holds = d.holds; tells = d.tells }

  pub receipt_few : r.kept + r.removed ≤ most_records
  receipt_few = go (receipt_refusal (length store) (length lent) (length paper)) refl
    where
      go : (k : ℕ) → receipt_refusal (length store) (length lent) (length paper) ≡ k → r.kept + r.removed ≤ most_records
      go zero q = let z : r.answer ≡ done = telling.answer_number d ∙ q in clean_done_few (telling.as_cleaned d z) z
      go (suc k) q = let e : r ≡ refusal (suc k) = rw q at d.answers in rw e (omega arith)

pub one_receipt : {store lent paper : List ℕ} {r s : ℕ} {a b u v : List ℕ} → ReceiptCalled store lent paper r a u → ReceiptCalled store lent paper s b v
    → (r ≡ s) × (a ≡ b) × (u ≡ v)
one_receipt d e = (d.answers ∙ sym e.answers, d.holds ∙ sym e.holds, d.tells ∙ sym e.tells)

-- ---- the way back

module _ {cleaned receipt lent after : List ℕ} {r : Restored} (d : RestoredInto cleaned receipt lent r after) where
  pub restore_called : {word : ℕ} → word ≡ restored_word r → RestoreCalled cleaned receipt lent word after
  restore_called e = record { answers = e ∙ ap restored_word d.answers; holds = d.holds }

  pub restored_few : r.records ≤ most_records
  restored_few = go (restore_refusal cleaned receipt (length lent)) refl
    where
      go : (k : ℕ) → restore_refusal cleaned receipt (length lent) ≡ k → r.records ≤ most_records
      go zero q = rw (restoring.all_restored d q) (restorable cleaned receipt (length lent) q).few
      go (suc k) q = let e : r ≡ record { answer = suc k; records = 0 } = rw q at d.answers in rw e (omega arith)

pub one_restore : {cleaned receipt lent : List ℕ} {r s : ℕ} {a b : List ℕ} → RestoreCalled cleaned receipt lent r a → RestoreCalled cleaned receipt lent s b
    → (r ≡ s) × (a ≡ b)
one_restore d e = (d.answers ∙ sym e.answers, d.holds ∙ sym e.holds)
