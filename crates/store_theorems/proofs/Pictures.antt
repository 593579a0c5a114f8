-- The theorems of specs/Pictures, from the clean-up's statement. Assumes nothing.
use mathlib.Core.Path.{◌≡◌, sym, ◌∙◌, ap, ap₂, subst}
use mathlib.Core.List.{List}
use mathlib.Core.Logic.{⊎_elim}
use Prim.Native.Nat.{ℕ}
use Rattle.bcn_spec.specs.Answers.{done}
use Rattle.bc6h_spec.specs.Fields.{mode_of}
use Rattle.bc6h_spec.specs.Picture.{is_signed}
use Rattle.bc6h_spec.specs.Block.{pixels_of}
use Rattle.store_records.specs.Store.{Unrefused}
use Rattle.store_records.proofs.Refusals.{known}
use Rattle.store_spec.specs.Shown.{picture_at}
use Rattle.store_clean.specs.declared.Cleaned.{Cleaned}
use Rattle.store_clean.specs.Clean.{cleaned_of, CleanedInto}
use Rattle.store_clean.proofs.Repeating.{refused_stays, reserved_stays}
use Rattle.store_clean.proofs.Cleaning as cleaning
use Rattle.store_clean.proofs.Moving.{Sized, format_moved, block_moved, refusal_moved, cleaned_sized}
use Rattle.store_clean.proofs.Theorems.{stays_in_order}
use Rattle.store_theorems.specs.Pictures.{ShownBy, EveryPictureShown, FaultyStay}
use Rattle.store_theorems.proofs.Carrying.{stands}

pub sized_when : {store lent after : List ℕ} {r : Cleaned} → CleanedInto store lent r after → r.answer ≡ done → Sized store
sized_when d z = let w = cleaning.whole d z in record { fits = w.fits; even = w.even }

shown : (store : List ℕ) → Sized store → (n : ℕ) → Unrefused store n → ShownBy store n (cleaned_of store)
unfolding picture_at
shown store sized n u =
    let s = stands store sized n (known store n u).below in
    let format = format_moved s.moved ∙ s.same_format in
    let block = block_moved s.moved ∙ s.same_bytes in
    record {
      place = s.place;
      unrefused = refusal_moved (cleaned_sized store sized) sized s.moved ∙ s.unrefused u;
      same_format = format;
      same_mode = ap mode_of block;
      same_values = ap₂ (λ (x : ℕ) (y : List ℕ). pixels_of (is_signed x) y) format block;
    }

pub every_picture_shown : EveryPictureShown
every_picture_shown store lent after r d z n u =
    subst (ShownBy store n) (sym (cleaning.front_is d z)) (shown store (sized_when d z) n u)

pub faulty_stay : FaultyStay
faulty_stay store lent after r d z n h faulty =
    (stays_in_order store lent after r d z).written n h
    (sym (⊎_elim (λ refused. refused_stays store n refused) (λ reserved. reserved_stays store n reserved) faulty))
