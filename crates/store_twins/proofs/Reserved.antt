-- A reserved record stands alone: from the marks of a done list and the words of a twin. Assumes nothing.
use mathlib.Core.Path.{◌≡◌, sym, ◌∙◌, ap}
use mathlib.Core.List.{List}
use Prim.Native.Nat.{ℕ}
use Rattle.bc6h_spec.specs.Fields.{mode_of}
use Rattle.store_records.specs.Store.{block_of}
use Rattle.store_spec.specs.Shown.{Reserved}
use Rattle.store_spec.specs.Twins.{Twin}
use Rattle.store_twins.specs.Reserved.{ReservedAlone}
use Rattle.store_spec.proofs.Marking.{first_alike, mark_reserved, twin_marked}
use Rattle.store_spec.proofs.Listing.{mark_here}

unreserved_original : {store : List ℕ} {n : ℕ} → Reserved store n → (later : ℕ) (twin : Twin store later) → twin.earlier ≡ n → ⊥
unreserved_original {store} z later twin e = twin.shows.earlier_unreserved (ap (λ (k : ℕ). mode_of (block_of store k)) e ∙ z)

pub reserved_alone : ReservedAlone
reserved_alone store lent after r d done n h z =
    let m = mark_here d done n h in
    record {
      kept = λ u. m ∙ sym (mark_reserved store n u z);
      no_twin = λ t. (first_alike store n (twin_marked store n (sym m ∙ t))).unreserved z;
      has_none = unreserved_original z;
    }
