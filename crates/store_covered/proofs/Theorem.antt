-- The clean-up theorem: from the twin list's mark, by the copies theorem, to the bytes. Assumes nothing.
use mathlib.Core.Path.{◌≡◌, sym, ◌∙◌, ap}
use mathlib.Core.List.{List}
use Prim.Native.Nat.{ℕ, ◌<◌}
use native.Mathlib.Omega.{arith}
use lib.ListN.{get_or}
use Rattle.laws.proofs.Sameness.{not_so}
use Rattle.bcn_spec.specs.Answers.{done}
use Rattle.bc6h_spec.specs.Picture.{is_signed}
use Rattle.bc6h_spec.specs.Block.{pixels_of}
use Rattle.store_copies.proofs.Wide.{copies}
use Rattle.store_records.specs.Store.{records_in, format_of, block_of}
use Rattle.store_spec.specs.declared.TwinList.{TwinList}
use Rattle.store_spec.specs.Shown.{picture_at}
use Rattle.store_spec.specs.Twins.{kept_mark, twin_mark, Alike, first_twin, mark_at, Listed}
use Rattle.store_spec.proofs.Marking.{first_alike, first_stays}
use Rattle.store_spec.proofs.Listing.{mark_here, marked_first}
use Rattle.store_covered.specs.CleanUp.{Covered, Copy, CleanUp, NoBlockLost, KeptPicture, NoPictureLost}

-- ---- from the mark to the bytes

-- two records of one format that decode to the same 48 values
pub one_picture : {store : List ℕ} {n earlier : ℕ} → Alike store n earlier
    → pixels_of (is_signed (format_of store n)) (block_of store n) ≡ pixels_of (is_signed (format_of store n)) (block_of store earlier)
unfolding picture_at
one_picture {store} {earlier = earlier} a =
    sym a.same_values ∙ ap (λ (f : ℕ). pixels_of (is_signed f) (block_of store earlier)) a.same_format

pub alike_copy : {store : List ℕ} {n earlier : ℕ} → Alike store n earlier → earlier < n → mark_at store earlier ≡ kept_mark → Covered store n earlier
    → Copy store n earlier
alike_copy {store} {n} {earlier} a l k c =
    record {
      before = l;
      unrefused = a.unrefused;
      earlier_unrefused = a.earlier_unrefused;
      same_format = sym a.same_format;
      same_bytes =
          copies (format_of store n) (format_of store n) (block_of store n) (block_of store earlier) c.suited c.earlier_suited c.matched
          (one_picture a);
      earlier_kept = k;
    }

pub clean_up : CleanUp
clean_up store lent after r d z n h m c =
    let l = marked_first d z n h m in
    alike_copy (first_alike store n l) l (first_stays store n l) c

-- ---- over a whole store

module _ {store lent after : List ℕ} {r : TwinList} (d : Listed store lent r after) (z : r.answer ≡ done) (n : ℕ) (h : n < records_in store)
    (m : get_or after n 0 ≡ twin_mark) where
  first_kept : get_or after (first_twin store n) 0 ≡ kept_mark
  first_kept =
      let l = marked_first d z n h m in
      mark_here d z (first_twin store n) (omega arith) ∙ first_stays store n l

  pub twin_shown : KeptPicture store after n
  twin_shown =
      let l = marked_first d z n h m in
      let a = first_alike store n l in
      record {
        place = first_twin store n;
        before = l;
        kept = first_kept;
        same_format = sym a.same_format;
        same_values = sym a.same_values;
      }

pub no_picture_lost : NoPictureLost
no_picture_lost store lent after r d z n h m = twin_shown d z n h m

pub no_block_lost : NoBlockLost
no_block_lost store lent after r d z goes c n h g =
    let m = c.marked n h g in
    let copy = clean_up store lent after r d z n h m (c.covered_twin n h g) in
    let l = copy.before in
    let k = first_kept d z n h m in
    record {
      place = first_twin store n;
      before = l;
      kept = k;
      stays = not_so _ (λ t. omega (arith, sym k ∙ c.marked (first_twin store n) (omega arith) t));
      same_format = copy.same_format;
      same_bytes = copy.same_bytes;
    }
