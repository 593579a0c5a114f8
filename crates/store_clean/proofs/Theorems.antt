-- The theorems of specs/Theorems, from the calls' statements. Assumes nothing.
use mathlib.Core.Path.{◌≡◌, sym, ◌∙◌, ap, ap₂, subst}
use mathlib.Core.Bool.{false}
use mathlib.Core.List.{List}
use Prim.Native.Nat.{ℕ, ◌*◌, ◌≤◌, ◌<◌}
use native.Mathlib.Omega.{arith}
use lib.ListN.{length, get_or, drop, length-append}
use Rattle.laws.proofs.Tests.{cases}
use Rattle.laws.proofs.Sameness.{true_false}
use Rattle.bcn_spec.specs.Answers.{done}
use Rattle.bc6h_spec.specs.Picture.{is_signed}
use Rattle.bc6h_spec.specs.Block.{pixels_of}
use Rattle.store_records.specs.Store.{record_size, records_in}
use Rattle.store_spec.specs.declared.TwinList.{TwinList}
use Rattle.store_spec.specs.Shown.{picture_at}
use Rattle.store_spec.specs.Twins.{twin_mark, Alike, Twin, Listed}
use Rattle.store_spec.proofs.Marking.{first_alike, mark_is}
use Rattle.store_spec.proofs.Listing as listing
use Rattle.store_spec.proofs.Listing.{marked_first}
use Rattle.store_clean.specs.declared.Cleaned.{Cleaned}
use Rattle.store_clean.specs.Clean.{Repeats, first_of, goes, record_of, staying, cleaned_of, stay_count, CleanedInto}
use Rattle.store_clean.specs.Theorems.{EachHasOne, OnlyThose, StaysInOrder, BlockHeld, NoneLost, Again, CleanAgain, NoCopy, TwinsLeft, GoneAreTwins}
use Rattle.store_clean.proofs.Repeating as repeating
use Rattle.store_clean.proofs.Leaving.{record_front, staying_less, place_of, left_at}
use Rattle.store_clean.proofs.Cleaning as cleaning
use Rattle.store_clean.proofs.Moving.{Sized, Moved, format_moved, block_moved, cleaned_records, none_goes, cleaned_again, all_stay}

-- ---- what goes

pub each_has_one : EachHasOne
each_has_one = repeating.each_has_one

pub only_those : OnlyThose
only_those = repeating.only_those

-- ---- what stays

module _ {store lent after : List ℕ} {r : Cleaned} (d : CleanedInto store lent r after) (z : r.answer ≡ done) where
  -- record k of the lent bytes, of the first that were written
  written_at : (k : ℕ) → k < r.kept → record_of after k ≡ record_of (cleaned_of store) k
  written_at k h =
      ap (λ (l : List ℕ). record_of l k) (cleaning.after_is d z)
      ∙ record_front (cleaned_of store) (drop (stay_count store * record_size) lent) k (omega (arith, cleaning.cleaned_length d z))

  sized : Sized store
  sized = let w = cleaning.whole d z in record { fits = w.fits; even = w.even }

pub stays_in_order : StaysInOrder
stays_in_order store lent after r d z =
    record {
      written = λ n h f.
          let l : staying (goes store) n < r.kept = omega (arith, cleaning.kept_count d z, staying_less (goes store) n (records_in store) h f) in
          record {
            there = l;
            same_record = written_at d z _ l ∙ left_at (goes store) store (records_in store) n h (omega arith) f;
          };
      source = λ k h.
          let p = place_of (goes store) (records_in store) k (omega (arith, cleaning.kept_count d z)) in
          record {
            number = p.number;
            inside = p.below;
            stays = p.stays;
            place = p.place;
            same_record =
                written_at d z k h ∙ ap (record_of (cleaned_of store)) (sym p.place)
                ∙ left_at (goes store) store (records_in store) p.number p.below (omega arith) p.stays;
          };
      in_order = λ m n l f. staying_less (goes store) m n l f;
      adds_up = cleaning.counts_add_up d z;
    }

module _ {store lent after : List ℕ} {r : Cleaned} (d : CleanedInto store lent r after) (z : r.answer ≡ done) where
  room : r.kept * record_size ≤ length after
  room = omega (arith, cleaning.cleaned_length d z, simp length-append at (ap length (cleaning.after_is d z)))

  stays_held : (n : ℕ) → n < records_in store → goes store n ≡ false → BlockHeld store r after n
  stays_held n h f =
      let w = (stays_in_order store lent after r d z).written n h f in
      let l = w.there in
      let m : Moved after store (staying (goes store) n) n = record { here = omega (arith, room); there = h; same_record = w.same_record } in
      record { place = staying (goes store) n; there = l; same_format = format_moved m; same_bytes = block_moved m }

  pub held : (n : ℕ) → n < records_in store → BlockHeld store r after n
  held n h =
      cases (goes store n)
      (λ t. let g = each_has_one store n t in
      let b = g.before in
      let p = stays_held g.earlier (omega arith) g.stays in
      record {
        place = p.place;
        there = p.there;
        same_format = p.same_format ∙ sym g.repeated.same_format;
        same_bytes = p.same_bytes ∙ sym g.repeated.same_bytes;
      })
      (λ f. stays_held n h f)

pub none_lost : NoneLost
none_lost store lent after r d z n h = held d z n h

-- ---- a cleaned store

again_by : (store bytes other later : List ℕ) (r s : Cleaned) → Sized store → bytes ≡ cleaned_of store → r.kept ≡ stay_count store
    → CleanedInto bytes other s later → s.answer ≡ done → Again bytes r s later
again_by store bytes other later r s w e k c y =
    let f = subst (λ (l : List ℕ). CleanedInto l other s later) e c in
    let same : s.kept ≡ r.kept = cleaning.kept_count f y ∙ all_stay store w ∙ sym k in
    record {
      kept = same;
      removed = omega (arith, same, k, cleaning.counts_add_up f y, cleaned_records store w);
      same_bytes = cleaning.front_is f y ∙ cleaned_again store w ∙ sym e;
    }

pub clean_again : CleanAgain
clean_again store lent after r d z other later s c y =
    again_by store _ other later r s (sized d z) (cleaning.front_is d z) (cleaning.kept_count d z) c y

no_copy_by : (store bytes room marks : List ℕ) (list : TwinList) → Sized store → bytes ≡ cleaned_of store → Listed bytes room list marks
    → list.answer ≡ done → (n : ℕ) → n < records_in bytes → get_or marks n 0 ≡ twin_mark → NoCopy bytes n
no_copy_by store bytes room marks list w e c y n h m =
    let l = marked_first c y n h m in
    let a = first_alike bytes n l in
    let stays : goes bytes n ≡ false = rw e (none_goes store w n (rw e at h)) in
    record {
      before = l;
      looks_alike = a;
      other_bytes = λ earlier b u f q.
          true_false
          (sym (repeating.repeated_goes bytes n earlier b a.unrefused u f a.unreserved q) ∙ stays);
    }

pub twins_left : TwinsLeft
twins_left store lent after r d z room marks list c y n h m =
    no_copy_by store _ room marks list (sized d z) (cleaning.front_is d z) c y n h m

-- ---- beside the twin list

repeats_alike : {store : List ℕ} {n earlier : ℕ} → Repeats store n earlier → Alike store n earlier
unfolding picture_at
repeats_alike p =
    record {
      unrefused = p.unrefused;
      earlier_unrefused = p.earlier_unrefused;
      same_format = sym p.same_format;
      unreserved = p.unreserved;
      earlier_unreserved = p.earlier_unreserved;
      same_values = ap₂ (λ (f : ℕ) (b : List ℕ). pixels_of (is_signed f) b) (sym p.same_format) (sym p.same_bytes);
    }

pub gone_are_twins : GoneAreTwins
gone_are_twins store room marks list c y n h t =
    let l = repeating.goes_first store n t in
    let twin : Twin store n = record { earlier = first_of store n; before = l; shows = repeats_alike (repeating.first_repeated store n l) } in
    listing.mark_here c y n h ∙ (mark_is store n).twin twin
