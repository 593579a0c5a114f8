-- The theorems of specs/Orders. Assumes nothing.
use mathlib.Core.Path.{◌≡◌, refl, sym, ◌∙◌, subst}
use mathlib.Core.List.{List}
use Prim.Native.Nat.{ℕ, ◌<◌}
use native.Mathlib.Omega.{arith}
use lib.Dec.{ltb}
use borrow.Author.Tests.{eqb-true, eqb-false, ltb-true, ltb-false}
use Rattle.laws.specs.Order.{record_in, Reordered}
use Rattle.laws.proofs.Tests.{cases}
use Rattle.laws.proofs.Orders.{ordered_back}
use Rattle.bcn_spec.specs.Answers.{done}
use Rattle.store_records.specs.Store.{record_size, records_in, Unrefused}
use Rattle.store_spec.specs.declared.TwinList.{TwinList}
use Rattle.store_spec.specs.Shown.{is_record}
use Rattle.store_spec.specs.Twins.{kept_mark, first_twin, mark_at, Listed}
use Rattle.store_spec.proofs.Marking.{mark_bad, mark_kept, first_alike, alike_through, first_stays}
use Rattle.store_spec.proofs.Listing as listing
use Rattle.store_clean.specs.Clean.{record_of, cleaned_of}
use Rattle.store_clean.proofs.Cleaning as cleaning
use Rattle.store_clean.proofs.Moving.{Sized, Moved, format_moved, block_moved, refusal_moved}
use Rattle.store_theorems.specs.Orders.{AlikeIsEquivalence, KeepsPicture, SameKept, LeftBlock, SameLeft}
use Rattle.store_theorems.proofs.Carrying.{picture_moved, mode_moved, origin, stands}
use Rattle.store_theorems.proofs.Pictures.{sized_when}
use Rattle.store_theorems.proofs.Growing.{sized_list}

-- ---- looking alike

pub alike_is_equivalence : AlikeIsEquivalence
alike_is_equivalence store =
    record {
      reflexive = λ n p.
          record {
            unrefused = p.unrefused;
            earlier_unrefused = p.unrefused;
            same_format = refl;
            unreserved = p.unreserved;
            earlier_unreserved = p.unreserved;
            same_values = refl;
          };
      symmetric = λ m n a.
          record {
            unrefused = a.earlier_unrefused;
            earlier_unrefused = a.unrefused;
            same_format = sym a.same_format;
            unreserved = a.earlier_unreserved;
            earlier_unreserved = a.unreserved;
            same_values = sym a.same_values;
          };
      transitive = λ l m n a b. alike_through a b;
      pictures = λ m n a. (
        record { unrefused = a.unrefused; unreserved = a.unreserved },
        record { unrefused = a.earlier_unrefused; unreserved = a.earlier_unreserved },
      );
    }

-- ---- another order

-- where each record of the one store is in the other
record FoundIn (store other : List ℕ) (n : ℕ) : Type 0 where
  place : ℕ
  moved : Moved other store place n

abbrev AllIn : List ℕ → List ℕ → Type 0
AllIn store other = (n : ℕ) → n < records_in store → FoundIn store other n

module _ {store other : List ℕ} (o : Reordered record_size store other) where
  back : AllIn other store
  unfolding record_in record_of
  back n h =
      record {
        place = o.from n;
        moved = record { here = o.inside n h; there = h; same_record = sym (o.same_bytes n h) };
      }

forth : {store other : List ℕ} → Reordered record_size store other → AllIn store other
forth o = back (ordered_back o)

-- ---- the pictures that are kept

kept_unrefused : (store : List ℕ) (n : ℕ) → mark_at store n ≡ kept_mark → Unrefused store n
kept_unrefused store n e =
    cases (is_record store n) (λ t. eqb-true _ _ t) (λ f. absurd (omega (arith, mark_bad store n (eqb-false _ _ f), e)))

module _ {store other : List ℕ} (sized : Sized store) (also : Sized other) (all : AllIn store other) where
  -- a record that is kept shows what record n shows
  module _ {space others : List ℕ} {next : TwinList} (d : Listed other space next others) (z : next.answer ≡ done) where
    picture_kept : {room marks : List ℕ} {list : TwinList} → Listed store room list marks → list.answer ≡ done → {format : ℕ} {values : List ℕ}
        → KeepsPicture store marks format values → KeepsPicture other others format values
    picture_kept c y p =
        let f = all p.place p.inside in
        let m = f.moved in
        let u : Unrefused other f.place = refusal_moved also sized m ∙ kept_unrefused store p.place (sym (listing.mark_here c y p.place p.inside) ∙ p.kept) in
        cases (ltb (first_twin other f.place) f.place)
        (λ t. let l = ltb-true _ _ t in
        let a = first_alike other f.place l in
        let i : first_twin other f.place < records_in other = omega (arith, m.here, l) in
        record {
          place = first_twin other f.place;
          inside = i;
          kept = listing.mark_here d z _ i ∙ first_stays other f.place l;
          unreserved = a.earlier_unreserved;
          of_format = a.same_format ∙ format_moved m ∙ p.of_format;
          shows = a.same_values ∙ picture_moved m ∙ p.shows;
        })
        (λ t. record {
          place = f.place;
          inside = m.here;
          kept = listing.mark_here d z _ m.here ∙ sym (mark_kept other f.place u (ltb-false _ _ t));
          unreserved = λ w. p.unreserved (sym (mode_moved m) ∙ w);
          of_format = format_moved m ∙ p.of_format;
          shows = picture_moved m ∙ p.shows;
        })

pub same_kept : SameKept
same_kept store other o room marks list c y space others next d z format values =
    let s = sized_list c y in
    let t = sized_list d z in
    (λ p. picture_kept s t (forth o) d z c y p, λ p. picture_kept t s (back o) c y d z p)

-- ---- the blocks that are left

tile_left : {store other : List ℕ} → Sized store → Sized other → AllIn store other → {format : ℕ} {block : List ℕ}
    → LeftBlock (cleaned_of store) format block → LeftBlock (cleaned_of other) format block
tile_left {store} {other} sized also all p =
    let g = (origin store sized p.place p.inside).moved in
    let m = (all _ g.there).moved in
    let s = stands other also _ m.here in
    record {
      place = s.place;
      inside = s.moved.here;
      of_format = format_moved s.moved ∙ s.same_format ∙ format_moved m ∙ sym (format_moved g) ∙ p.of_format;
      same_bytes = block_moved s.moved ∙ s.same_bytes ∙ block_moved m ∙ sym (block_moved g) ∙ p.same_bytes;
    }

left_by : {store other bytes others : List ℕ} → Sized store → Sized other → AllIn store other → bytes ≡ cleaned_of store → others ≡ cleaned_of other
    → {format : ℕ} {block : List ℕ} → LeftBlock bytes format block → LeftBlock others format block
left_by s t all e q {format} {block} p =
    subst (λ (l : List ℕ). LeftBlock l format block) (sym q) (tile_left s t all (subst (λ (l : List ℕ). LeftBlock l format block) e p))

pub same_left : SameLeft
same_left store other o lent after r c y room later s d z format block =
    let a = sized_when c y in
    let b = sized_when d z in (
      λ p. left_by a b (forth o) (cleaning.front_is c y) (cleaning.front_is d z) p,
      λ p. left_by b a (back o) (cleaning.front_is d z) (cleaning.front_is c y) p,
    )
