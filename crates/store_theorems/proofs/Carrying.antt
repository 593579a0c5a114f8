-- A record that stands in two stores: what it shows and which records it repeats or looks like is the same in both. Assumes nothing.
use mathlib.Core.Path.{◌≡◌, refl, sym, ap, ap₂, subst}
use mathlib.Core.Bool.{false}
use mathlib.Core.List.{List}
use Prim.Native.Nat.{ℕ, ◌<◌}
use native.Mathlib.Omega.{arith}
use Rattle.laws.proofs.Tests.{cases}
use Rattle.bc6h_spec.specs.Fields.{mode_of}
use Rattle.bc6h_spec.specs.Picture.{is_signed}
use Rattle.bc6h_spec.specs.Block.{pixels_of}
use Rattle.store_records.specs.Store.{records_in, format_of, block_of, Unrefused}
use Rattle.store_spec.specs.Shown.{picture_at}
use Rattle.store_spec.specs.Twins.{holding, showing, alike}
use Rattle.store_clean.specs.Clean.{repeats, goes, staying, cleaned_of}
use Rattle.store_clean.proofs.Repeating.{each_has_one}
use Rattle.store_clean.proofs.Leaving.{staying_less, place_of, left_at}
use Rattle.store_clean.proofs.Moving.{Sized, Moved, format_moved, block_moved, refusal_moved, cleaned_records}

-- ---- record k of the one store is record n of the other

module _ {other store : List ℕ} {k n : ℕ} (m : Moved other store k n) where
  pub turned : Moved store other n k
  turned = record { here = m.there; there = m.here; same_record = sym m.same_record }

  pub mode_moved : mode_of (block_of other k) ≡ mode_of (block_of store n)
  mode_moved = ap mode_of (block_moved m)

  pub picture_moved : picture_at other k ≡ picture_at store n
  unfolding picture_at
  picture_moved = ap₂ (λ (f : ℕ) (b : List ℕ). pixels_of (is_signed f) b) (format_moved m) (block_moved m)

module _ {other store : List ℕ} (small : Sized other) (sized : Sized store) {k j n e : ℕ} (m : Moved other store k n) (l : Moved other store j e) where
  pub repeats_same : repeats other k j ≡ repeats store n e
  unfolding repeats
  repeats_same = rw (refusal_moved small sized m, refusal_moved small sized l, format_moved m, format_moved l, block_moved m, block_moved l)

  pub alike_same : alike other k j ≡ alike store n e
  unfolding alike showing holding
  alike_same =
      rw (
        refusal_moved small sized m,
        refusal_moved small sized l,
        format_moved m,
        format_moved l,
        block_moved m,
        block_moved l,
        picture_moved m,
        picture_moved l,
      )

-- ---- the cleaned store

module _ (store : List ℕ) (sized : Sized store) where
  pub stays_there : (n : ℕ) → n < records_in store → goes store n ≡ false → Moved (cleaned_of store) store (staying (goes store) n) n
  stays_there n h f =
      record {
        here = omega (arith, cleaned_records store sized, staying_less (goes store) n (records_in store) h f);
        there = h;
        same_record = left_at (goes store) store (records_in store) n h (omega arith) f;
      }

  -- every record of the cleaned store is one of the store that stays
  pub record Origin (k : ℕ) : Type 0 where
    pub number : ℕ
    pub stays : goes store number ≡ false
    pub moved : Moved (cleaned_of store) store k number

  pub origin : (k : ℕ) → k < records_in (cleaned_of store) → Origin k
  origin k h =
      let p = place_of (goes store) (records_in store) k (omega (arith, cleaned_records store sized)) in
      record {
        number = p.number;
        stays = p.stays;
        moved = subst (λ (j : ℕ). Moved (cleaned_of store) store j p.number) p.place (stays_there p.number p.below p.stays);
      }

  -- and for every record of the store it has one of the same format and bytes
  pub record Stands (n : ℕ) : Type 0 where
    pub place : ℕ
    pub number : ℕ
    pub moved : Moved (cleaned_of store) store place number
    pub same_format : format_of store number ≡ format_of store n
    pub same_bytes : block_of store number ≡ block_of store n
    pub unrefused : Unrefused store n → Unrefused store number

  pub stands : (n : ℕ) → n < records_in store → Stands n
  stands n h =
      cases (goes store n)
      (λ t. let g = each_has_one store n t in
      let p = g.repeated in
      record {
        place = staying (goes store) g.earlier;
        number = g.earlier;
        moved = stays_there g.earlier (omega (arith, g.before)) g.stays;
        same_format = sym p.same_format;
        same_bytes = sym p.same_bytes;
        unrefused = λ _. p.earlier_unrefused;
      })
      (λ f.
      record {
        place = staying (goes store) n;
        number = n;
        moved = stays_there n h f;
        same_format = refl;
        same_bytes = refl;
        unrefused = λ u. u;
      })
