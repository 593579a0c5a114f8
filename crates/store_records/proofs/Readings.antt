-- What a reading and a part say, and that each call's statement admits one outcome. Assumes nothing.
use mathlib.Core.Path.{◌≡◌, refl, sym, ◌∙◌, ap, ap₂}
use mathlib.Core.List.{List, [], ◌∷◌}
use Prim.Native.Nat.{ℕ, zero, suc, ◌≤◌, ◌<◌}
use native.Mathlib.Omega.{arith}
use lib.ListN.{length}
use borrow.Author.Tests.{lt-ltb, le-ltb}
use Rattle.bcn_spec.specs.Answers.{done}
use Rattle.store_records.specs.declared.Record.{Record}
use Rattle.std.specs.Prelude.{Result, Ok, Err}
use Rattle.bcn_spec.specs.Refusals.{refusal_number}
use Rattle.bcn_spec.specs.declared.Refusal.{Refusal}
use Rattle.bcn_spec.proofs.Refusals.{same_refusal, positive}
use Rattle.store_records.specs.Store.{records_in, tile_of, format_of, tile_at, block_of, record_refusal, Unrefused, values_at, part_at, RecordRead}
use Rattle.store_records.proofs.Refusals.{known, block_length}

-- ---- the tile

pub tile_there : (store : List ℕ) (n : ℕ) → n < records_in store → tile_of store n ≡ tile_at store n
unfolding tile_at
tile_there store n h = rw (lt-ltb _ _ h)

pub no_tile : (store : List ℕ) (n : ℕ) → records_in store ≤ n → 0 ≡ tile_at store n
unfolding tile_at
no_tile store n h = rw (le-ltb _ _ h)

pub one_tile : (store : List ℕ) (n : ℕ) {a b : ℕ} → a ≡ tile_at store n → b ≡ tile_at store n → a ≡ b
one_tile store n d e = d ∙ sym e

-- ---- the record call

-- the values of a refusal's number are none
none_of : (store : List ℕ) (n : ℕ) (r : Refusal) → values_at (refusal_number r) store n ≡ []
none_of store n r = ap (λ a. values_at a store n) (positive r)

pub read_refused : (store : List ℕ) (n : ℕ) (r : Refusal) → record_refusal store n ≡ refusal_number r → RecordRead store n (Err r)
read_refused store n r e = record { answers = sym e; gives = sym (rw e (none_of store n r)) }

pub read_record : (store : List ℕ) (n tile : ℕ) → Unrefused store n → tile ≡ tile_at store n
    → RecordRead store n (Ok (record { tile = tile; format = format_of store n }))
read_record store n tile u e = record { answers = sym u; gives = rw (u, e ∙ sym (tile_there store n (known store n u).below)) }

-- a reading that is a record: it is not refused, and its format is the store's
pub unrefused : {store : List ℕ} {n : ℕ} {x : Result Record Refusal} {r : Record} → RecordRead store n x → x ≡ Ok r → Unrefused store n
unrefused d e = cc d.answers

pub format_is : {store : List ℕ} {n : ℕ} {x : Result Record Refusal} {r : Record} → RecordRead store n x → x ≡ Ok r → r.format ≡ format_of store n
format_is {store} {n} {x} {r} d e =
    let u = unrefused d e in
    let v : r.tile ∷ r.format ∷ [] ≡ tile_of store n ∷ format_of store n ∷ [] = rw (e, u) at d.gives in
    cc

-- a reading that is a refusal
refused_at : (store : List ℕ) (n a k : ℕ) → [] ≡ values_at a store n → a ≡ done → ⊥
refused_at store n zero k v z = omega (arith, ap length v)
refused_at store n (suc a) k v z = omega arith

pub refused : {store : List ℕ} {n : ℕ} {k : Refusal} {x : Result Record Refusal} → RecordRead store n x → x ≡ Err k → Unrefused store n → ⊥
refused {store} {n} {k} {x} d e u = refused_at store n (record_refusal store n) 0 (rw e at d.gives) u

same_reading : (a b : Result Record Refusal) (store : List ℕ) (n : ℕ) → RecordRead store n a → RecordRead store n b → a ≡ b
same_reading (Ok q) (Ok r) store n d e =
    let v : q.tile ∷ q.format ∷ [] ≡ r.tile ∷ r.format ∷ [] = d.gives ∙ sym e.gives in
    let t : q.tile ≡ r.tile = cc in
    let f : q.format ≡ r.format = cc in
    ap₂ (λ x y. Ok (record { tile = x; format = y })) t f
same_reading (Ok q) (Err k) store n d e = absurd (refused e refl (sym d.answers))
same_reading (Err k) (Ok r) store n d e = absurd (refused d refl (sym e.answers))
same_reading (Err j) (Err k) store n d e = ap Err (same_refusal (d.answers ∙ sym e.answers))

pub one_reading : {store : List ℕ} {n : ℕ} {a b : Result Record Refusal} → RecordRead store n a → RecordRead store n b → a ≡ b
one_reading {store} {n} {a} {b} d e = same_reading a b store n d e

-- ---- the block call

pub part_of : (store : List ℕ) (n : ℕ) → Unrefused store n → part_at (record_refusal store n) store n ≡ block_of store n
part_of store n u = rw u

-- the part is empty exactly when the record call refuses
pub empty_refused : (store : List ℕ) (n : ℕ) → (Unrefused store n → ⊥) → part_at (record_refusal store n) store n ≡ []
empty_refused store n r = go (record_refusal store n) r
  where
    go : (a : ℕ) → (a ≡ done → ⊥) → part_at a store n ≡ []
    go zero r = absurd (r refl)
    go (suc a) r = refl

pub empty_only : (store : List ℕ) (n : ℕ) → part_at (record_refusal store n) store n ≡ [] → Unrefused store n → ⊥
empty_only store n e u = omega (arith, sym (block_length (known store n u)) ∙ ap length (sym (part_of store n u) ∙ e))

pub one_part : (store : List ℕ) (n : ℕ) {a b : List ℕ} → a ≡ part_at (record_refusal store n) store n
    → b ≡ part_at (record_refusal store n) store n → a ≡ b
one_part store n d e = d ∙ sym e
