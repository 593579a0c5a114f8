-- What a block shows, pixel by pixel. Assumes nothing.
use mathlib.Core.Path.{◌≡◌, ◌∙◌, refl, ap}
use mathlib.Core.Bool.{Bool}
use mathlib.Core.List.{List}
use Prim.Native.Nat.{ℕ, ◌+◌, ◌*◌, ◌/◌, ◌%◌, ◌≤◌, ◌<◌}
use native.Mathlib.Omega.{arith}
use lib.ListN.{get_or, replicate}
use borrow.Author.Tests.{ne_eqb}
use Rattle.laws.proofs.Rows.{get_d_made}
use Rattle.bc6h_spec.specs.declared.Fields.{Fields}
use Rattle.bc6h_spec.specs.Regions.{region_of}
use Rattle.bc6h_spec.specs.Fields.{mode_of, fields_of, index_of}
use Rattle.bc6h_spec.specs.Picture.{value_count, endpoint, palette, value, picture_as, is_signed, picture}
use Rattle.bc6h_spec.specs.Block.{format_number, fields_in, pixels_of}
use Rattle.bc6h_spec.proofs.Formats.{signed_again, number_again}
use Rattle.bc6h_spec.proofs.Reading.{fields_format}

-- S-8: a reserved block has mode 0, and all its triples are zero
pub pixels_none : (signed : Bool) (block : List ℕ) → mode_of block ≡ 0 → pixels_of signed block ≡ replicate value_count 0
unfolding pixels_of
pixels_none signed block z = rw z refl

-- an unreserved block shows the picture of its fields, in their own format
pub block_shows : (signed : Bool) (block : List ℕ) → 1 ≤ mode_of block → pixels_of signed block ≡ picture (fields_in signed block)
unfolding pixels_of
block_shows signed block h = rw (ne_eqb (mode_of block) 0 (omega arith))

-- which is a function of the record alone
pub record_shows : (format : ℕ) (block : List ℕ) → format ≤ 1 → 1 ≤ mode_of block → pixels_of (is_signed format) block ≡ picture (fields_of format block)
record_shows format block k h = block_shows (is_signed format) block h ∙ ap (λ (n : ℕ). picture (fields_of n block)) (number_again format k)

-- the same with the format beside the record
pub shows_as : (signed : Bool) (block : List ℕ) → 1 ≤ mode_of block → pixels_of signed block ≡ picture_as signed (fields_in signed block)
unfolding picture
shows_as signed block h =
    block_shows signed block h
    ∙ ap (λ (b : Bool). picture_as b (fields_in signed block)) (ap is_signed (fields_format (format_number signed) block h) ∙ signed_again signed)

-- channel c of pixel k is the palette value of the pixel's region at the pixel's index
pub pixel_shows : (signed : Bool) (f : Fields) (k c : ℕ) → k < 16 → c < 3
    → get_or (picture_as signed f) (3 * k + c) 0 ≡ palette signed f (region_of f.mode f.partition k) c (index_of f k)
unfolding picture_as value
pixel_shows signed f k c hk hc =
    let q : (3 * k + c) / 3 ≡ k = omega arith in
    let r : (3 * k + c) % 3 ≡ c = omega arith in
    get_d_made (value signed f) 48 (3 * k + c) 0 (omega arith) ∙ rw (q, r)

-- a palette is settled by the mode and the endpoints
pub same_palette : (signed : Bool) (f g : Fields) → f.mode ≡ g.mode → f.endpoints ≡ g.endpoints
    → (r c i : ℕ) → palette signed f r c i ≡ palette signed g r c i
unfolding palette endpoint
same_palette signed f g m e r c i = rw (m, e)
