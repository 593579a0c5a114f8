-- What is promised, over whatever the calls may leave (demand 1 is in Silence). Each type is proved in proofs/ under its name. Assumes nothing.
use Rattle.std.specs.Prelude.{◌≡◌, ◌⊎◌, false, List, ℕ, ◌+◌, ◌-◌, ◌*◌, ◌/◌, ◌%◌, ◌≤◌, ◌<◌, length, get_or, take, drop}
use Rattle.laws.specs.Order.{Reordered}
use Rattle.laws.specs.Bit.{low_bytes}
use Rattle.bc6h_spec.specs.declared.Fields.{Fields}
use Rattle.bcn_spec.specs.Answers.{done}
use Rattle.bcn_spec.specs.Bits.{block_size, IsBlock, blocks_in, block_at}
use Rattle.bc6h_spec.specs.Fields.{mode_of, Valid}
use Rattle.bc6h_spec.specs.Picture.{is_signed, value_count}
use Rattle.bc6h_spec.specs.Block.{pixels_of}
use Rattle.store_copies.specs.Words.{Eligible, ChannelDiffers}
use Rattle.store_copies.specs.Wide.{Suited, Matched}
use Rattle.bc6.specs.Call.{Pixels}
use Rattle.bc6.specs.Call.{Painted}
use Rattle.bc6_blocks.specs.Run.{BlocksPixels}
use Rattle.bc6_blocks.specs.Run.{RunPainted}
use Rattle.bc6_fields.specs.Call.{FieldsRead}
use Rattle.bc6_fields.specs.Call.{Extracted}
use Rattle.bc6_writer.specs.Call.{BlockWritten}
use Rattle.bc7_spec.specs.Block.{byte_count}
use Rattle.bc7.specs.Call.{Bc7Pixels}
use Rattle.bc7.specs.Call as bc7
use Rattle.bc7_blocks.specs.Run.{Bc7BlocksPixels}
use Rattle.bc7_blocks.specs.Run as bc7-run
use Rattle.store_records.specs.Store.{record_size, records_in}
use Rattle.store_clean.specs.Theorems.{EachHasOne, OnlyThose, StaysInOrder, NoneLost, CleanAgain}
use Rattle.store_restore.specs.Theorems.{Undone, Taken, NoTileLost}
use Rattle.store_theorems.specs.Pictures.{EveryPictureShown, FaultyStay}
use Rattle.store_theorems.specs.Growing.{Appended, Nightly}
use Rattle.store_theorems.specs.Orders.{AlikeIsEquivalence, SameKept}
use Rattle.probe_places.specs.declared.Fault.{Fault}
use Rattle.probe_places.specs.declared.Place.{Place}
use Rattle.probe_places.specs.Places.{place_size, places_in, place_in}
use Rattle.probe_moves.specs.declared.Moved.{Moved}
use Rattle.probe_moves.specs.Moves.{PlacedStore, UnplacedStore}
use Rattle.probe_put.specs.Put.{PlacePut}
use Rattle.probe.specs.declared.ProbePixel.{ProbePixel}
use Rattle.probe.specs.Probe.{triple_in, Asked}
use Rattle.probe_open.specs.Open.{Opened, TablePixel}
use Rattle.probe_build.specs.Pictures.{BuildShows}
use Rattle.dds.specs.declared.DdsRead.{DdsRead}
use Rattle.dds.specs.declared.DdsWritten.{DdsWritten}
use Rattle.dds.specs.Dds.{FileRead, BlocksRead, FileWritten}
use Rattle.pfm_floats.specs.Half.{is_negative, exponent_of, half_value, Is24ths, float_of}
use Rattle.pfm_header.specs.Header.{header_length}
use Rattle.pfm.specs.declared.PfmWritten.{PfmWritten}
use Rattle.pfm.specs.File.{pixel_bytes, PictureWritten}
use Rattle.exr_header.specs.Header.{line_start}
use Rattle.exr.specs.declared.ExrWritten.{ExrWritten}
use Rattle.exr.specs.File as exr

-- ---- demand 2

-- S-2: of sixteen bytes, in a format and with room for 48 values, `block_pixels` is done; it leaves the definition's picture and the rest as it was.
abbrev pub Demand2 : Type 0
Demand2 = (block : List ℕ) (format : ℕ) (lent after : List ℕ) (r : Pixels) → length block ≡ block_size → format ≤ 1 → value_count ≤ length lent
    → Painted block format lent r after
    → (r.answer ≡ done) × ((take value_count after ≡ pixels_of (is_signed format) block) × (drop value_count after ≡ drop value_count lent))

-- S-32: a run of blocks, block by block: what `block_pixels` leaves of each.
abbrev pub BlockByBlock : Type 0
BlockByBlock = (blocks : List ℕ) (format : ℕ) (lent after : List ℕ) (r : BlocksPixels) → RunPainted blocks format lent r after → r.answer ≡ done
    → (n : ℕ) → n < blocks_in blocks → (room left : List ℕ) (s : Pixels) → Painted (block_at blocks n) format room s left → s.answer ≡ done
    → take value_count (drop (value_count * n) after) ≡ take value_count left

-- S-66: the same of BC7.
abbrev pub Bc7ByBlock : Type 0
Bc7ByBlock = (blocks lent after : List ℕ) (r : Bc7BlocksPixels) → bc7-run.RunPainted blocks lent r after → r.answer ≡ done
    → (n : ℕ) → n < blocks_in blocks → (room left : List ℕ) (s : Bc7Pixels) → bc7.Painted (block_at blocks n) room s left → s.answer ≡ done
    → take byte_count (drop (byte_count * n) after) ≡ take byte_count left

-- ---- demand 3

-- S-3: whatever two calls leave of two unsigned blocks that meet the premises: the same 48 values mean the same sixteen bytes.
abbrev pub Demand3 : Type 0
Demand3 = (x y : List ℕ) → Eligible x → Eligible y → mode_of x ≡ mode_of y → ChannelDiffers false x ⊎ ChannelDiffers false y
    → (lent room after left : List ℕ) (r s : Pixels) → Painted x 0 lent r after → Painted y 0 room s left → r.answer ≡ done → s.answer ≡ done
    → take value_count after ≡ take value_count left → x ≡ y

-- S-4, S-5: the same on two regions and on signed blocks.
abbrev pub WiderDemand3 : Type 0
WiderDemand3 = (format other : ℕ) (x y : List ℕ) → Suited format x → Suited other y → Matched format x other y
    → (lent room after left : List ℕ) (r s : Pixels) → Painted x format lent r after → Painted y other room s left → r.answer ≡ done → s.answer ≡ done
    → take value_count after ≡ take value_count left → x ≡ y

-- ---- the clean-up

-- S-45 to S-52: only copies go, what stays is there in order, every picture is still shown, no tile number is lost, it can be undone, and a store
-- that grows, or whose records come in another order, keeps the same pictures.
pub record CleanUp : Type 0 where
  pub each_has_one : EachHasOne
  pub only_those : OnlyThose
  pub stays_in_order : StaysInOrder
  pub none_lost : NoneLost
  pub clean_again : CleanAgain
  pub taken : Taken
  pub undone : Undone
  pub no_tile_lost : NoTileLost
  pub every_picture_shown : EveryPictureShown
  pub faulty_stay : FaultyStay
  pub appended : Appended
  pub nightly : Nightly
  pub alike_is_equivalence : AlikeIsEquivalence
  pub same_kept : SameKept

-- ---- calls that undo each other

-- S-36: every unreserved block comes back byte for byte; every valid record comes back as it went in.
abbrev pub BlockAgain : Type 0
BlockAgain = (block : List ℕ) (format : ℕ) → IsBlock block → format ≤ 1 → 1 ≤ mode_of block → (read : FieldsRead) → Extracted block format read
    → (lent after : List ℕ) (r : ℕ) → length lent ≡ block_size → BlockWritten read.fields lent r after → (read.answer ≡ done) × ((r ≡ done) × (after ≡ block))

abbrev pub RecordAgain : Type 0
RecordAgain = (f : Fields) → Valid f → (lent after : List ℕ) (r : ℕ) → length lent ≡ block_size → BlockWritten f lent r after
    → (read : FieldsRead) → Extracted after f.format read → (r ≡ done) × (read ≡ record { answer = done; fields = f })

-- S-63: reading the file that `dds_write` left gives the same size, format and blocks.
abbrev pub FileAgain : Type 0
FileAgain = (blocks : List ℕ) (format width height : ℕ) (lent after : List ℕ) (r : DdsWritten) → FileWritten blocks format width height lent r after → r.answer ≡ done
    → (s : DdsRead) (part : List ℕ) → FileRead (take r.length after) s → BlocksRead (take r.length after) part
    → (s ≡ record { answer = done; width = width; height = height; format = format }) × (part ≡ blocks)

-- S-55: what was moved comes back, byte for byte, both ways.
abbrev pub OldAgain : Type 0
OldAgain = (old lent after room back : List ℕ) (r q : Moved) → PlacedStore old lent r after → r.answer ≡ done → length old ≤ length room
    → UnplacedStore (take (records_in old * place_size) after) room q back → (q.answer ≡ done) × (take (length old) back ≡ old)

abbrev pub NewAgain : Type 0
NewAgain = (new lent after room back : List ℕ) (r q : Moved) → UnplacedStore new lent r after → r.answer ≡ done → length new ≤ length room
    → PlacedStore (take (places_in new * record_size) after) room q back → (q.answer ≡ done) × (take (length new) back ≡ new)

-- ---- files and probes

-- S-64: the float of a pattern is exactly its number of 2^−24ths, with its sign; and pixel (x, y) of the file is its block's pixel.
abbrev pub FloatExact : Type 0
FloatExact = (half : ℕ) → exponent_of half < 31 → Is24ths (float_of half) (is_negative half) (half_value half)

abbrev pub PixelWritten : Type 0
PixelWritten = (blocks : List ℕ) (format width height : ℕ) (lent after : List ℕ) (r : PfmWritten) → PictureWritten blocks format width height lent r after → r.answer ≡ done
    → (x y : ℕ) → x < width → y < height
    → take 12 (drop (header_length width height + 12 * ((height - 1 - y) * width + x)) (take r.length after))
    ≡ pixel_bytes (pixels_of (is_signed format) (block_at blocks (y / 4 * (width / 4) + x / 4))) (4 * (y % 4) + x % 4)

-- S-92: channel c, 0 red to 2 blue, of pixel (x, y) of the OpenEXR file is its block's pattern.
abbrev pub PatternWritten : Type 0
PatternWritten = (blocks : List ℕ) (format width height : ℕ) (lent after : List ℕ) (r : ExrWritten) → exr.PictureWritten blocks format width height lent r after → r.answer ≡ done
    → (x y channel : ℕ) → x < width → y < height → channel < 3
    → take 2 (drop (line_start width height y + (8 + 2 * ((2 - channel) * width + x))) (take r.bytes after))
    ≡ low_bytes 2 (get_or (pixels_of (is_signed format) (block_at blocks (y / 4 * (width / 4) + x / 4))) (3 * (4 * (y % 4) + x % 4) + channel) 0)

-- S-91: the record has the place that was put, and every byte but the five of its place stays.
abbrev pub PlaceAlone : Type 0
PlaceAlone = (store : List ℕ) (n : ℕ) (p : Place) (lent after : List ℕ) (r : Moved) → p.column < 65536 → p.row < 65536
    → PlacePut store n p lent r after → r.answer ≡ done
    → (place_in (take (length store) after) n ≡ p)
    × ((j : ℕ) → (j < n * place_size + 5) ⊎ (n * place_size + 10 ≤ j) → get_or (take (length store) after) j 0 ≡ get_or store j 0)

-- S-93: by the table that opening a probe left, `probe_pixel_in` answers what `probe_pixel` does.
abbrev pub OpenedOnce : Type 0
OpenedOnce = (store : List ℕ) (edge : ℕ) (lent table : List ℕ) (opened : Fault) → Opened store edge lent opened table → opened.answer ≡ done
    → (face x y : ℕ) (r q : ProbePixel) → TablePixel store table edge face x y r → Asked store edge face x y q → r ≡ q

-- S-57: a probe answers every question the same in every order of its records.
abbrev pub AnyOrder : Type 0
AnyOrder = (store other : List ℕ) → Reordered place_size store other → (edge face x y : ℕ) (r q : ProbePixel) → Asked store edge face x y r → Asked other edge face x y q
    → r.answer ≡ done → (q.answer ≡ done) × (triple_in r ≡ triple_in q)

-- S-59: what `probe_build` leaves is a probe whose pixels and faces are those of the blocks.
abbrev pub ProbeBuilt : Type 0
ProbeBuilt = BuildShows
