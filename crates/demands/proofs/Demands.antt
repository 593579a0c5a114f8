-- The demands and the requests' theorems over the calls, each by citing what is proved where its subject is. Assumes nothing.
use mathlib.Core.Path.{◌≡◌, refl, sym, ap, ◌∙◌}
use mathlib.Core.Bool.{Bool}
use mathlib.Core.List.{List}
use Prim.Native.Nat.{ℕ, zero, suc}
use lib.ListN.{length, get_or, take, drop}
use lib.Seq.{take_at, drop_at}
use Rattle.bcn_spec.specs.Answers.{done}
use Rattle.bc6h_spec.specs.Picture.{is_signed, value_count}
use Rattle.bc6h_spec.specs.Fields.{mode_of}
use Rattle.bc6h_spec.specs.Block.{format_number, pixels_of}
use Rattle.bc6h_spec.specs.Named.{Row, named_blocks}
use Rattle.bc6h_spec.proofs.Blocks.{Shown, named_shown, each_so}
use Rattle.bc6h_spec.proofs.Formats.{number_le, signed_again}
use Rattle.bc6h_spec.proofs.Values.{length_pixels}
use Rattle.bc6.specs.Call.{Pixels}
use Rattle.bc6.specs.Call.{refusal_of, answer_at, Painted}
use Rattle.bc6.proofs.Calls as pixels
use Rattle.bc6_blocks.specs.Run.{BlocksPixels}
use Rattle.bc6_blocks.specs.Run as run
use Rattle.bc6_blocks.proofs.Calls as runs
use Rattle.bc7.proofs.Calls as bc7-calls
use Rattle.bc7_blocks.specs.Run.{Bc7BlocksPixels}
use Rattle.bc7_blocks.specs.Run as bc7-run
use Rattle.bc7_blocks.proofs.Calls as bc7-runs
use Rattle.store_copies.proofs.Demand3 as copies
use Rattle.store_copies.proofs.Wide as wide
use Rattle.store_clean.proofs.Theorems as clean
use Rattle.store_restore.proofs.Theorems as restore
use Rattle.store_theorems.proofs.Pictures as pictures
use Rattle.store_theorems.proofs.Growing as growing
use Rattle.store_theorems.proofs.Nights as nights
use Rattle.store_theorems.proofs.Orders as orders
use Rattle.bc6_writer.proofs.Undone as fields
use Rattle.dds.proofs.Back as dds
use Rattle.probe_moves.proofs.Calls as moves
use Rattle.probe_put.proofs.Putting as put
use Rattle.pfm_floats.proofs.Exact as floats
use Rattle.pfm.proofs.Places as pfm
use Rattle.exr.specs.File.{pattern_at}
use Rattle.exr.proofs.Places as exr
use Rattle.probe.proofs.Orders as probe
use Rattle.probe_places.specs.Places.{place_in}
use Rattle.probe_open.proofs.Asking as opening
use Rattle.probe_build.proofs.Shown as build
use Rattle.demands.specs.Named.{Named, NamedBlocks}
use Rattle.demands.specs.Demands.{Demand2, BlockByBlock, Bc7ByBlock, Demand3, WiderDemand3, CleanUp, BlockAgain, RecordAgain, FileAgain, OldAgain, NewAgain, FloatExact, PixelWritten, PatternWritten, PlaceAlone, OpenedOnce, AnyOrder, ProbeBuilt}

-- what `block_pixels` leaves of a block where it is done
module _ {block : List ℕ} {format : ℕ} {lent after : List ℕ} {r : Pixels} (p : Painted block format lent r after) where
  unrefused : r.answer ≡ done → refusal_of format (length block) (length lent) ≡ done
  unrefused z = sym (pixels.answered p) ∙ z

  shown : r.answer ≡ done → take value_count after ≡ pixels_of (is_signed format) block
  shown z =
      ap (take value_count) (pixels.written p (unrefused z))
      ∙ take_at (pixels_of (is_signed format) block) (drop value_count lent) value_count (length_pixels (is_signed format) block)

  rest : r.answer ≡ done → drop value_count after ≡ drop value_count lent
  rest z =
      ap (drop value_count) (pixels.written p (unrefused z))
      ∙ drop_at (pixels_of (is_signed format) block) (drop value_count lent) value_count (length_pixels (is_signed format) block)

pub demand2 : Demand2
demand2 block format lent after r size known room p =
    let z : r.answer ≡ done = pixels.answered p ∙ pixels.done_when format (length block) (length lent) known size room in
    (z, (shown p z, rest p z))

-- a row of the table, from what the definition says of it
named_row : (row : Row) → Shown row → Named row
named_row row s lent after r room p =
    let d = demand2 row.bytes (format_number row.signed) lent after r s.whole (number_le row.signed) room p in
    let mode : r.mode ≡ mode_of row.bytes =
    ap (λ (x : Pixels). x.mode) (p.answers ∙ ap (λ (n : ℕ). answer_at n row.bytes (format_number row.signed)) (unrefused p d.0)) in
    (d.0, (mode ∙ s.mode-is, d.1.0 ∙ ap (λ (b : Bool). pixels_of b row.bytes) (signed_again row.signed) ∙ s.values))

pub named_blocks_lem : NamedBlocks
named_blocks_lem = each_so Shown Named named_row named_blocks named_shown

run_number : (n : ℕ) (blocks : List ℕ) (format : ℕ) → (run.run_answer n blocks format).answer ≡ n
run_number zero blocks format = refl
run_number (suc n) blocks format = refl

pub block_by_block : BlockByBlock
block_by_block blocks format lent after r p z n h room left s q y =
    runs.in_turn p (sym (ap (λ (x : BlocksPixels). x.answer) p.answers ∙ run_number _ blocks format) ∙ z) n h q (unrefused q y)

bc7_run_number : (n : ℕ) (blocks : List ℕ) → (bc7-run.run_answer n blocks).answer ≡ n
bc7_run_number zero blocks = refl
bc7_run_number (suc n) blocks = refl

pub bc7_by_block : Bc7ByBlock
bc7_by_block blocks lent after r p z n h room left s q y =
    bc7-runs.in_turn p (sym (ap (λ (x : Bc7BlocksPixels). x.answer) p.answers ∙ bc7_run_number _ blocks) ∙ z) n h q (sym (bc7-calls.answered q) ∙ y)

pub demand3 : Demand3
demand3 x y a b m d lent room after left r s p q z w e = copies.demand3 x y a b m d (sym (shown p z) ∙ e ∙ shown q w)

pub wider_demand3 : WiderDemand3
wider_demand3 format other x y a b m lent room after left r s p q z w e = wide.copies format other x y a b m (sym (shown p z) ∙ e ∙ shown q w)

pub clean_up : CleanUp
clean_up = record {
  each_has_one = clean.each_has_one;
  only_those = clean.only_those;
  stays_in_order = clean.stays_in_order;
  none_lost = clean.none_lost;
  clean_again = clean.clean_again;
  taken = restore.taken;
  undone = restore.undone;
  no_tile_lost = restore.no_tile_lost;
  every_picture_shown = pictures.every_picture_shown;
  faulty_stay = pictures.faulty_stay;
  appended = growing.appended;
  nightly = nights.nightly;
  alike_is_equivalence = orders.alike_is_equivalence;
  same_kept = orders.same_kept;
}

pub block_again : BlockAgain
block_again block format b k m read x lent after r l w = fields.block_again block format b k m x l w

pub record_again : RecordAgain
record_again f v lent after r l w read x = fields.record_again f v l w x

pub file_again : FileAgain
file_again blocks format width height lent after r w z s part q p = (dds.reads_back w z q, dds.blocks_back w z p)

pub old_again : OldAgain
old_again old lent after room back r q d z l b = moves.old_again old d z l b

pub new_again : NewAgain
new_again new lent after room back r q d z l b = moves.new_again new d z l b

pub float_exact : FloatExact
float_exact = floats.float_exact

pub pixel_written : PixelWritten
pixel_written blocks format width height lent after r p z x y hx hy = pfm.pixel_written p z x y hx hy

pub pattern_written : PatternWritten
unfolding pattern_at
pattern_written blocks format width height lent after r p z x y channel hx hy hc = exr.pixel_written p z x y channel hx hy hc

pub place_alone : PlaceAlone
place_alone store n p lent after r hc hr d z =
    let front = put.put_front store n p d z in
    let k = put.put_known store n p d z in (
      ap (λ (s : List ℕ). place_in s n) front ∙ put.place_is store n p k.inside hc hr,
      λ j h. ap (λ (s : List ℕ). get_or s j 0) front ∙ put.others_stay store n p j h,
    )

pub opened_once : OpenedOnce
opened_once store edge lent table opened d z face x y r q t a = (opening.opened_same d z face x y t).answers ∙ sym a.answers

pub any_order : AnyOrder
any_order store other o edge face x y r q a b z = probe.done_ordered o a b z

pub probe_built : ProbeBuilt
probe_built = build.build_shows
