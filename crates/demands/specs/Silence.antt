-- S-1: a refusal has one number, its counts are zero, and it writes nothing. One statement, and a line for each call that can refuse. Assumes
-- nothing.
use Rattle.std.specs.Prelude.{◌≡◌, true, false, List, [], ◌∷◌, ℕ, get_or, Result}
use Rattle.bc6h_spec.specs.declared.Fields.{Fields}
use Rattle.bcn_spec.specs.Answers.{done}
use Rattle.bc6_numbers.specs.Numbers.{numbers_of}
use Rattle.bc6.specs.Call.{Pixels}
use Rattle.bc6.specs.Call.{Painted}
use Rattle.bc6_blocks.specs.Run.{BlocksPixels}
use Rattle.bc6_blocks.specs.Run.{RunPainted}
use Rattle.bc6_image.specs.Face.{FacePixels}
use Rattle.bc6_image.specs.Face.{ImagePainted}
use Rattle.bc6_fields.specs.Call.{FieldsRead}
use Rattle.bc6_fields.specs.Call.{Extracted}
use Rattle.bc6_writer.specs.Call as writer
use Rattle.bc6_palette.specs.Call.{FieldsShown}
use Rattle.bc7.specs.Call.{Bc7Pixels}
use Rattle.bc7.specs.Call as bc7
use Rattle.bc7_blocks.specs.Run.{Bc7BlocksPixels}
use Rattle.bc7_blocks.specs.Run as bc7-run
use Rattle.bcn_spec.specs.declared.Refusal.{Refusal}
use Rattle.bcn_spec.specs.Refusals.{answer_of}
use Rattle.store_records.specs.declared.Record.{Record}
use Rattle.store_records.specs.Store as records
use Rattle.store_spec.specs.declared.TwinList.{TwinList}
use Rattle.store_spec.specs.Twins.{Listed, ListedIn}
use Rattle.store_twins.specs.Strict.{StrictlyListed}
use Rattle.store_clean.specs.declared.Cleaned.{Cleaned}
use Rattle.store_clean.specs.Clean.{CleanedInto}
use Rattle.store_receipt.specs.Receipt.{ReceiptInto}
use Rattle.store_restore.specs.declared.Restored.{Restored}
use Rattle.store_restore.specs.Restore.{RestoredInto}
use Rattle.probe_places.specs.declared.Fault.{Fault}
use Rattle.probe_places.specs.declared.Place.{Place}
use Rattle.probe_places.specs.declared.PlacedReading.{PlacedReading}
use Rattle.probe_places.specs.Readings as placed
use Rattle.probe_moves.specs.declared.Moved.{Moved}
use Rattle.probe_moves.specs.Moves.{PlacedStore, UnplacedStore}
use Rattle.probe_put.specs.Put.{PlacePut}
use Rattle.probe.specs.declared.ProbePixel.{ProbePixel}
use Rattle.probe.specs.Probe.{Asked, probe_fault, triple_in}
use Rattle.probe_faces.specs.Face as faces
use Rattle.probe_open.specs.Open.{Opened, TablePixel}
use Rattle.probe_build.specs.declared.Built.{Built}
use Rattle.probe_build.specs.Building.{BuiltTo}
use Rattle.dds.specs.declared.DdsRead.{DdsRead}
use Rattle.dds.specs.declared.DdsWritten.{DdsWritten}
use Rattle.dds.specs.Dds.{bc6h_first, bc7_first, HeadRead, FileRead, FileReadAs, FirstRead, BlocksRead, BlocksReadAs, FirstBlocks, FileWritten}
use Rattle.pfm.specs.declared.PfmWritten.{PfmWritten}
use Rattle.pfm.specs.File.{PictureWritten}
use Rattle.exr.specs.declared.ExrWritten.{ExrWritten}
use Rattle.exr.specs.File as exr

-- S-1: unless the call is done, each of its counts is zero and each lent place is as it was.
pub record Silent (number : ℕ) (counts : List ℕ) (lent after : List (List ℕ)) : Type 0 where
  pub zeros : (number ≡ done → ⊥) → (k : ℕ) → get_or counts k 0 ≡ 0
  pub unchanged : (number ≡ done → ⊥) → after ≡ lent

-- S-1: of every call that can refuse. A field is named as the call is; a call that lends nothing has no place.
pub record Demand1 : Type 0 where
  pub block_pixels : {b o a : List ℕ} {f : ℕ} {r : Pixels} → Painted b f o r a → Silent r.answer (r.mode ∷ r.infinite ∷ []) (o ∷ []) (a ∷ [])
  pub blocks_pixels : {b o a : List ℕ} {f : ℕ} {r : BlocksPixels} → RunPainted b f o r a → Silent r.answer (r.blocks ∷ r.infinite ∷ []) (o ∷ []) (a ∷ [])
  pub face_pixels : {b o a : List ℕ} {w h f p : ℕ} {r : FacePixels} → ImagePainted false b w h f o p r a → Silent r.answer (r.infinite ∷ []) (o ∷ []) (a ∷ [])
  pub face_rgba : {b o a : List ℕ} {w h f p : ℕ} {r : FacePixels} → ImagePainted true b w h f o p r a → Silent r.answer (r.infinite ∷ []) (o ∷ []) (a ∷ [])
  pub block_fields : {b : List ℕ} {f : ℕ} {r : FieldsRead} → Extracted b f r → Silent r.answer (numbers_of r.fields) [] []
  pub write_block : {f : Fields} {o a : List ℕ} {r : ℕ} → writer.BlockWritten f o r a → Silent r [] (o ∷ []) (a ∷ [])
  pub fields_pixels : {f : Fields} {o a : List ℕ} {r : ℕ} → FieldsShown f o r a → Silent r [] (o ∷ []) (a ∷ [])
  pub record_at : {s : List ℕ} {n : ℕ} {r : Result Record Refusal} → records.RecordRead s n r → Silent (answer_of r) (records.values_of r) [] []
  pub record_block : (s : List ℕ) (n : ℕ) → Silent (records.record_refusal s n) (records.part_at (records.record_refusal s n) s n) [] []
  pub twin_list : {s m a : List ℕ} {r : TwinList} → Listed s m r a → Silent r.answer (r.kept ∷ r.twins ∷ r.bad ∷ []) (m ∷ []) (a ∷ [])
  pub twin_list_in : {s m w a b : List ℕ} {r : TwinList} → ListedIn s m w r a b → Silent r.answer (r.kept ∷ r.twins ∷ r.bad ∷ []) (m ∷ w ∷ []) (a ∷ b ∷ [])
  pub strict_twin_list : {s m a : List ℕ} {r : TwinList} → StrictlyListed s m r a → Silent r.answer (r.kept ∷ r.twins ∷ r.bad ∷ []) (m ∷ []) (a ∷ [])
  pub clean_store : {s o a : List ℕ} {r : Cleaned} → CleanedInto s o r a → Silent r.answer (r.kept ∷ r.removed ∷ []) (o ∷ []) (a ∷ [])
  pub clean_with_receipt : {s o p a w : List ℕ} {r : Cleaned} → ReceiptInto s o p r a w → Silent r.answer (r.kept ∷ r.removed ∷ []) (o ∷ p ∷ []) (a ∷ w ∷ [])
  pub restore_store : {c p o a : List ℕ} {r : Restored} → RestoredInto c p o r a → Silent r.answer (r.records ∷ []) (o ∷ []) (a ∷ [])
  pub placed_record_at : {s : List ℕ} {n : ℕ} {r : PlacedReading} → placed.PlacedRead s n r → Silent (placed.placed_number r) (placed.values_of r) [] []
  pub placed_record_block : (s : List ℕ) (n : ℕ) → Silent (placed.placed_refusal s n) (placed.placed_part (placed.placed_refusal s n) s n) [] []
  pub place_store : (s : List ℕ) {o a : List ℕ} {r : Moved} → PlacedStore s o r a → Silent r.answer (r.records ∷ []) (o ∷ []) (a ∷ [])
  pub unplace_store : (s : List ℕ) {o a : List ℕ} {r : Moved} → UnplacedStore s o r a → Silent r.answer (r.records ∷ []) (o ∷ []) (a ∷ [])
  pub put_place : (s : List ℕ) (n : ℕ) (p : Place) {o a : List ℕ} {r : Moved} → PlacePut s n p o r a → Silent r.answer (r.records ∷ []) (o ∷ []) (a ∷ [])
  pub probe_pixel : {s : List ℕ} {e f x y : ℕ} {r : ProbePixel} → Asked s e f x y r → Silent r.answer (triple_in r) [] []
  pub probe_check : (s : List ℕ) (e : ℕ) {r : Fault} → r ≡ probe_fault s e → Silent r.answer [] [] []
  pub probe_face : {s o a : List ℕ} {e f : ℕ} {r : Fault} → faces.FacePainted s e f o r a → Silent r.answer [] (o ∷ []) (a ∷ [])
  pub probe_open : {s o a : List ℕ} {e : ℕ} {r : Fault} → Opened s e o r a → Silent r.answer [] (o ∷ []) (a ∷ [])
  pub probe_pixel_in : {s t : List ℕ} {e f x y : ℕ} {r : ProbePixel} → TablePixel s t e f x y r → Silent r.answer (triple_in r) [] []
  pub probe_build : {b o a : List ℕ} {f e t : ℕ} {r : Built} → BuiltTo b f e t o r a → Silent r.answer (r.records ∷ []) (o ∷ []) (a ∷ [])
  pub dds_head : {f : List ℕ} {r : DdsRead} → HeadRead f r → Silent r.answer (r.width ∷ r.height ∷ r.format ∷ []) [] []
  pub dds_read : {f : List ℕ} {r : DdsRead} → FileRead f r → Silent r.answer (r.width ∷ r.height ∷ r.format ∷ []) [] []
  pub dds_blocks : {f p : List ℕ} {r : DdsRead} → FileRead f r → BlocksRead f p → Silent r.answer p [] []
  pub bc7_dds_read : {f : List ℕ} {r : DdsRead} → FileReadAs bc7_first f r → Silent r.answer (r.width ∷ r.height ∷ r.format ∷ []) [] []
  pub bc7_dds_blocks : {f p : List ℕ} {r : DdsRead} → FileReadAs bc7_first f r → BlocksReadAs bc7_first f p → Silent r.answer p [] []
  pub dds_first_level : {f : List ℕ} {r : DdsRead} → FirstRead bc6h_first f r → Silent r.answer (r.width ∷ r.height ∷ r.format ∷ []) [] []
  pub dds_first_blocks : {f p : List ℕ} {r : DdsRead} → FirstRead bc6h_first f r → FirstBlocks bc6h_first f p → Silent r.answer p [] []
  pub bc7_dds_first_level : {f : List ℕ} {r : DdsRead} → FirstRead bc7_first f r → Silent r.answer (r.width ∷ r.height ∷ r.format ∷ []) [] []
  pub bc7_dds_first_blocks : {f p : List ℕ} {r : DdsRead} → FirstRead bc7_first f r → FirstBlocks bc7_first f p → Silent r.answer p [] []
  pub dds_write : {b o a : List ℕ} {f w h : ℕ} {r : DdsWritten} → FileWritten b f w h o r a → Silent r.answer (r.length ∷ []) (o ∷ []) (a ∷ [])
  pub pfm_write : {b o a : List ℕ} {f w h : ℕ} {r : PfmWritten} → PictureWritten b f w h o r a → Silent r.answer (r.length ∷ []) (o ∷ []) (a ∷ [])
  pub exr_write : {b o a : List ℕ} {f w h : ℕ} {r : ExrWritten} → exr.PictureWritten b f w h o r a → Silent r.answer (r.bytes ∷ []) (o ∷ []) (a ∷ [])
  pub bc7_pixels : {b o a : List ℕ} {r : Bc7Pixels} → bc7.Painted b o r a → Silent r.answer (r.mode ∷ []) (o ∷ []) (a ∷ [])
  pub bc7_blocks_pixels : {b o a : List ℕ} {r : Bc7BlocksPixels} → bc7-run.RunPainted b o r a → Silent r.answer (r.blocks ∷ []) (o ∷ []) (a ∷ [])
