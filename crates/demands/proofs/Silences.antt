-- Every call that can refuse is silent when it does. Assumes nothing.
use mathlib.Core.Path.{◌≡◌, refl, ap, ap₂, ◌∙◌}
use mathlib.Core.Bool.{Bool, true, false}
use mathlib.Core.List.{List, [], ◌∷◌}
use Prim.Native.Nat.{ℕ, zero, suc, ◌+◌, ◌-◌, ◌*◌, ◌%◌}
use lib.ListN.{length, get_or, replicate}
use Rattle.laws.specs.Made.{made}
use Rattle.laws.specs.Checks.{left_by}
use Rattle.bcn_spec.specs.Answers.{done}
use Rattle.bc6h_spec.specs.Fields.{no_fields, mode_of}
use Rattle.bc6_numbers.specs.Numbers.{number_at, numbers_of}
use Rattle.bc6.specs.Call as pixels
use Rattle.bc6_blocks.specs.Run as run
use Rattle.bc6_image.specs.Face.{FacePixels}
use Rattle.bc6_image.specs.Face as face
use Rattle.bc6_fields.specs.Call as fields
use Rattle.bc6_writer.specs.Call as writer
use Rattle.bc6_palette.specs.Call as palette
use Rattle.bc7.specs.Call as bc7
use Rattle.bc7_blocks.specs.Run as bc7-run
use Rattle.store_records.specs.Store as records
use Rattle.store_spec.specs.declared.TwinList.{TwinList}
use Rattle.store_spec.specs.Twins as twins
use Rattle.store_twins.specs.Strict as strict
use Rattle.store_clean.specs.Clean as clean
use Rattle.store_receipt.specs.Receipt as receipt
use Rattle.store_restore.specs.Restore as restore
use Rattle.probe_places.specs.Places.{places_in}
use Rattle.probe_places.specs.Readings as placed
use Rattle.probe_moves.specs.declared.Moved.{Moved}
use Rattle.probe_moves.specs.Moves as moves
use Rattle.probe_put.specs.Put as put
use Rattle.probe_places.specs.declared.Fault.{Fault}
use Rattle.probe.specs.declared.ProbePixel.{ProbePixel}
use Rattle.probe.specs.Probe as probe
use Rattle.probe_faces.specs.Face as faces
use Rattle.probe_open.specs.Open as table
use Rattle.probe_build.specs.Building as building
use Rattle.dds.specs.declared.DdsRead.{DdsRead}
use Rattle.dds.specs.Dds as dds
use Rattle.pfm.specs.File as pfm
use Rattle.exr.specs.File as exr
use Rattle.demands.specs.Silence.{Silent, Demand1}

-- all numbers of a list are zero
abbrev Zeros : List ℕ → Type 0
Zeros l = (k : ℕ) → get_or l k 0 ≡ 0

zeros : (m : ℕ) → Zeros (replicate m 0)
zeros zero k = refl
zeros (suc m) zero = refl
zeros (suc m) (suc k) = zeros m k

-- One law for every call: its result and what it leaves are functions of a number. At zero it is done; at another number every count is zero
-- and it leaves what was lent.
silent_by : {R : Type 0} (result : ℕ → R) (leaves : ℕ → List (List ℕ)) (number : R → ℕ) (counts : R → List ℕ) (lent : List (List ℕ))
    → number (result zero) ≡ done → ((n : ℕ) → Zeros (counts (result (suc n)))) → ((n : ℕ) → leaves (suc n) ≡ lent)
    → (n : ℕ) {r : R} {after : List (List ℕ)} → r ≡ result n → after ≡ leaves n → Silent (number r) (counts r) lent after
silent_by result leaves number counts lent d z u zero e f = record {
  zeros = λ no. absurd (no (ap number e ∙ d));
  unchanged = λ no. absurd (no (ap number e ∙ d));
}
silent_by result leaves number counts lent d z u (suc n) e f = record {
  zeros = λ no k. ap (λ (x : List ℕ). get_or x k 0) (ap counts e) ∙ z n k;
  unchanged = λ no. f ∙ u n;
}

-- a call that lends one place, and one that lends none
module _ {R : Type 0} (result : ℕ → R) (number : R → ℕ) (counts : R → List ℕ)
    (d : number (result zero) ≡ done) (z : (n : ℕ) → Zeros (counts (result (suc n)))) where
  silent_one : (leaves : ℕ → List ℕ) (lent : List ℕ) → ((n : ℕ) → leaves (suc n) ≡ lent)
      → (n : ℕ) {r : R} {after : List ℕ} → r ≡ result n → after ≡ leaves n → Silent (number r) (counts r) (lent ∷ []) (after ∷ [])
  silent_one leaves lent u n e f =
      silent_by result (λ k. leaves k ∷ []) number counts (lent ∷ []) d z (λ k. ap (λ (l : List ℕ). l ∷ []) (u k)) n e (ap (λ (l : List ℕ). l ∷ []) f)

  silent_none : (n : ℕ) {r : R} → r ≡ result n → Silent (number r) (counts r) [] []
  silent_none n e = silent_by result (λ k. []) number counts [] d z (λ k. refl) n e refl

-- numbers that a refusal has none of
silent_values : (values : ℕ → List ℕ) → ((n : ℕ) → values (suc n) ≡ []) → (n : ℕ) {m : ℕ} {l : List ℕ} → m ≡ n → l ≡ values n → Silent m l [] []
silent_values values none zero e f = record { zeros = λ no. absurd (no e); unchanged = λ no. refl }
silent_values values none (suc n) e f = record { zeros = λ no k. ap (λ (x : List ℕ). get_or x k 0) (f ∙ none n); unchanged = λ no. refl }

-- the field record of a refusal
all_zero : numbers_of no_fields ≡ replicate 32 0
unfolding numbers_of number_at made
all_zero = refl

no_numbers : (k : ℕ) → get_or (numbers_of no_fields) k 0 ≡ 0
no_numbers k = ap (λ (l : List ℕ). get_or l k 0) all_zero ∙ zeros 32 k

-- a pixel of a probe: the store's refusal first, then the question's
probed : (n faulty question : ℕ) (triple : List ℕ) {r : ProbePixel} → r ≡ probe.probed_at n faulty question triple
    → Silent r.answer (probe.triple_in r) [] []
probed zero faulty question triple e =
    silent_none (λ k. probe.probed_at 0 faulty k triple) (λ r. r.answer) probe.triple_in refl (λ n. zeros 3) question e
probed (suc n) faulty question triple e = record { zeros = λ no k. ap (λ (x : ProbePixel). get_or (probe.triple_in x) k 0) e ∙ zeros 3 k; unchanged = λ no. refl }

-- what was read of a DDS file, of the two formats from `first` on, and a part of the file
dds_number : (first n : ℕ) (file : List ℕ) → (dds.read_as first n file).answer ≡ n
dds_number first zero file = refl
dds_number first (suc n) file = refl

dds_told : (first : ℕ) (file : List ℕ) (n : ℕ) {r : DdsRead} → r ≡ dds.read_as first n file → Silent r.answer (r.width ∷ r.height ∷ r.format ∷ []) [] []
dds_told first file = silent_none (λ n. dds.read_as first n file) (λ r. r.answer) (λ r. r.width ∷ r.height ∷ r.format ∷ []) refl (λ n. zeros 3)

dds_part : (first : ℕ) (file : List ℕ) (part : ℕ → List ℕ) → ((n : ℕ) → part (suc n) ≡ []) → (n : ℕ) {r : DdsRead} {p : List ℕ} → r ≡ dds.read_as first n file
    → p ≡ part n → Silent r.answer p [] []
dds_part first file part none n d e = silent_values part none n (ap (λ (r : DdsRead). r.answer) d ∙ dds_number first n file) e

moved : (fault : Fault) (count : ℕ) (store lent : List ℕ) {r : Moved} {after : List ℕ} → moves.MovedTo fault count store lent r after
    → Silent r.answer (r.records ∷ []) (lent ∷ []) (after ∷ [])
moved fault count store lent p =
    silent_one (λ n. moves.moved_at n fault.faulty count) (λ r. r.answer) (λ r. r.records ∷ []) refl (λ n. zeros 1)
    (λ n. left_by n store lent) lent (λ n. refl) fault.answer p.answers p.holds

faced : (alpha : Bool) (b o : List ℕ) (w h f p : ℕ) {r : FacePixels} {a : List ℕ} → face.ImagePainted alpha b w h f o p r a
    → Silent r.answer (r.infinite ∷ []) (o ∷ []) (a ∷ [])
faced alpha b o w h f p d =
    silent_one (λ n. face.image_answer n b f) (λ r. r.answer) (λ r. r.infinite ∷ []) refl (λ n. zeros 1)
    (λ n. face.image_values n alpha b f w h p o) o (λ n. refl) (face.image_refusal alpha (length b) f w h p (length o)) d.answers d.holds

-- what a twin list leaves by its number
listed : (s m : List ℕ) (n : ℕ) {r : TwinList} {a : List ℕ} → r ≡ twins.answer_at n s → a ≡ twins.marks_at n s m
    → Silent r.answer (r.kept ∷ r.twins ∷ r.bad ∷ []) (m ∷ []) (a ∷ [])
listed s m =
    silent_one (λ n. twins.answer_at n s) (λ r. r.answer) (λ r. r.kept ∷ r.twins ∷ r.bad ∷ []) refl (λ n. zeros 3) (λ n. twins.marks_at n s m) m (λ n. refl)

two : {a b c d : List ℕ} → a ≡ b → c ≡ d → a ∷ c ∷ [] ≡ b ∷ d ∷ []
two e f = ap₂ (λ (x y : List ℕ). x ∷ y ∷ []) e f

pub demand1 : Demand1
demand1 = record {
  block_pixels = λ {b} {o} {a} {f} p.
      silent_one (λ n. pixels.answer_at n b f) (λ r. r.answer) (λ r. r.mode ∷ r.infinite ∷ []) refl (λ n. zeros 2)
      (λ n. pixels.values_at n b f o) o (λ n. refl) (pixels.refusal_of f (length b) (length o)) p.answers p.holds;
  blocks_pixels = λ {b} {o} {a} {f} p.
      silent_one (λ n. run.run_answer n b f) (λ r. r.answer) (λ r. r.blocks ∷ r.infinite ∷ []) refl (λ n. zeros 2)
      (λ n. run.run_values n b f o) o (λ n. refl) (run.run_refusal f (length b) (length o)) p.answers p.holds;
  face_pixels = λ {b} {o} {a} {w} {h} {f} {p} d. faced false b o w h f p d;
  face_rgba = λ {b} {o} {a} {w} {h} {f} {p} d. faced true b o w h f p d;
  block_fields = λ {b} {f} p.
      silent_none (λ n. fields.answer_at n f b) (λ r. r.answer) (λ r. numbers_of r.fields) refl (λ n. no_numbers)
      (fields.refusal_of f (length b) (mode_of b)) p.answers;
  write_block = λ {f} {o} p.
      silent_one (λ n. n) (λ r. r) (λ r. []) refl (λ n. zeros 0) (λ n. writer.bytes_at n f o) o (λ n. refl) (writer.refusal_of f (length o)) p.answers p.holds;
  fields_pixels = λ {f} {o} p.
      silent_one (λ n. n) (λ r. r) (λ r. []) refl (λ n. zeros 0) (λ n. palette.values_at n f o) o (λ n. refl) (palette.refusal_of f (length o)) p.answers p.holds;
  record_at = λ {s} {n} p. silent_values (λ k. records.values_at k s n) (λ k. refl) (records.record_refusal s n) p.answers p.gives;
  record_block = λ s n. silent_values (λ k. records.part_at k s n) (λ k. refl) (records.record_refusal s n) refl refl;
  twin_list = λ {s} {m} p. listed s m (twins.list_refusal (length s) (length m)) p.answers p.holds;
  twin_list_in = λ {s} {m} {w} p.
      silent_by (λ n. twins.answer_at n s) (λ n. twins.marks_at n s m ∷ twins.scratch_at n s w ∷ []) (λ r. r.answer) (λ r. r.kept ∷ r.twins ∷ r.bad ∷ []) (m ∷ w ∷ [])
      refl (λ n. zeros 3) (λ n. refl) (twins.scratch_refusal (length s) (length m) (length w)) p.answers (two p.holds p.leaves);
  strict_twin_list = λ {s} {m} p. listed s m (strict.strict_refusal s (length m)) p.answers p.holds;
  clean_store = λ {s} {o} p.
      silent_one (λ n. clean.answer_at n s) (λ r. r.answer) (λ r. r.kept ∷ r.removed ∷ []) refl (λ n. zeros 2)
      (λ n. clean.bytes_at n s o) o (λ n. refl) (clean.clean_refusal (length s) (length o)) p.answers p.holds;
  clean_with_receipt = λ {s} {o} {p = q} p.
      silent_by (λ n. clean.answer_at n s) (λ n. clean.bytes_at n s o ∷ receipt.paper_at n s q ∷ []) (λ r. r.answer) (λ r. r.kept ∷ r.removed ∷ []) (o ∷ q ∷ [])
      refl (λ n. zeros 2) (λ n. refl) (receipt.receipt_refusal (length s) (length o) (length q)) p.answers (two p.holds p.tells);
  restore_store = λ {c} {p = q} {o} p.
      silent_one (λ n. restore.restored_at n (restore.total_of c q)) (λ r. r.answer) (λ r. r.records ∷ []) refl (λ n. zeros 1)
      (λ n. restore.bytes_at n c q o) o (λ n. refl) (restore.restore_refusal c q (length o)) p.answers p.holds;
  placed_record_at = λ {s} {n} p. silent_values (λ k. placed.values_at k s n) (λ k. refl) (placed.placed_refusal s n) p.answers p.gives;
  placed_record_block = λ s n. silent_values (λ k. placed.placed_part k s n) (λ k. refl) (placed.placed_refusal s n) refl refl;
  place_store = λ s {o} p. moved (moves.placing_fault s (length o)) (records.records_in s) (moves.placed_store s) o p;
  unplace_store = λ s {o} p. moved (moves.unplacing_fault s (length o)) (places_in s) (moves.old_store s) o p;
  put_place = λ s n p {o} d. moved (put.putting_fault s n p (length o)) (places_in s) (put.put_store s n p) o d;
  probe_pixel = λ {s} {e} {f} {x} {y} p.
      probed (probe.probe_fault s e).answer (probe.probe_fault s e).faulty (probe.question_refusal e f x y) (probe.triple_for s f x y) p.answers;
  probe_check = λ s e p. record { zeros = λ no k. refl; unchanged = λ no. refl };
  probe_face = λ {s} {o} {a} {e} {f} p.
      silent_one (λ n. n) (λ r. r) (λ r. []) refl (λ n. zeros 0) (λ n. left_by n (faces.face_of s e f) o) o (λ n. refl)
      (faces.face_fault s e f (length o)).answer (ap (λ (r : Fault). r.answer) p.answers) p.holds;
  probe_open = λ p. record { zeros = λ no k. refl; unchanged = λ no. ap (λ (l : List ℕ). l ∷ []) (p.silent no) };
  probe_pixel_in = λ {s} {t} {e} {f} {x} {y} p.
      silent_none (λ n. table.table_shown n (probe.triple_at s (table.holder_at t f x y - 1) (4 * (y % 4) + x % 4))) (λ r. r.answer) probe.triple_in
      refl (λ n. zeros 3) (table.table_refusal s t e f x y) p.answers;
  probe_build = λ {b} {o} {a} {f} {e} {t} p.
      silent_one (λ n. building.built_at n (building.record_count e)) (λ r. r.answer) (λ r. r.records ∷ []) refl (λ n. zeros 1)
      (λ n. left_by n (building.built_of b f e t) o) o (λ n. refl) (building.build_refusal (length b) f e (length o)) p.answers p.holds;
  dds_head = λ {f} p. dds_told dds.bc6h_first f (dds.head_refusal f) p.answers;
  dds_read = λ {f} p. dds_told dds.bc6h_first f (dds.read_refusal f) p.answers;
  dds_blocks = λ {f} p q. dds_part dds.bc6h_first f (λ k. dds.blocks_part k f) (λ k. refl) (dds.read_refusal f) p.answers q.gives;
  bc7_dds_read = λ {f} p. dds_told dds.bc7_first f (dds.read_refusal_as dds.bc7_first f) p.answers;
  bc7_dds_blocks = λ {f} p q. dds_part dds.bc7_first f (λ k. dds.blocks_part k f) (λ k. refl) (dds.read_refusal_as dds.bc7_first f) p.answers q.gives;
  dds_first_level = λ {f} p. dds_told dds.bc6h_first f (dds.first_refusal dds.bc6h_first f) p.answers;
  dds_first_blocks = λ {f} p q. dds_part dds.bc6h_first f (λ k. dds.first_at k f) (λ k. refl) (dds.first_refusal dds.bc6h_first f) p.answers q.gives;
  bc7_dds_first_level = λ {f} p. dds_told dds.bc7_first f (dds.first_refusal dds.bc7_first f) p.answers;
  bc7_dds_first_blocks = λ {f} p q. dds_part dds.bc7_first f (λ k. dds.first_at k f) (λ k. refl) (dds.first_refusal dds.bc7_first f) p.answers q.gives;
  dds_write = λ {b} {o} {a} {f} {w} {h} p.
      silent_one (λ n. dds.written_at n b) (λ r. r.answer) (λ r. r.length ∷ []) refl (λ n. zeros 1)
      (λ n. dds.left_at n b f w h o) o (λ n. refl) (dds.write_refusal (length b) f w h (length o)) p.answers p.holds;
  pfm_write = λ {b} {o} {a} {f} {w} {h} p.
      silent_one (λ n. pfm.written_at n w h) (λ r. r.answer) (λ r. r.length ∷ []) refl (λ n. zeros 1)
      (λ n. pfm.left_at n b f w h o) o (λ n. refl) (pfm.write_refusal (length b) f w h (length o)) p.answers p.holds;
  exr_write = λ {b} {o} {a} {f} {w} {h} p.
      silent_one (λ n. exr.written_at n w h) (λ r. r.answer) (λ r. r.bytes ∷ []) refl (λ n. zeros 1)
      (λ n. exr.left_at n b f w h o) o (λ n. refl) (exr.write_refusal (length b) f w h (length o)) p.answers p.holds;
  bc7_pixels = λ {b} {o} p.
      silent_one (λ n. bc7.answer_at n b) (λ r. r.answer) (λ r. r.mode ∷ []) refl (λ n. zeros 1)
      (λ n. bc7.bytes_at n b o) o (λ n. refl) (bc7.refusal_of (length b) (length o)) p.answers p.holds;
  bc7_blocks_pixels = λ {b} {o} p.
      silent_one (λ n. bc7-run.run_answer n b) (λ r. r.answer) (λ r. r.blocks ∷ []) refl (λ n. zeros 1)
      (λ n. bc7-run.run_bytes n b o) o (λ n. refl) (bc7-run.run_refusal (length b) (length o)) p.answers p.holds;
}
