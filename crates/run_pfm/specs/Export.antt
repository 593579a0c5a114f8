-- S-65: a DDS file of at most 64 by 64 pixels as a Portable Float Map. Assumes nothing.
use Rattle.std.specs.Prelude.{◌≡◌, Bool, not, List, [], ◌∷◌, ℕ, ◌+◌, eqb, leb, ltb, length, drop}
use Rattle.laws.specs.Pick.{both}
use Rattle.laws.specs.Checks.{first_met}
use Rattle.bcn_spec.specs.Answers.{short_output, foreign_header, bad_size, blocks_misfit, uneven_size}
use Rattle.dds.specs.Dds.{header_size, header_ours, size_ours, block_bytes, width_of, height_of, dds_format}
use Rattle.pfm.specs.declared.PfmWritten.{PfmWritten}
use Rattle.pfm.specs.File.{size_writable, file_length, written_at, left_at}

-- S-65: at most 64 by 64 pixels.
abbrev pub small_limit : ℕ
small_limit = 64

unfoldable pub size_small : ℕ → ℕ → Bool
size_small width height = both (leb width small_limit) (leb height small_limit)

-- S-65: 13, 14 (also for a larger picture, by its header), 15, 16; and last the room that is lent.
abbrev pub export_checks : List ℕ → ℕ → List (Bool × ℕ)
export_checks file room =
    (not (header_ours file), foreign_header) ∷
    (not (both (size_ours (width_of file) (height_of file)) (size_small (width_of file) (height_of file))), bad_size) ∷
    (not (eqb (length file) (header_size + block_bytes (width_of file) (height_of file))), blocks_misfit) ∷
    (not (size_writable (width_of file) (height_of file)), uneven_size) ∷ (ltb room (file_length (width_of file) (height_of file)), short_output) ∷ []

unfoldable pub export_refusal : List ℕ → ℕ → ℕ
export_refusal file room = first_met (export_checks file room)

-- The statement of `export`: its answer r, and the lent bytes `after`, which are the picture's file where it is done.
pub record Exported (file out : List ℕ) (r : PfmWritten) (after : List ℕ) : Type 0 where
  pub answers : r ≡ written_at (export_refusal file (length out)) (width_of file) (height_of file)
  pub holds : after ≡ left_at (export_refusal file (length out)) (drop header_size file) (dds_format file) (width_of file) (height_of file) out
