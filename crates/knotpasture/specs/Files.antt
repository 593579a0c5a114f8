-- S-62 to S-64, S-86, S-87, S-92, S-94, S-95: what the exports over DDS files, Portable Float Maps and OpenEXR files answer: the calls' own answers, packed into
-- one word. Assumes nothing.
use Rattle.std.specs.Prelude.{◌≡◌, List, ℕ, zero, suc, ◌+◌, ◌*◌, length}
use Rattle.dds.specs.declared.DdsRead.{DdsRead}
use Rattle.dds.specs.declared.DdsWritten.{DdsWritten}
use Rattle.dds.specs.Dds.{header_size, head_refusal, read_refusal, read_refusal_as, first_refusal, read_at, read_as}
use Rattle.dds.specs.Dds as dds
use Rattle.pfm.specs.declared.PfmWritten.{PfmWritten}
use Rattle.pfm.specs.File as pfm
use Rattle.exr.specs.declared.ExrWritten.{ExrWritten}
use Rattle.exr.specs.File as exr

-- S-62, S-86, S-87: the number in the low byte, the format in bits 8 to 15, the width in bits 16 to 31, the height in bits 32 to 47
abbrev pub read_word : DdsRead → ℕ
read_word r = r.answer + r.format * 0x100 + r.width * 0x10000 + r.height * 0x100000000

-- S-62, S-86, S-87: the two reading calls: the answer in one word.
pub record HeadCalled (file : List ℕ) (r : ℕ) : Type 0 where
  pub answers : r ≡ read_word (read_at (head_refusal file) file)

pub record ReadCalled (file : List ℕ) (r : ℕ) : Type 0 where
  pub answers : r ≡ read_word (read_at (read_refusal file) file)

-- S-94, S-87: a file of one level, of the two DXGI formats from `first` on.
abbrev pub read_word_as : ℕ → List ℕ → ℕ
read_word_as first file = read_word (read_as first (read_refusal_as first file) file)

-- S-95, S-87: a file with mip levels.
abbrev pub first_word_as : ℕ → List ℕ → ℕ
first_word_as first file = read_word (read_as first (first_refusal first file) file)

-- S-62, S-94, S-95, S-87: where in the file the blocks start; 0 for a refusal
abbrev pub start_at : ℕ → ℕ
start_at zero = header_size
start_at (suc number) = 0

pub record BlocksCalled (file : List ℕ) (r : ℕ) : Type 0 where
  pub answers : r ≡ start_at (read_refusal file)

-- S-63, S-64, S-87: the number in the low byte, the length above it
abbrev pub length_word : ℕ → ℕ → ℕ
length_word answer length = answer + length * 0x100

abbrev pub dds_word : DdsWritten → ℕ
dds_word r = length_word r.answer r.length

-- S-63, S-87: the call that writes a DDS file: the answer in one word, and the lent bytes as the call leaves them.
pub record DdsWriteCalled (blocks : List ℕ) (format width height : ℕ) (out : List ℕ) (r : ℕ) (after : List ℕ) : Type 0 where
  pub answers : r ≡ dds_word (dds.written_at (dds.write_refusal (length blocks) format width height (length out)) blocks)
  pub holds : after ≡ dds.left_at (dds.write_refusal (length blocks) format width height (length out)) blocks format width height out

-- S-64, S-87: the same of a Portable Float Map
abbrev pub pfm_word : PfmWritten → ℕ
pfm_word r = length_word r.answer r.length

-- The call that writes a Portable Float Map: the answer in one word, and the lent bytes as the call leaves them.
pub record PfmWriteCalled (blocks : List ℕ) (format width height : ℕ) (out : List ℕ) (r : ℕ) (after : List ℕ) : Type 0 where
  pub answers : r ≡ pfm_word (pfm.written_at (pfm.write_refusal (length blocks) format width height (length out)) width height)
  pub holds : after ≡ pfm.left_at (pfm.write_refusal (length blocks) format width height (length out)) blocks format width height out

-- S-92, S-87: the same of an OpenEXR file
abbrev pub exr_word : ExrWritten → ℕ
exr_word r = length_word r.answer r.bytes

-- The call that writes an OpenEXR file: the answer in one word, and the lent bytes as the call leaves them.
pub record ExrWriteCalled (blocks : List ℕ) (format width height : ℕ) (out : List ℕ) (r : ℕ) (after : List ℕ) : Type 0 where
  pub answers : r ≡ exr_word (exr.written_at (exr.write_refusal (length blocks) format width height (length out)) width height)
  pub holds : after ≡ exr.left_at (exr.write_refusal (length blocks) format width height (length out)) blocks format width height out
