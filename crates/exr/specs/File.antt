-- S-92: an OpenEXR file as a list of bytes, and what the writing call answers and leaves. Assumes nothing.
use Rattle.std.specs.Prelude.{◌≡◌, List, ◌++◌, ℕ, zero, suc, ◌+◌, ◌*◌, ◌/◌, ◌%◌, length, get_or, drop}
use Rattle.laws.specs.Pick.{pick}
use Rattle.laws.specs.Checks.{ifDone}
use Rattle.laws.specs.Made.{made, join}
use Rattle.laws.specs.Bit.{low_bytes}
use Rattle.bcn_spec.specs.Answers.{done}
use Rattle.bcn_spec.specs.Bits.{block_at}
use Rattle.bc6h_spec.specs.Picture.{is_signed}
use Rattle.bc6h_spec.specs.Block.{pixels_of}
use Rattle.pfm.specs.File.{size_writable, refusal_for}
use Rattle.exr_header.specs.Header.{front_of, front_length, line_length}
use Rattle.exr.specs.declared.ExrWritten.{ExrWritten}

-- ---- the file

-- One value of a pixel as it is: channel 0, 1 or 2 (red, green, blue) of pixel (x, y), row 0 on top, from blocks in row order, `across` a row.
unfoldable pub pattern_at : List ℕ → ℕ → ℕ → ℕ → ℕ → ℕ → ℕ
pattern_at blocks format across channel y x =
    get_or (pixels_of (is_signed format) (block_at blocks (y / 4 * across + x / 4))) (3 * (4 * (y % 4) + x % 4) + channel) 0

-- HALF: the pattern's two bytes, the low one first
unfoldable pub half_at : List ℕ → ℕ → ℕ → ℕ → ℕ → ℕ → List ℕ
half_at blocks format across channel y x = low_bytes 2 (pattern_at blocks format across channel y x)

-- one channel of line y of a picture that is `width` pixels wide, from the left
unfoldable pub channel_at : List ℕ → ℕ → ℕ → ℕ → ℕ → ℕ → List ℕ
channel_at blocks format across width channel y = join (made (half_at blocks format across channel y) width)

-- The values of line y. The channels come in the order of their names: all blue values, all green ones, all red ones.
abbrev pub values_at : List ℕ → ℕ → ℕ → ℕ → ℕ → List ℕ
values_at blocks format across width y =
    channel_at blocks format across width 2 y ++ (channel_at blocks format across width 1 y ++ channel_at blocks format across width 0 y)

-- Before the values of a line: its number, and how many bytes they have.
unfoldable pub head_of : ℕ → ℕ → List ℕ
head_of width y = low_bytes 4 y ++ low_bytes 4 (6 * width)

unfoldable pub line_at : List ℕ → ℕ → ℕ → ℕ → ℕ → List ℕ
line_at blocks format across width y = head_of width y ++ values_at blocks format across width y

-- the lines from the top down
unfoldable pub lines_of : List ℕ → ℕ → ℕ → ℕ → ℕ → List ℕ
lines_of blocks format across width height = join (made (line_at blocks format across width) height)

unfoldable pub file_in : List ℕ → ℕ → ℕ → ℕ → ℕ → List ℕ
file_in blocks format across width height = front_of width height ++ lines_of blocks format across width height

-- the file of whole blocks
abbrev pub file_of : List ℕ → ℕ → ℕ → ℕ → List ℕ
file_of blocks format width height = file_in blocks format (width / 4) width height

unfoldable pub file_length : ℕ → ℕ → ℕ
file_length width height = front_length height + line_length width * height

-- ---- the call

-- S-92: 1, 16, 15, then 3 for less room than the file takes, as of a Portable Float Map.
abbrev pub write_refusal : ℕ → ℕ → ℕ → ℕ → ℕ → ℕ
write_refusal size format width height room = refusal_for (file_length width height) size format width height room

abbrev pub written_at : ℕ → ℕ → ℕ → ExrWritten
written_at zero width height = record { answer = done; bytes = file_length width height }
written_at (suc n) width height = record { answer = suc n; bytes = 0 }

-- Done writes exactly the file; a refusal writes nothing.
abbrev pub left_at : ℕ → List ℕ → ℕ → ℕ → ℕ → List ℕ → List ℕ
left_at number blocks format width height out = ifDone number (file_of blocks format width height ++ drop (file_length width height) out) out

-- The statement of `exr_write`: its answer r, and the lent bytes `after`.
pub record PictureWritten (blocks : List ℕ) (format width height : ℕ) (out : List ℕ) (r : ExrWritten) (after : List ℕ) : Type 0 where
  pub answers : r ≡ written_at (write_refusal (length blocks) format width height (length out)) width height
  pub holds : after ≡ left_at (write_refusal (length blocks) format width height (length out)) blocks format width height out

-- The length of the file of a size, 0 where it is refused.
unfoldable pub length_of : ℕ → ℕ → ℕ
length_of width height = pick (size_writable width height) (file_length width height) 0
