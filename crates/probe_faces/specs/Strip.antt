-- S-58: what is kept while a face is painted: the values of a row of blocks, block by block. Assumes nothing.
use Rattle.std.specs.Prelude.{List, ℕ, ◌+◌, ◌*◌, ◌/◌, ◌%◌, get_or}
use Rattle.laws.specs.Made.{made, join}
use Rattle.probe.specs.Probe.{place_of, record_for, shown_in}
use Rattle.probe_faces.specs.Face.{face_row}

-- the values of a row of the most blocks
abbrev pub strip_size : ℕ
strip_size = 768

-- the values of the block at a column of a row of blocks, and of the first blocks of the row
unfoldable pub strip_block : List ℕ → ℕ → ℕ → ℕ → List ℕ
strip_block store face row column = shown_in store (record_for store (place_of face column row))

abbrev pub strip_of : List ℕ → ℕ → ℕ → ℕ → List ℕ
strip_of store face row n = join (made (strip_block store face row) n)

-- value x of those from a place on, and the twelve of row k in the block of a column
unfoldable pub piece_value : List ℕ → ℕ → ℕ → ℕ
piece_value strip from x = get_or strip (from + x) 0

unfoldable pub strip_piece : List ℕ → ℕ → ℕ → List ℕ
strip_piece strip k column = made (piece_value strip (48 * column + 12 * k)) 12

-- row k of the four rows of pixels in a strip
unfoldable pub strip_value : List ℕ → ℕ → ℕ → ℕ
strip_value strip k i = get_or strip (48 * (i / 12) + (12 * k + i % 12)) 0

unfoldable pub strip_row : List ℕ → ℕ → ℕ → List ℕ
strip_row strip edge k = made (strip_value strip k) (12 * edge)

-- the four rows of pixels of a row of blocks, of the face
unfoldable pub pixel_row : List ℕ → ℕ → ℕ → ℕ → ℕ → List ℕ
pixel_row store edge face row k = face_row store edge face (4 * row + k)

unfoldable pub four_rows : List ℕ → ℕ → ℕ → ℕ → List ℕ
four_rows store edge face row = join (made (pixel_row store edge face row) 4)
