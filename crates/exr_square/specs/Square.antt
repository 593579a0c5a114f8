-- S-102: the values of a square picture, row by row from the top, as an OpenEXR file. Assumes nothing.
use Rattle.std.specs.Prelude.{List, ◌++◌, ℕ, ◌+◌, ◌*◌, get_or}
use Rattle.laws.specs.Made.{made, join}
use Rattle.laws.specs.Bit.{low_bytes}
use Rattle.exr_header.specs.Header.{front_of}
use Rattle.exr.specs.File.{head_of}

-- channel 0, 1 or 2 (red, green, blue) of pixel x of line y: the pattern as it is, its low byte first
unfoldable pub square_value : List ℕ → ℕ → ℕ → ℕ → ℕ → List ℕ
square_value values side channel y x = low_bytes 2 (get_or values (3 * (y * side + x) + channel) 0)

-- one channel of line y, from the left
unfoldable pub square_channel : List ℕ → ℕ → ℕ → ℕ → List ℕ
square_channel values side channel y = join (made (square_value values side channel y) side)

-- S-92, S-102: all blue values, all green ones, all red ones, behind the head of the line.
unfoldable pub square_line : List ℕ → ℕ → ℕ → List ℕ
square_line values side y = head_of side y ++ (square_channel values side 2 y ++ (square_channel values side 1 y ++ square_channel values side 0 y))

-- the lines from the top down
unfoldable pub square_lines : List ℕ → ℕ → List ℕ
square_lines values side = join (made (square_line values side) side)

unfoldable pub square_file : List ℕ → ℕ → List ℕ
square_file values side = front_of side side ++ square_lines values side

-- the largest file: of 64 by 64 pixels
abbrev pub square_room : ℕ
square_room = 25913
