-- S-92: the front of an OpenEXR file as bytes: one part, scan lines, no compression, three channels of half-floats. Assumes nothing.
use Rattle.std.specs.Prelude.{◌≡◌, refl, List, [], ◌∷◌, ◌++◌, ℕ, ◌+◌, ◌-◌, ◌*◌, ◌≤◌, length}
use Rattle.laws.specs.Made.{made, join}
use Rattle.laws.specs.Bit.{low_bytes}

-- ---- the header

-- An attribute: its name, its type, the number of bytes of its value, and the value. Name and type each end with a zero byte.
abbrev pub attribute : List ℕ → List ℕ → List ℕ → List ℕ
attribute name kind value = name ++ (kind ++ (low_bytes 4 (length value) ++ value))

-- four bytes that mark the file, and four of version 2 without flags: one part, scan lines, names of at most 31 bytes
abbrev pub start : List ℕ
start = 118 ∷ 47 ∷ 49 ∷ 1 ∷ 2 ∷ 0 ∷ 0 ∷ 0 ∷ []

-- A channel: a name of one letter and its zero byte, the type (1 is HALF), not linear to the eye, three spare bytes, and every pixel of every line.
abbrev pub channel : ℕ → List ℕ → List ℕ
channel letter rest = letter ∷ 0 ∷ 1 ∷ 0 ∷ 0 ∷ 0 ∷ 0 ∷ 0 ∷ 0 ∷ 0 ∷ 1 ∷ 0 ∷ 0 ∷ 0 ∷ 1 ∷ 0 ∷ 0 ∷ 0 ∷ rest

-- `B`, `G` and `R`, in the order of their names; a zero byte ends the list
abbrev pub channel_list : List ℕ
channel_list = channel 66 (channel 71 (channel 82 (0 ∷ [])))

-- `channels`, `chlist`
abbrev pub channels : List ℕ
channels = attribute (99 ∷ 104 ∷ 97 ∷ 110 ∷ 110 ∷ 101 ∷ 108 ∷ 115 ∷ 0 ∷ []) (99 ∷ 104 ∷ 108 ∷ 105 ∷ 115 ∷ 116 ∷ 0 ∷ []) channel_list

-- `compression`, which is the type's name too
abbrev pub compression_name : List ℕ
compression_name = 99 ∷ 111 ∷ 109 ∷ 112 ∷ 114 ∷ 101 ∷ 115 ∷ 115 ∷ 105 ∷ 111 ∷ 110 ∷ 0 ∷ []

-- 0: none
abbrev pub compression : List ℕ
compression = attribute compression_name compression_name (0 ∷ [])

-- A window of the whole picture: the least x and y, which are 0, and the greatest.
unfoldable pub window_of : ℕ → ℕ → List ℕ
window_of width height = low_bytes 4 0 ++ (low_bytes 4 0 ++ (low_bytes 4 (width - 1) ++ low_bytes 4 (height - 1)))

-- `box2i`
abbrev pub box_name : List ℕ
box_name = 98 ∷ 111 ∷ 120 ∷ 50 ∷ 105 ∷ 0 ∷ []

-- `dataWindow`
abbrev pub data_name : List ℕ
data_name = 100 ∷ 97 ∷ 116 ∷ 97 ∷ 87 ∷ 105 ∷ 110 ∷ 100 ∷ 111 ∷ 119 ∷ 0 ∷ []

-- `displayWindow`
abbrev pub display_name : List ℕ
display_name = 100 ∷ 105 ∷ 115 ∷ 112 ∷ 108 ∷ 97 ∷ 121 ∷ 87 ∷ 105 ∷ 110 ∷ 100 ∷ 111 ∷ 119 ∷ 0 ∷ []

-- `float`; 1.0 as a 32-bit float
abbrev pub float_name : List ℕ
float_name = 102 ∷ 108 ∷ 111 ∷ 97 ∷ 116 ∷ 0 ∷ []

abbrev pub one : List ℕ
one = 0 ∷ 0 ∷ 128 ∷ 63 ∷ []

-- `lineOrder`, which is the type's name too; 0: from the least y on
abbrev pub order_name : List ℕ
order_name = 108 ∷ 105 ∷ 110 ∷ 101 ∷ 79 ∷ 114 ∷ 100 ∷ 101 ∷ 114 ∷ 0 ∷ []

abbrev pub line_order : List ℕ
line_order = attribute order_name order_name (0 ∷ [])

-- `pixelAspectRatio`
abbrev pub pixel_aspect : List ℕ
pixel_aspect =
    attribute
    (112 ∷ 105 ∷ 120 ∷ 101 ∷ 108 ∷ 65 ∷ 115 ∷ 112 ∷ 101 ∷ 99 ∷ 116 ∷ 82 ∷ 97 ∷ 116 ∷ 105 ∷ 111 ∷ 0 ∷ [])
    float_name
    one

-- `screenWindowCenter`, of the type `v2f`: two floats, both 0.0
abbrev pub screen_centre : List ℕ
screen_centre =
    attribute
    (115 ∷ 99 ∷ 114 ∷ 101 ∷ 101 ∷ 110 ∷ 87 ∷ 105 ∷ 110 ∷ 100 ∷ 111 ∷ 119 ∷ 67 ∷ 101 ∷ 110 ∷ 116 ∷ 101 ∷ 114 ∷ 0 ∷ [])
    (118 ∷ 50 ∷ 102 ∷ 0 ∷ [])
    (0 ∷ 0 ∷ 0 ∷ 0 ∷ 0 ∷ 0 ∷ 0 ∷ 0 ∷ [])

-- `screenWindowWidth`
abbrev pub screen_width : List ℕ
screen_width =
    attribute
    (115 ∷ 99 ∷ 114 ∷ 101 ∷ 101 ∷ 110 ∷ 87 ∷ 105 ∷ 110 ∷ 100 ∷ 111 ∷ 119 ∷ 87 ∷ 105 ∷ 100 ∷ 116 ∷ 104 ∷ 0 ∷ [])
    float_name
    one

-- the attributes in the order of their names; a zero byte ends the header
unfoldable pub header_of : ℕ → ℕ → List ℕ
header_of width height =
    start
    ++ (channels
    ++ (compression
    ++ (attribute data_name box_name (window_of width height)
    ++ (attribute display_name box_name (window_of width height) ++ (line_order ++ (pixel_aspect ++ (screen_centre ++ (screen_width ++ (0 ∷ [])))))))))

abbrev pub header_length : ℕ
header_length = 313

-- ---- the table

-- A scan line has its number, its size and six bytes a pixel.
unfoldable pub line_length : ℕ → ℕ
line_length width = 8 + 6 * width

-- the bytes before the first line: the header, and 8 for each line
unfoldable pub front_length : ℕ → ℕ
front_length height = header_length + 8 * height

-- where line y begins in the file
unfoldable pub line_start : ℕ → ℕ → ℕ → ℕ
line_start width height y = front_length height + y * line_length width

unfoldable pub start_bytes : ℕ → ℕ → ℕ → List ℕ
start_bytes width height y = low_bytes 8 (line_start width height y)

unfoldable pub table_of : ℕ → ℕ → List ℕ
table_of width height = join (made (start_bytes width height) height)

-- ---- all that stands before the first line

unfoldable pub front_of : ℕ → ℕ → List ℕ
front_of width height = header_of width height ++ table_of width height

-- the sizes that the front is written for
pub record SizeFits (width height : ℕ) : Type 0 where
  pub some_width : 1 ≤ width
  pub most_width : width ≤ 4096
  pub some_height : 1 ≤ height
  pub most_height : height ≤ 4096

-- ---- the header in the parts in which it is written

unfoldable pub start_part : List ℕ
start_part = start ++ channels

-- a window up to its greatest x and y, and these
abbrev pub window_front : List ℕ → List ℕ
window_front name = name ++ (box_name ++ (16 ∷ 0 ∷ 0 ∷ 0 ∷ 0 ∷ 0 ∷ 0 ∷ 0 ∷ 0 ∷ 0 ∷ 0 ∷ 0 ∷ []))

unfoldable pub corner_of : ℕ → ℕ → List ℕ
corner_of width height = low_bytes 4 (width - 1) ++ low_bytes 4 (height - 1)

unfoldable pub data_part : List ℕ
data_part = compression ++ window_front data_name

unfoldable pub display_part : List ℕ
display_part = window_front display_name

unfoldable pub screen_part : List ℕ
screen_part = line_order ++ (pixel_aspect ++ (screen_centre ++ (screen_width ++ (0 ∷ []))))

-- ---- examples

header_long : length (header_of 640 480) ≡ header_length
unfolding header_of window_of low_bytes
header_long = refl

-- a picture of 640 by 480 has a window to 639 (0x27F) and 479 (0x1DF)
window_large : window_of 640 480 ≡ 0 ∷ 0 ∷ 0 ∷ 0 ∷ 0 ∷ 0 ∷ 0 ∷ 0 ∷ 0x7F ∷ 2 ∷ 0 ∷ 0 ∷ 0xDF ∷ 1 ∷ 0 ∷ 0 ∷ []
unfolding window_of low_bytes
window_large = refl

-- of 4 by 4: the lines begin at 345 (0x159), 377, 409 and 441
table_small : table_of 4 4
    ≡ 0x59 ∷ 1 ∷ 0 ∷ 0 ∷ 0 ∷ 0 ∷ 0 ∷ 0 ∷ 0x79 ∷ 1 ∷ 0 ∷ 0 ∷ 0 ∷ 0 ∷ 0 ∷ 0 ∷ 0x99 ∷ 1 ∷ 0 ∷ 0 ∷ 0 ∷ 0 ∷ 0 ∷ 0 ∷ 0xB9 ∷ 1 ∷ 0 ∷ 0 ∷ 0 ∷ 0 ∷ 0 ∷ 0 ∷ []
unfolding table_of start_bytes line_start front_length line_length low_bytes made
table_small = refl
