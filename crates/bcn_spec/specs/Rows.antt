-- S-68: the rows of one, two and three regions, by the partition number. Character k is the region of pixel k; a dash is before the fix-up
-- pixel of each region but region 0, in order of pixels. Assumes nothing.
use Rattle.std.specs.Prelude.{List, [], ◌∷◌, ℕ, suc, get_or}
use Prim.Native.String.{String}
use Prim.Native.String as Text
use Rattle.laws.specs.Pick.{pick}
use Rattle.bcn_spec.specs.Regions.{partition_set_2, is_dash, regions_in}

-- S-68: with one region, every pixel is in region 0 and pixel 0 is the only fix-up pixel.
abbrev pub one_region : List String
one_region = "0000000000000000" ∷ []

-- S-68: three regions, row by row.
unfoldable pub partition_set_3 : List String
partition_set_3 =
    "001-100110221222-2" ∷
    "000-10011-22112221" ∷
    "00002001-2211221-1" ∷
    "022-200220011011-1" ∷
    "00000000-1122112-2" ∷
    "001-100110022002-2" ∷
    "002-200221111111-1" ∷
    "00110011-2211221-1" ∷
    "00000000-1111222-2" ∷
    "00001111-1111222-2" ∷
    "000011-112222222-2" ∷
    "001200-120012001-2" ∷
    "011201-120112011-2" ∷
    "01220-1220122012-2" ∷
    "001-101121122122-2" ∷
    "001-12001-22002220" ∷
    "000-100110112112-2" ∷
    "011-10011-20012200" ∷
    "00001122-1122112-2" ∷
    "002-200220022111-1" ∷
    "011-101110222022-2" ∷
    "000-10001-22212221" ∷
    "000000-110122012-2" ∷
    "00001100-22-102210" ∷
    "012-20-12200110000" ∷
    "00120012-1122222-2" ∷
    "011012-21-12210110" ∷
    "000001-1012-211221" ∷
    "00221102-1102002-2" ∷
    "01100-1102002222-2" ∷
    "0011012201-22001-1" ∷
    "00002000-2211222-1" ∷
    "00000002-1122122-2" ∷
    "022-200220012001-1" ∷
    "001-100120022022-2" ∷
    "01200-12001-200120" ∷
    "000011-1122-220000" ∷
    "01201201-20-120120" ∷
    "01202012-1-2010120" ∷
    "0011220011-22001-1" ∷
    "001111-222200001-1" ∷
    "010-101012222222-2" ∷
    "00000000-2121212-1" ∷
    "00221-1220022112-2" ∷
    "002-200110022001-1" ∷
    "022012-210220122-1" ∷
    "010122-222222010-1" ∷
    "00002121-2121212-1" ∷
    "010-101010101222-2" ∷
    "022-201110222011-1" ∷
    "00021-1120002111-2" ∷
    "00002-1122112211-2" ∷
    "02220-1110111022-2" ∷
    "00021112-1112000-2" ∷
    "01100-1100110222-2" ∷
    "0000000021-12211-2" ∷
    "01100-1102222222-2" ∷
    "0022001100-11002-2" ∷
    "00221122-1122002-2" ∷
    "0000000000002-11-2" ∷
    "000-200010002000-1" ∷
    "022212220222-122-2" ∷
    "010-122222222222-2" ∷
    "011-12011-22012220" ∷ []

-- S-68: the rows of a number of regions, and the one that the partition number chooses.
abbrev pub rows_of : ℕ → List String
rows_of regions = get_or (one_region ∷ one_region ∷ partition_set_2 ∷ partition_set_3 ∷ []) regions []

abbrev pub row_of : ℕ → ℕ → String
row_of regions partition = get_or (rows_of regions) partition ""

-- the region of a pixel: the row without its dashes
unfoldable pub row_region : ℕ → ℕ → ℕ → ℕ
row_region regions partition pixel = get_or (regions_in (row_of regions partition)) pixel 0

-- the pixels that a dash stands before, from pixel k on
abbrev pub dashes_from : ℕ → String → List ℕ
dashes_from k Text.[] = []
dashes_from k (Text.◌∷◌ c cs) = pick (is_dash c) (k ∷ dashes_from k cs) (dashes_from (suc k) cs)

-- S-68: each region has one fix-up pixel, which lies in it; region 0's is pixel 0. They are in order of pixels.
unfoldable pub fixups_of : ℕ → ℕ → List ℕ
fixups_of regions partition = 0 ∷ dashes_from 0 (row_of regions partition)
