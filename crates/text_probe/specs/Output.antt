-- S-74: what the program run_probe writes of its question: whether a store is a probe of an edge, as a line; or a face of it as a file.
-- Assumes nothing.
use Rattle.std.specs.Prelude.{Bool, true, false, List, [], ◌∷◌, ◌++◌, ℕ, zero, suc, ◌+◌, ◌*◌, eqb, ltb, length, get_or, drop}
use Rattle.laws.specs.Pick.{pick}
use Rattle.raw_bytes.specs.Bytes.{low_first}
use Rattle.probe_places.specs.declared.Fault.{Fault}
use Rattle.probe_places.specs.Places.{place_limit, places_in}
use Rattle.probe.specs.Probe.{of_record, probe_fault}
use Rattle.probe_faces.specs.Face.{face_of, face_fault}
use Rattle.probe_build.specs.Edges.{edge_of}
use Rattle.exr_square.specs.Square.{square_file}
use Rattle.text.specs.Text.{line_feed, decimal, store_refused}
use Rattle.text_probe.specs.Image.{image_file}

-- ---- the question: its kind, a byte; the edge and the face in four bytes each; the store

abbrev pub question_head : ℕ
question_head = 9

-- the largest question whose store is taken
abbrev pub question_limit : ℕ
question_limit = question_head + place_limit

-- four bytes, low byte first
unfoldable pub word_at : List ℕ → ℕ → ℕ
word_at input at = low_first input at 4

-- ---- the lines

-- ` record ` and the faulty record, where one is why
unfoldable pub faulty_part : Fault → List ℕ
faulty_part fault = pick (of_record fault.answer) (32 ∷ 114 ∷ 101 ∷ 99 ∷ 111 ∷ 114 ∷ 100 ∷ 32 ∷ [] ++ decimal fault.faulty) []

-- `store refused ` and the number
unfoldable pub fault_line : Fault → List ℕ
fault_line fault = store_refused ++ decimal fault.answer ++ faulty_part fault ++ line_feed

-- `probe edge `, ` records `
unfoldable pub probe_line : ℕ → ℕ → List ℕ
probe_line edge records =
    112 ∷ 114 ∷ 111 ∷ 98 ∷ 101 ∷ 32 ∷ 101 ∷ 100 ∷ 103 ∷ 101 ∷ 32 ∷ [] ++ decimal edge
    ++ (32 ∷ 114 ∷ 101 ∷ 99 ∷ 111 ∷ 114 ∷ 100 ∷ 115 ∷ 32 ∷ [] ++ decimal records)
    ++ line_feed

-- ---- the answer

-- what is written where nothing is refused, or the line of the fault
abbrev pub unless : ℕ → Fault → List ℕ → List ℕ
unless zero fault written = written
unless (suc number) fault written = fault_line fault

unfoldable pub check_output : List ℕ → ℕ → List ℕ
check_output store edge = unless (probe_fault store edge).answer (probe_fault store edge) (probe_line edge (places_in store))

-- the values of the largest face, for which there is room: 16 blocks on an edge
abbrev pub face_room : ℕ
face_room = 12288

-- the values of a face as a file
unfoldable pub face_file : Bool → List ℕ → ℕ → List ℕ
face_file isExr values side = pick isExr (square_file values side) (image_file values side)

unfoldable pub face_output : Bool → List ℕ → ℕ → ℕ → List ℕ
face_output isExr store edge face =
    unless (face_fault store edge face face_room).answer (face_fault store edge face face_room) (face_file isExr (face_of store edge face) (4 * edge))

-- S-102: the kinds: told of the edge, a face as a Portable Float Map, told of the edge that fits, a face as an OpenEXR file.
abbrev pub tell_kind : ℕ
tell_kind = 0

abbrev pub map_kind : ℕ
map_kind = 1

abbrev pub fit_kind : ℕ
fit_kind = 2

abbrev pub exr_kind : ℕ
exr_kind = 3

-- S-59, S-102: the edge that fits is that of the store's length; where none fits it is 0, which is refused.
unfoldable pub kind_output : ℕ → List ℕ → ℕ → ℕ → List ℕ
kind_output kind store edge face =
    pick (eqb kind tell_kind) (check_output store edge)
    (pick (eqb kind map_kind) (face_output false store edge face)
    (pick (eqb kind fit_kind) (check_output store (edge_of (length store)))
    (pick (eqb kind exr_kind) (face_output true store edge face) [])))

-- a question that has no store is not answered, and none of another kind
unfoldable pub probe_output : List ℕ → List ℕ
probe_output input =
    pick (ltb (length input) question_head) []
    (kind_output (get_or input 0 0) (drop question_head input) (word_at input 1) (word_at input 5))

-- the room that every answer fits: a header of at most 18 bytes, and twelve bytes for each of 64 by 64 pixels
abbrev pub output_room : ℕ
output_room = 18 + 12 * 4096
