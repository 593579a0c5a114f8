-- A built store is a probe of its edge, and its pixels are those of the blocks it was built of. Assumes nothing.
use Rattle.std.proofs.Common.{◌≡◌, ℕ, ◌+◌, ◌-◌, ◌*◌, ◌/◌, ◌%◌, ◌<◌, ◌≤◌, List, [], length, get_or, take, drop, sym, ap, ◌∙◌, append-nil, arith, lit<, length-drop, length-take, get_or-drop, get_or-take, ext_get_or}
use Rattle.laws.proofs.Joined.{run_value}
use Rattle.bcn_spec.specs.Answers.{done}
use Rattle.bcn_spec.specs.Bits.{block_size}
use Rattle.raw_bytes.proofs.Bytes.{four_back}
use Rattle.probe_places.specs.declared.Fault.{Fault}
use Rattle.probe_places.specs.Places.{place_size, face_count, places_in, byte_at, tile_in, format_in, face_in, column_in, row_in, place_in, block_in}
use Rattle.probe_places.proofs.Checks.{Fine, fine_so, on_face}
use Rattle.probe.specs.declared.ProbePixel.{ProbePixel}
use Rattle.probe.specs.Probe.{edge_limit, place_of, FilledOnce, IsProbe, probe_fault, InRange, question_refusal, record_for, shown_in, triple_at, triple_for, Asked}
use Rattle.probe.proofs.Spots.{place_same, parts}
use Rattle.probe.proofs.Checking.{in_range}
use Rattle.probe.proofs.Probes.{for_inside, for_here, probe_passes}
use Rattle.probe.proofs.Telling.{answer_number, done_triple}
use Rattle.probe_faces.specs.Face.{face_refusal, face_fault, FacePainted}
use Rattle.probe_faces.proofs.Painting.{pixel_same}
use Rattle.probe_faces.proofs.Painting as paint
use Rattle.probe_places.specs.Faults.{no_fault}
use Rattle.probe_build.specs.Building.{record_count, place_for, tile_for, record_head, built_record, built_of}
use Rattle.probe_build.specs.Pictures.{block_number, block_triple, face_triple, Shows, BuildShows}
use Rattle.probe_build.proofs.Numbers.{count_small, column_small, row_small, face_small, number_of, place_number, number_small}
use Rattle.probe_build.proofs.Records.{head_zero, record_head_lem, record_block}
use Rattle.probe_build.proofs.Builds.{each_length, built_length, was_buildable, front_is}
use Rattle.probe_build.proofs.Edging.{edge_of_probe}

module _ (blocks : List ℕ) (format edge first : ℕ) where
  pub built_count : places_in (built_of blocks format edge first) ≡ record_count edge
  built_count = let e : length (built_of blocks format edge first) ≡ 32 * record_count edge = built_length blocks format edge first in omega arith

  module _ (n : ℕ) (h : n < record_count edge) where
    -- byte k of record n
    pub byte_is : (k : ℕ) → k < 32 → byte_at (built_of blocks format edge first) n k ≡ get_or (built_record blocks format edge first n) k 0
    unfolding built_of
    byte_is k l =
        let e : n * 32 + k ≡ 32 * n + k = omega arith in
        ap (λ (i : ℕ). get_or (built_of blocks format edge first) i 0) e
        ∙ ap (λ (s : List ℕ). get_or s (32 * n + k) 0) (sym (append-nil (built_of blocks format edge first)))
        ∙ run_value (built_record blocks format edge first) place_size (each_length blocks format edge first) (record_count edge) n k [] h l

    head_is : (k : ℕ) → k < 16 → byte_at (built_of blocks format edge first) n k ≡ get_or (record_head (tile_for first n) format (place_for edge n)) k 0
    unfolding built_record
    head_is k l = byte_is k (omega arith) ∙ sym (record_head_lem blocks n (tile_for first n) format (place_for edge n) k l)

    pub built_format : format_in (built_of blocks format edge first) n ≡ format
    unfolding record_head
    built_format = head_is 4 (lit< tt)

    zeros_at : (k : ℕ) → k < 6 → byte_at (built_of blocks format edge first) n (10 + k) ≡ 0
    zeros_at k l = head_is (10 + k) (omega arith) ∙ sym (head_zero (tile_for first n) format (place_for edge n) (10 + k) (omega arith))

    pub built_tile : tile_in (built_of blocks format edge first) n ≡ tile_for first n
    unfolding tile_in record_head
    built_tile =
        four_back (built_of blocks format edge first) (n * place_size) (tile_for first n) (omega arith) (head_is 0 (lit< tt)) (head_is 1 (lit< tt))
        (head_is 2 (lit< tt)) (head_is 3 (lit< tt))

    block_at : (k : ℕ) → k < 16 → byte_at (built_of blocks format edge first) n (16 + k) ≡ get_or blocks (16 * n + k) 0
    unfolding built_record
    block_at k l =
        let e : 16 + k - 16 ≡ k = omega arith in
        byte_is (16 + k) (omega arith)
        ∙ sym (record_block blocks n (tile_for first n) format (place_for edge n) (16 + k) (omega arith) (omega arith))
        ∙ ap (λ (i : ℕ). get_or blocks (16 * n + i) 0) e

    pub built_block : length blocks ≡ block_size * record_count edge → block_in (built_of blocks format edge first) n ≡ take block_size (drop (block_size * n) blocks)
    unfolding block_in
    built_block w =
        let c : length (built_of blocks format edge first) ≡ 32 * record_count edge = built_length blocks format edge first in
        let s : length (take 16 (drop (n * 32 + 16) (built_of blocks format edge first))) ≡ 16 = simp (length-take, length-drop) (omega arith) in
        let t : length (take 16 (drop (16 * n) blocks)) ≡ 16 = simp (length-take, length-drop) (omega arith) in
        ext_get_or 0 _ _ (s ∙ sym t) (λ k l.
        let m : k < 16 = omega arith in
        let e : n * 32 + 16 + k ≡ n * 32 + (16 + k) = omega arith in
        get_or-take 16 (drop (n * 32 + 16) (built_of blocks format edge first)) k 0 m ∙ get_or-drop (n * 32 + 16) (built_of blocks format edge first) k 0
        ∙ ap (λ (i : ℕ). get_or (built_of blocks format edge first) i 0) e ∙ block_at k m
        ∙ sym (get_or-take 16 (drop (16 * n) blocks) k 0 m ∙ get_or-drop (16 * n) blocks k 0))

    module _ (a : 1 ≤ edge) (b : edge ≤ edge_limit) where
      pub built_place : place_in (built_of blocks format edge first) n ≡ place_for edge n
      unfolding record_head place_for
      built_place =
          let c : n % edge < edge = column_small edge a n in
          let r : n % (edge * edge) / edge < edge = row_small edge a n in
          place_same _ (place_for edge n) (head_is 5 (lit< tt))
          (pair (n % edge) (omega arith) (head_is 6 (lit< tt)) (head_is 7 (lit< tt)))
          (pair (n % (edge * edge) / edge) (omega arith) (head_is 8 (lit< tt)) (head_is 9 (lit< tt)))
        where
          pair : (v : ℕ) {x y : ℕ} → v < 0x10000 → x ≡ v % 0x100 → y ≡ v / 0x100 % 0x100 → x + y * 0x100 ≡ v
          pair v s e f = omega arith

-- ---- the probe

module _ (blocks : List ℕ) (format edge first : ℕ) (a : 1 ≤ edge) (b : edge ≤ edge_limit) (f : format ≤ 1) where
  number_again : (n face column row : ℕ) → place_for edge n ≡ place_of face column row → n ≡ face * (edge * edge) + row * edge + column
  unfolding place_for
  number_again n face column row e =
      let p = parts e in
      let d : n / (edge * edge) ≡ face = p.same_face in
      let c : n % edge ≡ column = p.same_column in
      let r : n % (edge * edge) / edge ≡ row = p.same_row in
      sym (number_of edge a n) ∙ rw (d, r, c)

  module _ (n : ℕ) (l : n < places_in (built_of blocks format edge first)) where
    inside : n < record_count edge
    inside = rw (built_count blocks format edge first) at l

    place_is : place_in (built_of blocks format edge first) n ≡ place_for edge n
    place_is = built_place blocks format edge first n inside a b

    face_in_lem : face_in (built_of blocks format edge first) n < face_count
    unfolding place_for
    face_in_lem = rw (parts place_is).same_face (face_small edge a n inside)

    column_in_lem : column_in (built_of blocks format edge first) n < edge
    unfolding place_for
    column_in_lem = rw (parts place_is).same_column (column_small edge a n)

    row_in_lem : row_in (built_of blocks format edge first) n < edge
    unfolding place_for
    row_in_lem = rw (parts place_is).same_row (row_small edge a n)

    fine_at : Fine (built_of blocks format edge first) n
    fine_at = record {
      small = rw (built_format blocks format edge first n inside) f;
      zeros = zeros_at blocks format edge first n inside;
      place = sym (on_face (place_in (built_of blocks format edge first) n) face_in_lem);
    }

  module _ (face column row : ℕ) (i : face < face_count) (c : column < edge) (r : row < edge) where
    number_inside : face * (edge * edge) + row * edge + column < record_count edge
    number_inside = number_small edge a face column row c r i

    once : FilledOnce (built_of blocks format edge first) (place_of face column row)
    once = record {
      filled = record {
        at = face * (edge * edge) + row * edge + column;
        inside = rw (built_count blocks format edge first) number_inside;
        here = built_place blocks format edge first (face * (edge * edge) + row * edge + column) number_inside a b ∙ place_number edge a face column row c r;
      };
      only = λ n l e. number_again n face column row (sym (place_is n l) ∙ e);
    }

  pub built_probe : IsProbe (built_of blocks format edge first) edge
  built_probe =
      let s : length (built_of blocks format edge first) ≡ 32 * record_count edge = built_length blocks format edge first in
      let m : record_count edge ≤ 1536 = count_small edge b in
      record {
        edge_first = a;
        edge_last = b;
        fits = omega arith;
        even = omega arith;
        unrefused = λ n l. fine_so (built_of blocks format edge first) n (fine_at n l);
        on_face = face_in_lem;
        column_inside = column_in_lem;
        row_inside = row_in_lem;
        filled_once = once;
      }

  -- the face call is not refused
  faces_done : (face : ℕ) → face < face_count → {lent after : List ℕ} {r : Fault} → FacePainted (built_of blocks format edge first) edge face lent r after
      → 48 * edge * edge ≤ length lent → r ≡ no_fault
  unfolding face_fault
  faces_done face i {lent} {after} {r} d room =
      let e : face_refusal edge face (length lent) ≡ done = sym (paint.fine edge face (length lent) i room) in
      d.answers ∙ rw (probe_passes (built_of blocks format edge first) edge built_probe, e)

  -- ---- the pixels

  module _ (w : length blocks ≡ block_size * record_count edge) where
    -- the record of a place is the block's
    pub built_record_lem : (face column row : ℕ) → face < face_count → column < edge → row < edge
        → record_for (built_of blocks format edge first) (place_of face column row) ≡ face * (edge * edge) + row * edge + column
    built_record_lem face column row i c r =
        let o = (once face column row i c r).filled in
        number_again (record_for (built_of blocks format edge first) (place_of face column row)) face column row
        (sym (place_is _ (for_inside (built_of blocks format edge first) _ o)) ∙ for_here (built_of blocks format edge first) _ o)

    pub built_triple : (n pixel : ℕ) → n < record_count edge → triple_at (built_of blocks format edge first) n pixel ≡ block_triple blocks format n pixel
    unfolding triple_at shown_in block_triple
    built_triple n pixel h = rw (built_format blocks format edge first n h, built_block blocks format edge first n h w)

    module _ (face x y : ℕ) (i : InRange edge face x y) where
      across : x / 4 < edge
      across = let l : x < 4 * edge = i.x_inside in omega arith

      down : y / 4 < edge
      down = let l : y < 4 * edge = i.y_inside in omega arith

      pub built_pixel : triple_for (built_of blocks format edge first) face x y ≡ face_triple blocks format edge face x y
      unfolding triple_for
      built_pixel =
          ap (λ (n : ℕ). triple_at (built_of blocks format edge first) n (4 * (y % 4) + x % 4)) (built_record_lem face (x / 4) (y / 4) i.face_inside across down)
          ∙ built_triple (block_number edge face x y) (4 * (y % 4) + x % 4) (number_inside face (x / 4) (y / 4) i.face_inside across down)

      asked_answer : {q : ProbePixel} → Asked (built_of blocks format edge first) edge face x y q → q.answer ≡ done
      asked_answer d =
          let p : (probe_fault (built_of blocks format edge first) edge).answer ≡ done =
          ap (λ (t : Fault). t.answer) (probe_passes (built_of blocks format edge first) edge built_probe) in
          let g : question_refusal edge face x y ≡ done = in_range edge face x y i.face_inside across down in
          answer_number d ∙ rw (p, g)

    shows : Shows blocks format edge (built_of blocks format edge first)
    shows = record {
      probe = built_probe;
      checked = λ e. e ∙ probe_passes (built_of blocks format edge first) edge built_probe;
      by_length = λ e. e ∙ edge_of_probe built_probe;
      pixel = λ face x y i d.
          (asked_answer face x y i d, done_triple d (asked_answer face x y i d) ∙ built_pixel face x y i);
      painted = faces_done;
      face = λ face x y c i l d z.
          pixel_same d z x y c i.x_inside i.y_inside l ∙ ap (λ (t : List ℕ). get_or t c 0) (built_pixel face x y i);
    }

-- whatever the call leaves when done
pub build_shows : BuildShows
build_shows blocks format edge first lent after r d z =
    let m = was_buildable d z in
    rw (front_is d z) (shows blocks format edge first m.edge_first m.edge_last m.small m.whole)
