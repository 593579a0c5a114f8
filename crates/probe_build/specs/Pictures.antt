-- S-59: what a built store shows: the statement that proofs/Shown proves. Assumes nothing.
use Rattle.std.specs.Prelude.{◌≡◌, ℕ, ◌+◌, ◌*◌, ◌/◌, ◌%◌, ◌<◌, ◌≤◌, List, length, take, drop, slice_index}
use Rattle.bcn_spec.specs.Answers.{done}
use Rattle.bcn_spec.specs.Bits.{block_size}
use Rattle.bc6h_spec.specs.Block.{pixels_of}
use Rattle.bc6h_spec.specs.Picture.{is_signed}
use Rattle.probe_places.specs.declared.Fault.{Fault}
use Rattle.probe_places.specs.Faults.{no_fault}
use Rattle.probe_places.specs.Places.{place_size, face_count}
use Rattle.probe.specs.declared.ProbePixel.{ProbePixel}
use Rattle.probe.specs.Probe.{IsProbe, probe_fault, InRange, triple_of, triple_in, Asked}
use Rattle.probe_faces.specs.Face.{FacePainted}
use Rattle.probe_build.specs.declared.Built.{Built}
use Rattle.probe_build.specs.Building.{BuiltTo}
use Rattle.probe_build.specs.Edges.{edge_of}

-- S-59: the bytes that were written.
abbrev pub built_part : Built → List ℕ → List ℕ
built_part r after = take (place_size * r.records) after

-- S-59: pixel (x, y) of a face is pixel (x mod 4, y mod 4) of the block at column x div 4, row y div 4 of that face's blocks.
abbrev pub block_number : ℕ → ℕ → ℕ → ℕ → ℕ
block_number edge face x y = face * (edge * edge) + y / 4 * edge + x / 4

unfoldable pub block_triple : List ℕ → ℕ → ℕ → ℕ → List ℕ
block_triple blocks format m pixel = triple_of (pixels_of (is_signed format) (take block_size (drop (block_size * m) blocks))) pixel

abbrev pub face_triple : List ℕ → ℕ → ℕ → ℕ → ℕ → ℕ → List ℕ
face_triple blocks format edge face x y = block_triple blocks format (block_number edge face x y) (4 * (y % 4) + x % 4)

-- Over the calls' own statements: the check answers done, the edge call answers the edge, the pixel call answers each pixel's block, and so
-- does the face call.
pub record Shows (blocks : List ℕ) (format edge : ℕ) (store : List ℕ) : Type 0 where
  pub probe : IsProbe store edge
  pub checked : {fault : Fault} → fault ≡ probe_fault store edge → fault ≡ no_fault
  pub by_length : {n : ℕ} → n ≡ edge_of (length store) → n ≡ edge
  pub pixel : (face x y : ℕ) → InRange edge face x y → {q : ProbePixel} → Asked store edge face x y q
      → (q.answer ≡ done) × (triple_in q ≡ face_triple blocks format edge face x y)
  pub painted : (face : ℕ) → face < face_count → {lent after : List ℕ} {r : Fault} → FacePainted store edge face lent r after
      → 48 * edge * edge ≤ length lent → r ≡ no_fault
  pub face : (face x y c : ℕ) → InRange edge face x y → c < 3 → {lent after : List ℕ} {r : Fault} → FacePainted store edge face lent r after → r.answer ≡ done
      → slice_index after (12 * edge * y + (3 * x + c)) ≡ slice_index (face_triple blocks format edge face x y) c

abbrev pub BuildShows : Type 0
BuildShows =
    (blocks : List ℕ) (format edge first : ℕ) (lent after : List ℕ) (r : Built) → BuiltTo blocks format edge first lent r after → r.answer ≡ done
    → Shows blocks format edge (built_part r after)
