-- S-58: a whole face of a probe. Assumes nothing.
use Rattle.std.specs.Prelude.{◌≡◌, Bool, not, List, [], ◌∷◌, ℕ, ◌*◌, ◌/◌, ◌%◌, ltb, length, get_or}
use Rattle.laws.specs.Checks.{first_met, left_by}
use Rattle.laws.specs.Made.{made, join}
use Rattle.bcn_spec.specs.Answers.{short_output, no_pixel}
use Rattle.probe_places.specs.declared.Fault.{Fault}
use Rattle.probe_places.specs.Places.{face_count}
use Rattle.probe.specs.Probe.{then_alone, probe_fault, triple_for}

-- row y of a face's pixels: value i is channel i mod 3 of the pixel at x = i div 3, as the pixel call has it
unfoldable pub row_value : List ℕ → ℕ → ℕ → ℕ → ℕ
row_value store face y i = get_or (triple_for store face (i / 3) y) (i % 3) 0

unfoldable pub face_row : List ℕ → ℕ → ℕ → ℕ → List ℕ
face_row store edge face y = made (row_value store face y) (12 * edge)

-- the rows of a face, from the top
unfoldable pub face_of : List ℕ → ℕ → ℕ → List ℕ
face_of store edge face = join (made (face_row store edge face) (4 * edge))

-- the probe's refusals first; then 24 for a face above 5, then 3 for fewer than 48 values a block
abbrev pub face_checks : ℕ → ℕ → ℕ → List (Bool × ℕ)
face_checks edge face room = (not (ltb face face_count), no_pixel) ∷ (ltb room (48 * edge * edge), short_output) ∷ []

unfoldable pub face_refusal : ℕ → ℕ → ℕ → ℕ
face_refusal edge face room = first_met (face_checks edge face room)

unfoldable pub face_fault : List ℕ → ℕ → ℕ → ℕ → Fault
face_fault store edge face room = then_alone (probe_fault store edge) (face_refusal edge face room)

-- The statement of the call.
pub record FacePainted (store : List ℕ) (edge face : ℕ) (lent : List ℕ) (r : Fault) (after : List ℕ) : Type 0 where
  pub answers : r ≡ face_fault store edge face (length lent)
  pub holds : after ≡ left_by (face_fault store edge face (length lent)).answer (face_of store edge face) lent
