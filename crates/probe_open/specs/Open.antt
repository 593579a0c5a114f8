-- S-93: a probe opened once, and its pixels by the table that opening it left. Assumes nothing.
use Rattle.std.specs.Prelude.{◌≡◌, Bool, not, List, [], ◌∷◌, ℕ, zero, suc, ◌+◌, ◌-◌, ◌*◌, ◌/◌, ◌%◌, eqb, ltb, length, get_or, take, drop}
use Rattle.laws.specs.Pick.{pick}
use Rattle.laws.specs.Checks.{first_met}
use Rattle.bcn_spec.specs.Answers.{done, bad_format, short_output, no_record, bad_edge, empty_place, no_pixel}
use Rattle.probe_places.specs.declared.Fault.{Fault}
use Rattle.probe_places.specs.Places.{places_in, format_in}
use Rattle.probe.specs.declared.ProbePixel.{ProbePixel}
use Rattle.probe.specs.Probe.{place_of, place_count, place_number, edge_fits, then_alone, probe_fault, has_pixel, triple_at, probe_shown, probe_refused}
use Rattle.probe.specs.Held.{Held}

-- ---- S-93: opening

-- The store's own fault first; then 3, where the table has less room than the places of the largest probe.
unfoldable pub open_fault : List ℕ → ℕ → ℕ → Fault
open_fault store edge room = then_alone (probe_fault store edge) (pick (ltb room place_count) short_output done)

-- The statement of `probe_open`: its answer, and what the table then is. Done, it holds each record at its place's number; a refusal writes nothing.
pub record Opened (store : List ℕ) (edge : ℕ) (lent : List ℕ) (r : Fault) (after : List ℕ) : Type 0 where
  pub answers : r ≡ open_fault store edge (length lent)
  pub holds : r.answer ≡ done → Held store (places_in store) (take place_count after)
  pub behind : drop place_count after ≡ drop place_count lent
  pub silent : (r.answer ≡ done → ⊥) → after ≡ lent

-- ---- S-93: asking

-- A holder is a record's number plus 1: 23 for none, 8 for one past the store, 1 for a record whose format is none.
abbrev pub holder_checks : List ℕ → ℕ → List (Bool × ℕ)
holder_checks store holder =
    (eqb holder 0, empty_place) ∷ (ltb (places_in store) holder, no_record) ∷ (ltb 1 (format_in store (holder - 1)), bad_format) ∷ []

unfoldable pub holder_refusal : List ℕ → ℕ → ℕ
holder_refusal store holder = first_met (holder_checks store holder)

-- the holder of the place of pixel (x, y)
abbrev pub holder_at : List ℕ → ℕ → ℕ → ℕ → ℕ
holder_at table face x y = get_or table (place_number (place_of face (x / 4) (y / 4))) 0

-- The checks of a question, whatever the table: 19, 24, 3, and then those of the holder.
unfoldable pub table_refusal : List ℕ → List ℕ → ℕ → ℕ → ℕ → ℕ → ℕ
table_refusal store table edge face x y =
    first_met
    ((not (edge_fits edge), bad_edge) ∷ (not (has_pixel edge face x y), no_pixel) ∷ (ltb (length table) place_count, short_output) ∷
    holder_checks store (holder_at table face x y))

abbrev pub table_shown : ℕ → List ℕ → ProbePixel
table_shown zero triple = probe_shown triple
table_shown (suc number) triple = probe_refused (suc number) 0

abbrev pub table_answer : List ℕ → List ℕ → ℕ → ℕ → ℕ → ℕ → ProbePixel
table_answer store table edge face x y =
    table_shown (table_refusal store table edge face x y) (triple_at store (holder_at table face x y - 1) (4 * (y % 4) + x % 4))

-- The statement of `probe_pixel_in`.
pub record TablePixel (store table : List ℕ) (edge face x y : ℕ) (r : ProbePixel) : Type 0 where
  pub answers : r ≡ table_answer store table edge face x y
