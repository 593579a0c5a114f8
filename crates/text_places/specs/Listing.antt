-- S-74, S-103: what the program lists of a store of records with a place: its lines, or that of a refused store. Assumes nothing.
use Rattle.std.specs.Prelude.{Bool, List, ◌++◌, ℕ, zero, suc, eqb, ltb, length, get_or, drop}
use Rattle.laws.specs.Pick.{pick}
use Rattle.laws.specs.Checks.{or_next}
use Rattle.bcn_spec.specs.Answers.{done, reserved_block}
use Rattle.probe_places.specs.Places.{places_in}
use Rattle.store_faulty.specs.Faulty.{placed_form, store_refusal, counts_of}
use Rattle.text.specs.Text.{refusal_line}
use Rattle.text_places.specs.Lines.{lines_of, place_counts, counts_line}

-- S-103: strictly, 12 where a record is damaged.
abbrev pub strict_number : Bool → List ℕ → ℕ
strict_number strict store = pick strict (pick (ltb 0 (counts_of placed_form store).damaged) reserved_block done) done

-- S-103: 5, then 6, and strictly then 12.
unfoldable pub listing_refusal : Bool → List ℕ → ℕ
listing_refusal strict store = or_next (store_refusal placed_form (length store)) (strict_number strict store)

abbrev pub text_at : ℕ → List ℕ → List ℕ
text_at zero store = lines_of store (places_in store) ++ counts_line (place_counts store)
text_at (suc number) store = refusal_line (suc number)

unfoldable pub listing_text : Bool → List ℕ → List ℕ
listing_text strict store = text_at (listing_refusal strict store) store

-- of the program's input: one byte, 1 for the strict listing, then the store
unfoldable pub listing_of : List ℕ → List ℕ
listing_of input = listing_text (eqb (get_or input 0 0) 1) (drop 1 input)
