-- S-2, S-28: Demand 2 for the named blocks. Assumes nothing.
use Rattle.std.specs.Prelude.{◌≡◌, List, ℕ, ◌≤◌, length, take}
use Rattle.bcn_spec.specs.Answers.{done}
use Rattle.bc6h_spec.specs.Picture.{value_count}
use Rattle.bc6h_spec.specs.Block.{format_number}
use Rattle.bc6h_spec.specs.Named.{Row, triples, named_blocks, EachOf}
use Rattle.bc6.specs.Call.{Pixels}
use Rattle.bc6.specs.Call.{Painted}

-- S-28: what `block_pixels` leaves of B1 to B11: the mode of each and what it shows.
abbrev pub Named : Row → Type 0
Named row = (lent after : List ℕ) (r : Pixels) → value_count ≤ length lent → Painted row.bytes (format_number row.signed) lent r after
    → (r.answer ≡ done) × ((r.mode ≡ row.mode) × (take value_count after ≡ triples row.red))

abbrev pub NamedBlocks : Type 0
NamedBlocks = EachOf Named named_blocks
