-- What is written for a piece, of what the field call answers of it. Assumes nothing.
use mathlib.Core.Path.{◌≡◌, ap, ◌∙◌}
use mathlib.Core.List.{List}
use Prim.Native.Nat.{ℕ}
use lib.ListN.{length}
use Rattle.laws.specs.Made.{made}
use Rattle.bc6h_spec.specs.Fields.{mode_of}
use Rattle.bc6_fields.specs.Call.{FieldsRead, refusal_of, answer_at, Extracted}
use Rattle.run_fields.specs.Record.{fields_byte, piece_format, piece_block, record_bytes}

pub record_is : (piece block : List ℕ) (read : FieldsRead) → block ≡ piece_block piece → Extracted block (piece_format piece) read
    → made (fields_byte read) 45 ≡ record_bytes piece
unfolding record_bytes
record_is piece block read e x =
    ap (λ (r : FieldsRead). made (fields_byte r) 45) x.answers
    ∙ ap (λ (b : List ℕ). made (fields_byte (answer_at (refusal_of (piece_format piece) (length b) (mode_of b)) (piece_format piece) b)) 45) e
