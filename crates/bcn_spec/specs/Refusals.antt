-- S-30: the number of each refusal, and of what a call answers: done, or a refusal's. Assumes nothing.
use Rattle.std.specs.Prelude.{ℕ, Result, Ok, Err}
use Rattle.bcn_spec.specs.Answers as answers
use Rattle.bcn_spec.specs.declared.Refusal.{Refusal}
use Rattle.bcn_spec.specs.declared.Refusal.TheVariants as why

-- S-30: a refusal's number
abbrev pub refusal_number : Refusal → ℕ
refusal_number why.BadFormat = answers.bad_format
refusal_number why.BlockNot16 = answers.block_not_16
refusal_number why.ShortOutput = answers.short_output
refusal_number why.ReservedMode = answers.reserved_mode
refusal_number why.LongStore = answers.long_store
refusal_number why.UnevenStore = answers.uneven_store
refusal_number why.SpareByte = answers.spare_byte
refusal_number why.NoRecord = answers.no_record
refusal_number why.UnevenBlocks = answers.uneven_blocks
refusal_number why.InvalidFields = answers.invalid_fields
refusal_number why.BadBuffer = answers.bad_buffer
refusal_number why.ReservedBlock = answers.reserved_block
refusal_number why.ForeignHeader = answers.foreign_header
refusal_number why.BadSize = answers.bad_size
refusal_number why.BlocksMisfit = answers.blocks_misfit
refusal_number why.UnevenSize = answers.uneven_size
refusal_number why.BadPlace = answers.bad_place
refusal_number why.PlacedRecord = answers.placed_record
refusal_number why.BadEdge = answers.bad_edge
refusal_number why.UnplacedRecord = answers.unplaced_record
refusal_number why.PastEdge = answers.past_edge
refusal_number why.TakenPlace = answers.taken_place
refusal_number why.EmptyPlace = answers.empty_place
refusal_number why.NoPixel = answers.no_pixel
refusal_number why.BadReceipt = answers.bad_receipt

-- S-30: what a call answers, done or refused
abbrev pub answer_of : {T : Type 0} → Result T Refusal → ℕ
answer_of (Ok value) = answers.done
answer_of (Err refusal) = refusal_number refusal
