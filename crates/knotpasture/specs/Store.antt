-- S-40 to S-44, S-85, S-87: what the exports over a store answer: the calls' own answers, packed into one word. Assumes nothing.
use Rattle.std.specs.Prelude.{◌≡◌, List, ℕ, zero, suc, ◌+◌, ◌*◌, length}
use Rattle.store_records.specs.Store.{record_size, head_size, tile_of, format_of, record_refusal}
use Rattle.store_spec.specs.declared.TwinList.{TwinList}
use Rattle.store_spec.specs.Twins.{list_refusal, answer_at, marks_at, scratch_refusal, scratch_at}
use Rattle.store_twins.specs.Strict.{strict_refusal}

-- S-40, S-87: a record: 0 in the low byte, the format in the next, the tile in the high half; a refusal: its number alone
abbrev pub record_word : ℕ → List ℕ → ℕ → ℕ
record_word zero store n = format_of store n * 0x100 + tile_of store n * 0x100000000
record_word (suc number) store n = suc number

abbrev pub reading_word : List ℕ → ℕ → ℕ
reading_word store n = record_word (record_refusal store n) store n

-- S-41, S-87: where in the store a record's block starts; 0 for a refusal
abbrev pub offset_at : ℕ → ℕ → ℕ
offset_at zero n = n * record_size + head_size
offset_at (suc number) n = 0

-- S-43, S-87: the number in the low byte; kept records, twins and bad records in the three sixteen-bit fields above the lowest
abbrev pub twins_word : TwinList → ℕ
twins_word list = list.answer + list.kept * 0x10000 + list.twins * 0x100000000 + list.bad * 0x1000000000000

-- The twin list: its answer in one word, and the lent marks as the call leaves them.
pub record TwinsCalled (store lent : List ℕ) (r : ℕ) (after : List ℕ) : Type 0 where
  pub answers : r ≡ twins_word (answer_at (list_refusal (length store) (length lent)) store)
  pub holds : after ≡ marks_at (list_refusal (length store) (length lent)) store lent

-- S-44, S-87: the strict twin list: its answer in one word, and the lent marks as the call leaves them. No count of a refusal's word is other than 0.
pub record StrictCalled (store lent : List ℕ) (r : ℕ) (after : List ℕ) : Type 0 where
  pub answers : r ≡ twins_word (answer_at (strict_refusal store (length lent)) store)
  pub holds : after ≡ marks_at (strict_refusal store (length lent)) store lent

-- S-85, S-87: the twin list over lent scratch space: its answer in one word, and the lent marks and the scratch space as the call leaves them.
pub record TwinsInCalled (store lent space : List ℕ) (r : ℕ) (after spaceAfter : List ℕ) : Type 0 where
  pub answers : r ≡ twins_word (answer_at (scratch_refusal (length store) (length lent) (length space)) store)
  pub holds : after ≡ marks_at (scratch_refusal (length store) (length lent) (length space)) store lent
  pub leaves : spaceAfter ≡ scratch_at (scratch_refusal (length store) (length lent) (length space)) store space
