-- S-74: the 66 bytes that are written for a piece of the input. Assumes nothing.
use Rattle.std.specs.Prelude.{◌≡◌, List, ◌∷◌, ◌++◌, ℕ, ◌+◌, ◌-◌, ◌*◌, ◌/◌, ◌≤◌, ltb, length, get_or, take, drop, replicate}
use Rattle.laws.specs.Pick.{pick}
use Rattle.laws.specs.Made.{made, join}
use Rattle.bc7_spec.specs.Block.{byte_count}
use Rattle.bc7.specs.Call.{Bc7Pixels}
use Rattle.bc7.specs.Call.{refusal_of, answer_at, bytes_at}
use Rattle.check_bc7.specs.declared.Shown.{Shown}

-- what the pixels call answers, and leaves in 64 zeros
abbrev pub shown_as : Bc7Pixels → List ℕ → Shown
shown_as r bytes = record { answer = r.answer; mode = r.mode; bytes = bytes }

unfoldable pub shown_of : List ℕ → Shown
shown_of piece = shown_as (answer_at (refusal_of (length piece) byte_count) piece) (bytes_at (refusal_of (length piece) byte_count) piece (replicate byte_count 0))

-- answer, mode and 64 bytes: byte k
unfoldable pub shown_byte : Shown → ℕ → ℕ
shown_byte s k = get_or (s.answer ∷ s.mode ∷ s.bytes) k 0

abbrev pub shown_bytes : List ℕ → List ℕ
shown_bytes piece = made (shown_byte (shown_of piece)) 66

-- the pieces of the input: sixteen bytes each, and a last one that may be shorter
abbrev pub piece_count : ℕ → ℕ
piece_count size = (size + 15) / 16

-- where a piece that starts at `at` ends
pub record PieceEnd (at size r : ℕ) : Type 0 where
  pub is : r ≡ pick (ltb (size - at) 16) size (at + 16)
  pub from : at ≤ r
  pub fits : r ≤ size

unfoldable pub shown_at : List ℕ → ℕ → List ℕ
shown_at input i = shown_bytes (take 16 (drop (16 * i) input))

-- What `decode_pieces` answers: how many bytes it wrote, and the lent bytes `after`.
pub record Decoded (input out : List ℕ) (r : ℕ) (after : List ℕ) : Type 0 where
  pub answers : r ≡ 66 * piece_count (length input)
  pub holds : after ≡ join (made (shown_at input) (piece_count (length input))) ++ drop (66 * piece_count (length input)) out
