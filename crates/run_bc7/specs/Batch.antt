-- S-74: the bytes that are written for a batch of the input: 64 for each of its blocks, none where it is not whole blocks. Assumes nothing.
use Rattle.std.specs.Prelude.{◌≡◌, List, ◌++◌, ℕ, ◌*◌, ◌%◌, ◌≤◌, eqb, length, drop}
use Rattle.laws.specs.Pick.{pick}
use Rattle.bcn_spec.specs.Bits.{block_size, blocks_in}
use Rattle.bc7_spec.specs.Block.{byte_count}
use Rattle.bc7_blocks.specs.Run.{run_of}

unfoldable pub blocks_taken : List ℕ → ℕ
blocks_taken input = pick (eqb (length input % block_size) 0) (blocks_in input) 0

-- What `decode_batch` answers: how many bytes it wrote, and the lent bytes `after`.
pub record Decoded (input out : List ℕ) (r : ℕ) (after : List ℕ) : Type 0 where
  pub answers : r ≡ byte_count * blocks_taken input
  pub holds : after ≡ run_of input (blocks_taken input) ++ drop (byte_count * blocks_taken input) out
  pub fits : r ≤ length out
