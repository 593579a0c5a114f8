-- S-6: a block's bytes and bits, and the blocks of a run. Assumes nothing.
use Rattle.std.specs.Prelude.{List, [], ◌∷◌, ◌≡◌, ℕ, ◌+◌, ◌*◌, ◌/◌, ◌%◌, ◌<◌, length, get_or, take, drop}
use Rattle.laws.specs.Bit.{bit}
use Rattle.laws.specs.Made.{made}

-- S-6: a block is sixteen bytes.
abbrev pub block_size : ℕ
block_size = 16

pub record IsBlock (block : List ℕ) : Type 0 where
  pub sixteen : length block ≡ block_size
  pub byte : (k : ℕ) → get_or block k 0 < 256

-- S-6: bit k is bit k mod 8 of byte k div 8.
abbrev pub block_bit : List ℕ → ℕ → ℕ
block_bit block k = bit (get_or block (k / 8) 0) (k % 8)

-- S-6: the 128 bits in their order.
unfoldable pub block_bits : List ℕ → List ℕ
block_bits block = made (block_bit block) 128

-- S-6: the same bits as one number, whose bit k is the block's bit k.
abbrev pub number_of : List ℕ → ℕ
number_of [] = 0
number_of (byte ∷ bytes) = byte + 256 * number_of bytes

-- S-61, S-64: a picture has at most 4,096 pixels along a side, and so 1,024 blocks.
abbrev pub size_limit : ℕ
size_limit = 4096

abbrev pub most_across : ℕ
most_across = 1024

-- S-32: how many blocks the bytes of a run hold, and block n of them.
abbrev pub blocks_in : List ℕ → ℕ
blocks_in blocks = length blocks / block_size

abbrev pub block_at : List ℕ → ℕ → List ℕ
block_at blocks n = take block_size (drop (block_size * n) blocks)
