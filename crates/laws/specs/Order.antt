-- Serves every clause. Two orders of the same records, of so many bytes each. Assumes nothing.
use Rattle.std.specs.Prelude.{◌≡◌, List, ℕ, ◌*◌, ◌/◌, ◌<◌, length, take, drop}

-- the bytes of record n
unfoldable pub record_in : ℕ → List ℕ → ℕ → List ℕ
record_in size store n = take size (drop (n * size) store)

-- The second store has the records of the first in some order: its record n is record `from n` of the first, byte for byte, and no
-- record of the first is taken twice.
pub record Reordered (size : ℕ) (store other : List ℕ) : Type 0 where
  pub same_size : length other ≡ length store
  pub from : ℕ → ℕ
  pub inside : (n : ℕ) → n < length other / size → from n < length store / size
  pub apart : (m n : ℕ) → m < length other / size → n < length other / size → from m ≡ from n → m ≡ n
  pub same_bytes : (n : ℕ) → n < length other / size → record_in size other n ≡ record_in size store (from n)
