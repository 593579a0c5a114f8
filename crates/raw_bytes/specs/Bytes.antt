-- Serves every clause. The number that bytes make, the lowest first. Assumes nothing.
use Rattle.std.specs.Prelude.{List, ℕ, zero, suc, ◌+◌, ◌*◌, ◌/◌, ◌%◌, ◌^◌, eqb, get_or}
use Rattle.laws.specs.Pick.{pick}

-- the number of `count` bytes from byte `at` on, the low byte first
unfoldable pub low_first : List ℕ → ℕ → ℕ → ℕ
low_first bytes at zero = 0
low_first bytes at (suc count) = low_first bytes at count + get_or bytes (at + count) 0 * 256 ^ count

-- of a number of two bytes the low one at an even k, the high one at an odd k
abbrev pub low_or_high : ℕ → ℕ → ℕ
low_or_high value k = pick (eqb (k % 2) 0) (value % 256) (value / 256)
