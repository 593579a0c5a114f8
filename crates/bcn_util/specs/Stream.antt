-- S-6: what a stream stands for. Assumes nothing.
use Rattle.std.specs.Prelude.{◌≡◌, ℕ, ◌+◌, ◌*◌, ◌/◌, ◌%◌, ◌^◌}
use Rattle.bcn_util.specs.declared.BitStream.{BitStream}

-- S-6: the number that the two 64-bit words make.
abbrev pub number : BitStream → ℕ
number s = s.lo + 2 ^ 64 * s.hi

-- S-6: a read of the number n gives its next bits, the first one lowest, and leaves the rest.
pub record BitsRead (n count bits rest : ℕ) : Type 0 where
  pub next : bits ≡ n % 2 ^ count
  pub left : rest ≡ n / 2 ^ count
