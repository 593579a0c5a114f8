-- S-10, S-11: red, green and blue in one word, a lane each: what the modes of one region read. Assumes nothing.
use Rattle.std.specs.Prelude.{ℕ, zero, suc, ◌+◌, ◌-◌, ◌*◌, ◌/◌, ◌%◌, ◌^◌}

-- number e of four in a word, of sixteen bits each: lane 0 is the lowest
abbrev pub lane : ℕ → ℕ → ℕ
lane word e = word / 2 ^ (16 * e) % 2 ^ 16

-- four numbers in one word
abbrev pub four_lanes : ℕ → ℕ → ℕ → ℕ → ℕ
four_lanes w x y z = w + 0x10000 * x + 0x100000000 * y + 0x1000000000000 * z

-- three numbers, and nothing in the last lane
abbrev pub three_of : (ℕ → ℕ) → ℕ
three_of f = four_lanes (f 0) (f 1) (f 2) 0

-- field c of ten bits
abbrev pub ten : ℕ → ℕ → ℕ
ten word c = word / 2 ^ (10 * c) % 2 ^ 10

-- bit `at` of a lane, as bit 19 - at
abbrev pub turned_bit : ℕ → ℕ → ℕ → ℕ
turned_bit f at c = lane f c / 2 ^ at % 2 * 2 ^ (19 - at)

-- the first `count` bits of a lane of ten, highest first, above the tenth
abbrev pub extra_bits : ℕ → ℕ → ℕ → ℕ
extra_bits f zero c = 0
extra_bits f (suc k) c = extra_bits f k c + turned_bit f (9 - k) c
