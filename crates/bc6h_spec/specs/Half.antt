-- S-17 to S-26: from numbers of p bits to half-float patterns. A field as stored is a ℕ; a number that may be below zero is a ℤ. Assumes nothing.
use Rattle.std.specs.Prelude.{Bool, false, ℕ, ◌+◌, ◌-◌, ◌*◌, ◌/◌, ◌%◌, ◌^◌, ltb, leb, eqb, ℤ, pos, negsuc, neg_ℤ, nat_abs, ◌+ℤ◌, ◌-ℤ◌, ◌*ℤ◌}
use Rattle.std.specs.Int.Signed.{shr_z}
use Rattle.laws.specs.Pick.{pick}

-- S-17: the value n of p bits, read in two's complement.
unfoldable pub sign_extend : ℕ → ℕ → ℤ
sign_extend p n = pick (ltb n (2 ^ (p - 1))) (pos n) (pos n -ℤ pos (2 ^ p))

-- S-18: the lowest p bits of z, also below zero (`negsuc n` is −(n + 1)).
unfoldable pub keep : ℕ → ℤ → ℕ
keep p (pos n) = n % 2 ^ p
keep p (negsuc n) = (2 ^ p - 1) - n % 2 ^ p

-- S-18: add the first endpoint, keep p bits, and in signed format sign-extend again from p.
unfoldable pub transform : Bool → ℕ → ℤ → ℤ → ℤ
transform signed p first z = pick signed (sign_extend p (keep p (first +ℤ z))) (pos (keep p (first +ℤ z)))

-- S-19: unquantise, unsigned: p of 15 or more leaves c; else 0 stays 0, the highest number becomes 65535, any other the middle of its share of 65536.
unfoldable pub unquantize_u : ℕ → ℕ → ℕ
unquantize_u p c =
    pick (leb 15 p) c
    (pick (eqb c 0) 0
    (pick (eqb c (2 ^ p - 1)) 65535
    ((65536 * c + 32768) / 2 ^ p)))

-- S-20: unquantise a magnitude: 0 stays 0, 2^(p−1) − 1 and more become 32767, any other the middle of its share of 32768.
unfoldable pub unquantize_m : ℕ → ℕ → ℕ
unquantize_m p m =
    pick (eqb m 0) 0
    (pick (leb (2 ^ (p - 1) - 1) m) 32767
    ((32768 * m + 16384) / 2 ^ (p - 1)))

-- S-20: the number with z's sign and the magnitude m.
abbrev pub with_sign : ℤ → ℕ → ℤ
with_sign (pos n) m = pos m
with_sign (negsuc n) m = neg_ℤ (pos m)

-- S-19, S-20: unquantise in either format. A signed number of 16 bits stays; else the magnitude is unquantised, and the sign comes back.
unfoldable pub unquantized : Bool → ℕ → ℤ → ℤ
unquantized signed p c =
    pick signed
    (pick (leb 16 p) c (with_sign c (unquantize_m p (nat_abs c))))
    (pos (unquantize_u p (nat_abs c)))

-- S-21: between a and b at weight w, rounded down, also below zero: `shr_z z 64` is the floor of z / 64.
unfoldable pub interpolated : ℤ → ℤ → ℤ → ℤ
interpolated a b w = shr_z (a *ℤ (pos 64 -ℤ w) +ℤ b *ℤ w +ℤ pos 32) 64

-- S-25: the highest pattern, in both formats.
abbrev pub highest_pattern : ℕ
highest_pattern = 0x7BFF

-- S-25: minus infinity, which is shown exactly where the interpolated number is −32768.
abbrev pub minus_infinity : ℕ
minus_infinity = 0xFC00

-- S-23: scale, unsigned.
unfoldable pub finish_u : ℕ → ℕ
finish_u x = 31 * x / 64

-- S-24: scale, signed: by magnitude, with x's sign.
unfoldable pub scaled : ℤ → ℤ
scaled x = with_sign x (31 * nat_abs x / 32)

-- S-24: the sign bit is added only if the scaled number is below zero.
abbrev pub pattern : ℤ → ℕ
pattern (pos n) = n
pattern (negsuc n) = 0x8000 + (n + 1)

unfoldable pub finish_s : ℤ → ℕ
finish_s x = pattern (scaled x)

-- S-23, S-24: scale in either format.
unfoldable pub finished : Bool → ℤ → ℕ
finished signed x = pick signed (finish_s x) (finish_u (nat_abs x))

-- S-26: whether a number is −32768, which only a signed number is.
unfoldable pub is_lowest : Bool → ℤ → Bool
is_lowest signed (pos n) = false
is_lowest signed (negsuc n) = pick signed (eqb n 32767) false
