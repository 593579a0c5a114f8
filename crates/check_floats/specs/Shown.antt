-- S-64, S-74: what is written of a float: its bits, and 0x7FC00000 of what is no number. Assumes nothing.
use Rattle.std.specs.Prelude.{ℕ, Float}
use Rattle.std.specs.Float.{nan, inf, fin, binary32}
use Rattle.std.specs.Float.Ieee.{to_bits}

unfoldable pub float_bits : Float → ℕ
float_bits nan = 0x7FC00000
float_bits (inf s) = to_bits binary32 (inf s)
float_bits (fin s m e) = to_bits binary32 (fin s m e)
