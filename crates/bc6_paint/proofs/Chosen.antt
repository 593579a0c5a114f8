-- A mask selects one of two numbers. Assumes nothing.
use mathlib.Core.Path.{◌≡◌, ◌∙◌, ap₂}
use mathlib.Core.Bool.{Bool, true, false}
use Prim.Native.Nat.{ℕ, ◌<◌}
use native.Mathlib.Nat.{mod-eq_of_lt, lt_of_le_of_lt}
use lib.Bits.{bit_and, bit_or, bit_xor, and_comm, and_le_l, and_mask, and_zero_l, or_lt, or_zero_r}
use Rattle.laws.specs.Pick.{pick}
use Rattle.bc6_paint.specs.Values.{region_mask, selected}

-- all bits, and none
all : (a : ℕ) → a < 65536 → bit_and a 0xFFFF ≡ a
all a h = and_mask a 16 ∙ mod-eq_of_lt h

none : (a : ℕ) → bit_and a 0 ≡ 0
none a = and_comm a 0 ∙ and_zero_l a

-- all ones select the other number, zeros the number itself
pub selected_is : (t : Bool) (a c : ℕ) → a < 65536 → c < 65536 → selected (region_mask t) a c ≡ pick t c a
selected_is true a c ha hc = ap₂ bit_or (none a) (all c hc)
selected_is false a c ha hc = ap₂ bit_or (all a ha) (none c) ∙ or_zero_r a

pub selected_lt : (mask a c : ℕ) → a < 65536 → c < 65536 → selected mask a c < 65536
selected_lt mask a c ha hc =
    or_lt 16 (bit_and a (bit_xor mask 0xFFFF)) (bit_and c mask) (lt_of_le_of_lt (and_le_l a (bit_xor mask 0xFFFF)) ha) (lt_of_le_of_lt (and_le_l c mask) hc)
