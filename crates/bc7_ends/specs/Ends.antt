-- S-69: the endpoints of a block as bytes. Assumes nothing.
use Rattle.std.specs.Prelude.{◌≡◌, List, [], ◌∷◌, ◌++◌, ℕ, ◌+◌, ◌*◌, ◌/◌, ◌%◌, ◌^◌, ◌<◌, ◌≤◌, eqb, get_or, drop, replicate}
use Rattle.laws.specs.Pick.{pick}
use Rattle.laws.specs.Bit.{bit}
use Rattle.laws.specs.Made.{made}
use Rattle.bc7_spec.specs.Fields.{field_in}
use Rattle.bc7_spec.specs.Bytes.{widened, opaque}
use Rattle.laws.specs.Ranges.{AllBelow}

-- r is the number that `count` bits from bit `at` of n on make
pub record RunRead (n at count r : ℕ) : Type 0 where
  pub is : r ≡ n / 2 ^ at % 2 ^ count
  pub small : r < 2 ^ count

-- a width that a channel has: none, or, with d for its P-bit, 5 to 8; and `count` fields of it fit a run
pub record Wide (w d count : ℕ) : Type 0 where
  pub p_bit : d ≤ 1
  pub low : 5 ≤ pick (eqb w 0) 5 (w + d)
  pub high : w + d ≤ 8
  pub fits : w * count ≤ 32

-- endpoint e's channel, from the run of the channel: w bits each, and d P-bits (none or one), which stand in p
unfoldable pub end_of : ℕ → ℕ → ℕ → ℕ → ℕ → ℕ
end_of run w p d e = pick (eqb w 0) opaque (widened (w + d) (field_in w run e * 2 ^ d + bit p e * d))

-- number j: channel j mod 4 of endpoint j div 4
unfoldable pub end_at : ℕ → ℕ → ℕ → ℕ → ℕ → ℕ → ℕ → ℕ → ℕ → ℕ
end_at r g b a w wa p d j = end_of (get_or (r ∷ g ∷ b ∷ a ∷ []) (j % 4) 0) (pick (eqb (j % 4) 3) wa w) p d (j / 4)

-- what `ends_of` answers: `count` endpoints, and zeros
pub record Ended (count r g b a w wa p d : ℕ) (ends : List ℕ) : Type 0 where
  pub is : ends ≡ made (end_at r g b a w wa p d) (4 * count) ++ drop (4 * count) (replicate 24 0)
  pub small : AllBelow 256 ends

-- what `ends_in` answers: the runs of the four channels stand one after the other from bit `at` of n on
abbrev pub EndedIn : ℕ → ℕ → ℕ → ℕ → ℕ → ℕ → ℕ → List ℕ → Type 0
EndedIn n at count w wa p d ends =
    Ended count
    (n / 2 ^ at % 2 ^ (count * w))
    (n / 2 ^ (at + count * w) % 2 ^ (count * w))
    (n / 2 ^ (at + count * w + count * w) % 2 ^ (count * w))
    (n / 2 ^ (at + count * w + count * w + count * w) % 2 ^ (count * wa))
    w wa p d ends
