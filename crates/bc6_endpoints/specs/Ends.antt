-- S-17 to S-20: the endpoints of a block, from what is stored. Assumes nothing.
use Rattle.std.specs.Prelude.{◌≡◌, Bool, true, false, List, ℕ, ◌^◌, ◌≤◌, ◌<◌, eqb, ℤ, pos, nat_abs, get_or}
use Rattle.laws.specs.Pick.{pick}
use Rattle.laws.specs.Ranges.{Below}
use Rattle.bc6h_spec.specs.Half.{sign_extend, keep, transform, unquantized}
use Rattle.bc6h_spec.specs.Picture.{first_end, other_end}
use Rattle.bc6_endpoints.specs.declared.Ends.{Ends}

-- S-19, S-20: an endpoint, unquantised, as 16 bits
unfoldable pub word_of : Bool → ℕ → ℤ → ℕ
word_of signed p z = keep 16 (unquantized signed p z)

-- S-17, S-19, S-20: an endpoint of p bits that is stored whole, unquantised
unfoldable pub whole_of : Bool → ℕ → ℕ → ℤ
whole_of signed p n = unquantized signed p (first_end signed p n)

-- S-18 to S-20: an endpoint that is stored as a difference of w bits from a first one of p, unquantised
unfoldable pub moved_of : Bool → ℕ → ℕ → ℕ → ℕ → ℤ
moved_of signed p w first n = unquantized signed p (other_end signed true p w (first_end signed p first) n)

-- how both are worked out: the difference is added to p bits as they are stored
unfoldable pub end_of : Bool → ℕ → ℕ → ℤ → ℤ → ℤ
end_of signed p w base x = unquantized signed p (transform signed p base (sign_extend w (nat_abs x)))

-- endpoint e of a channel, whose stored numbers are `at`: the first is whole, the others are differences from it
abbrev pub end_from : Bool → ℕ → ℕ → (ℕ → ℕ) → ℕ → ℤ
end_from signed p w at e = pick (eqb e 0) (whole_of signed p (at 0)) (moved_of signed p w (at 0) (at e))

-- ---- a channel: four numbers on i32

-- S-15: number e of them, and as it is stored
abbrev pub end_at : List ℤ → ℕ → ℤ
end_at l e = get_or l e (pos 0)

abbrev pub stored_in : List ℤ → ℕ → ℕ
stored_in l e = nat_abs (end_at l e)

-- S-16, S-17: p bits, and differences of w bits, of less than fifteen bits
pub record Narrow (p w : ℕ) : Type 0 where
  pub some : 1 ≤ w
  pub own : w ≤ p
  pub most : p < 15

-- p bits, and a difference of w bits from them
pub record Apart (p w : ℕ) (base x : ℤ) : Type 0 where
  pub narrow : Narrow p w
  pub whole : Below (2 ^ p) base
  pub few : Below (2 ^ w) x

-- S-17 to S-20: the first of p bits, and the others' differences of w bits
pub record Channel (p w : ℕ) (n : List ℤ) : Type 0 where
  pub narrow : Narrow p w
  pub first : Below (2 ^ p) (end_at n 0)
  pub second : Below (2 ^ w) (end_at n 1)
  pub third : Below (2 ^ w) (end_at n 2)
  pub fourth : Below (2 ^ w) (end_at n 3)

pub record ChannelEnds (signed : Bool) (p w : ℕ) (n r : List ℤ) : Type 0 where
  pub each : (e : ℕ) → e < 4 → end_at r e ≡ end_from signed p w (stored_in n) e

-- S-17, S-19, S-20: all of p bits, stored whole
pub record StoredWhole (p : ℕ) (n : List ℤ) : Type 0 where
  pub narrow : Narrow p p
  pub first : Below (2 ^ p) (end_at n 0)
  pub second : Below (2 ^ p) (end_at n 1)
  pub third : Below (2 ^ p) (end_at n 2)
  pub fourth : Below (2 ^ p) (end_at n 3)

pub record WholeEnds (signed : Bool) (p : ℕ) (n r : List ℤ) : Type 0 where
  pub each : (e : ℕ) → e < 4 → end_at r e ≡ whole_of signed p (stored_in n e)

-- S-18: sixteen bits, and their sum with a difference of four, of which sixteen bits are kept
pub record Sixteen (n r : List ℤ) : Type 0 where
  pub first : end_at r 0 ≡ end_at n 0
  pub second : end_at r 1 ≡ transform false 16 (end_at n 0) (sign_extend 4 (stored_in n 1))

-- ---- a block's ends, as 16 bits

-- S-19, S-20: end e of a channel
abbrev pub held_at : List ℤ → ℕ → ℕ
held_at l e = keep 16 (end_at l e)

-- channel c of a block
abbrev pub channel_of : Ends → ℕ → List ℤ
channel_of r c = pick (eqb c 0) r.red (pick (eqb c 1) r.green r.blue)

-- channel c of end e
abbrev pub end_in : Ends → ℕ → ℕ → ℕ
end_in r e c = held_at (channel_of r c) e
