-- S-16 to S-20: the ends of a block, from its bits. Assumes nothing.
use Rattle.std.specs.Prelude.{◌≡◌, Bool, ℕ, ◌≤◌, ◌<◌, eqb}
use Rattle.laws.specs.Pick.{pick}
use Rattle.bc6h_spec.specs.Layout.{precision, own_width, transformed}
use Rattle.bc6h_spec.specs.Fields.{mode_in}
use Rattle.bc6h_spec.specs.Picture.{first_end, other_end}
use Rattle.bc6_runs.specs.declared.Channels.{Channels}
use Rattle.bc6_runs.specs.Ends.{places_of, ChannelsRead}
use Rattle.bc6_endpoints.specs.Ends.{word_of, Sixteen, end_in}
use Rattle.bc6_endpoints.specs.declared.Ends.{Ends}

-- channel c of endpoint e of mode m in the bits n: after the transform, unquantised, as 16 bits
unfoldable pub end_word : Bool → ℕ → ℕ → ℕ → ℕ → ℕ
end_word s m n e c =
    let p = precision m in
    let first = first_end s p (places_of m n c 0) in
    word_of s p (pick (eqb e 0) first (other_end s (transformed m) p (own_width m c) first (places_of m n c e)))

-- the first so many of each channel
pub record EndsOf (count : ℕ) (s : Bool) (m n : ℕ) (r : Ends) : Type 0 where
  pub each : (c e : ℕ) → c < 3 → e < count → end_in r e c ≡ end_word s m n e c

-- of a block, by its mode: of two regions four, of one region two
pub record BlockEnds (s : Bool) (n : ℕ) (r : Ends) : Type 0 where
  pub two : mode_in n ≤ 10 → EndsOf 4 s (mode_in n) n r
  pub one : 10 < mode_in n → EndsOf 2 s (mode_in n) n r

-- mode 14, in either format: sixteen bits, and a difference from them
pub record SixteenEnds (n : ℕ) (r : Ends) : Type 0 where
  pub stored : Channels
  pub read : ChannelsRead 14 n stored
  pub red : Sixteen stored.red r.red
  pub green : Sixteen stored.green r.green
  pub blue : Sixteen stored.blue r.blue
