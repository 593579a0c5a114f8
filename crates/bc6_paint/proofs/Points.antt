-- A number between two of 16 bits, and its pattern. Assumes nothing.
use mathlib.Core.Path.{◌≡◌, ◌∙◌, sym, ap, subst}
use mathlib.Core.Bool.{Bool}
use mathlib.Core.List.{List}
use Prim.Native.Nat.{ℕ, ◌≤◌, ◌<◌}
use native.Mathlib.Omega.{arith}
use lib.IntN.{ℤ, pos}
use lib.ListN.{get_or}
use mir.Syntax.{w32}
use mir.Val.{Val, to_z, of_z}
use denote.Array.{each}
use denote.Shadow.{shadow}
use denote.Signed.{SInt}
use Rattle.laws.specs.Pick.{pick}
use Rattle.laws.specs.Ranges.{InBits, Within}
use Rattle.laws.proofs.Elements.{element_is}
use Rattle.bc6h_spec.specs.Half.{keep, interpolated, finished}
use Rattle.bc6h_spec.proofs.Ranges.{interpolated_in, in_16, keep_lt}
use Rattle.bc6_half.specs.declared.Half.{Half}
use Rattle.bc6_half.specs.Halves.{signed_number, half_of, marked}
use Rattle.bc6_half.proofs.Words.{number_in, number_kept}
use Rattle.bc6_half.proofs.Told.{half_marked}
use Rattle.bc6_endpoints.specs.Ends.{held_at}
use Rattle.bc6_paint.specs.Values.{point_of, shade_of, selected, shade_in, counted}
use Rattle.bc6_paint.proofs.Chosen.{selected_lt}

module _ (s : Bool) (a b w : ℕ) (ha : a < 65536) (hb : b < 65536) (hw : w ≤ 64) where
  -- what interpolating asks of two numbers
  pub ends_within : (x y : ℤ) → x ≡ signed_number s a → y ≡ signed_number s b → (Within 65536 x × Within 65536 y) × (w ≤ 64)
  ends_within x y ex ey =
      ((subst (Within 65536) (sym ex) (in_16 s (number_in s a ha)), subst (Within 65536) (sym ey) (in_16 s (number_in s b hb))), hw)

  pub point_is : (x y z : ℤ) → x ≡ signed_number s a → y ≡ signed_number s b → z ≡ interpolated x y (pos w) → z ≡ point_of s a b w
  unfolding point_of
  point_is x y z ex ey ez = ez ∙ (λ i. interpolated (ex i) (ey i) (pos w))

  pub point_in : InBits s 16 (point_of s a b w)
  unfolding point_of
  point_in = interpolated_in s (signed_number s a) (signed_number s b) (pos w) (record { nonneg = tt; below = omega arith }) (number_in s a ha) (number_in s b hb)

  -- the half-float of it: its pattern is the value, and it tells whether the value is minus infinity
  pub half_is : (z : ℤ) (h : Half) → z ≡ point_of s a b w → h ≡ half_of s z → h ≡ marked (shade_of s a b w)
  unfolding shade_of
  half_is z h ez eh = eh ∙ ap (half_of s) ez ∙ half_marked s (point_of s a b w) point_in

-- end e of a channel, as it is read, of which 16 bits are kept
pub held_is : (l : List ℤ) (us : List Val) (e : ℕ) {r : ℕ} → shadow (each ℤ (SInt w32).own_val l us) → r ≡ keep 16 (to_z w32 (of_z w32 (get_or l e (pos 0)))) → r ≡ held_at l e
held_is l us e p t = t ∙ ap (keep 16) (element_is l us e p)

-- end e of a channel has 16 bits
pub held_lt : (l : List ℤ) (e : ℕ) → held_at l e < 65536
held_lt l e = keep_lt 16 (get_or l e (pos 0))

-- what a channel's pixels are worked out of: its ends, two of each region
pub record Drawn (ends : List ℤ) (a b c d : ℕ) : Type 0 where
  pub front : a ≡ held_at ends 0
  pub back : b ≡ held_at ends 1
  pub front_second : c ≡ held_at ends 2
  pub back_second : d ≡ held_at ends 3

-- of the ends as they are read
pub drawn_of : (l : List ℤ) (us : List Val) → shadow (each ℤ (SInt w32).own_val l us) → {a b c d : ℕ}
    → a ≡ keep 16 (to_z w32 (of_z w32 (get_or l 0 (pos 0)))) → b ≡ keep 16 (to_z w32 (of_z w32 (get_or l 1 (pos 0))))
    → c ≡ keep 16 (to_z w32 (of_z w32 (get_or l 2 (pos 0)))) → d ≡ keep 16 (to_z w32 (of_z w32 (get_or l 3 (pos 0)))) → Drawn l a b c d
drawn_of l us p ea eb ec ed =
    record { front = held_is l us 0 p ea; back = held_is l us 1 p eb; front_second = held_is l us 2 p ec; back_second = held_is l us 3 p ed }

module _ (s : Bool) {ends : List ℤ} {a b c d : ℕ} (n : Drawn ends a b c d) (mask w : ℕ) (hw : w ≤ 64) where
  end_lt : {x y : ℕ} (e g : ℕ) → x ≡ held_at ends e → y ≡ held_at ends g → selected mask x y < 65536
  end_lt e g ex ey =
      subst (λ (n : ℕ). n < 65536) (λ i. selected mask (sym ex i) (sym ey i)) (selected_lt mask (held_at ends e) (held_at ends g) (held_lt ends e) (held_lt ends g))

  front_lt : selected mask a c < 65536
  front_lt = end_lt 0 2 n.front n.front_second

  back_lt : selected mask b d < 65536
  back_lt = end_lt 1 3 n.back n.back_second

  -- the number of a pixel, and its half-float
  pub drawn_in : InBits s 16 (point_of s (selected mask a c) (selected mask b d) w)
  drawn_in = point_in s _ _ w front_lt back_lt hw

  pub half_drawn : (z : ℤ) (h : Half) → z ≡ point_of s (selected mask a c) (selected mask b d) w → h ≡ half_of s z → h ≡ marked (shade_in s ends mask w)
  unfolding shade_in
  half_drawn z h ez eh =
      half_is s _ _ w front_lt back_lt hw z h ez eh
      ∙ (λ i. marked (shade_of s (selected mask (n.front i) (n.front_second i)) (selected mask (n.back i) (n.back_second i)) w))

-- its pattern, and what its flag adds to a count
pub shade : (h : Half) (v : ℕ) → h ≡ marked v → h.pattern ≡ v
unfolding marked
shade h v e = ap (λ (g : Half). g.pattern) e

pub adds : (h : Half) (v t : ℕ) → h ≡ marked v → t ≡ pick h.infinite 1 0 → t ≡ counted v
unfolding marked
adds h v t e et = et ∙ ap (λ (g : Half). pick g.infinite 1 0) e

-- between two numbers that were kept as 16 bits
pub worked_out : (s : Bool) (a b : ℤ) (w : ℕ) → InBits s 16 a → InBits s 16 b → shade_of s (keep 16 a) (keep 16 b) w ≡ finished s (interpolated a b (pos w))
unfolding shade_of point_of
worked_out s a b w ia ib = λ i. finished s (interpolated (number_kept s a ia i) (number_kept s b ib i) (pos w))
