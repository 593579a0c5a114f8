-- Minus infinity stands in blocks of mode 14 alone. Assumes nothing.
use mathlib.Core.Path.{◌≡◌, subst}
use mathlib.Core.Logic.{⊎_elim}
use mathlib.Core.Bool.{true}
use Prim.Native.Nat.{ℕ, zero, suc, ◌%◌, ◌≤◌, ◌<◌}
use native.Mathlib.Omega.{arith}
use lib.Arith.{lt_of_le-ne}
use lib.IntN.{ℤ, pos, negsuc, nat_abs}
use borrow.Author.Tests.{lt-leb}
use Rattle.laws.specs.Made.{count_of}
use Rattle.laws.proofs.Counts.{count_never}
use Rattle.bc6h_spec.specs.declared.Fields.{Fields}
use Rattle.bc6h_spec.specs.Layout.{precision}
use Rattle.bc6h_spec.specs.Fields.{Valid}
use Rattle.bc6h_spec.specs.Half.{with_sign, unquantize_m, unquantized, highest_pattern, minus_infinity}
use Rattle.bc6h_spec.specs.Picture.{value, value_count, picture_as}
use Rattle.bc6h_spec.proofs.Ranges.{u_m_le, Span, interpolated_span}
use Rattle.bc6h_spec.proofs.Widths.{known}
use Rattle.bc6h_spec.proofs.Shown.{weight_below, value_signed}

-- −32767 ≤ z ≤ 32767: all numbers of 16 bits but −32768
abbrev Inner : ℤ → Type 0
Inner = Span 32767 32767

inner_not : (z : ℤ) → Inner z → z ≡ negsuc 32767 → ⊥
inner_not z s e = let h : 32768 ≤ 32767 = (subst Inner e s).within in omega arith

inner_sign : (c : ℤ) (m : ℕ) → m ≤ 32767 → Inner (with_sign c m)
inner_sign (pos n) m h = record { within = h }
inner_sign (negsuc n) zero h = record { within = h }
inner_sign (negsuc n) (suc m) h = record { within = h }

-- below sixteen bits −32768 is not unquantised to
inner_end : (p : ℕ) (c : ℤ) → p < 16 → Inner (unquantized true p c)
unfolding unquantized
inner_end p c h = rw (lt-leb 16 p h) (inner_sign c (unquantize_m p (nat_abs c)) (u_m_le p (nat_abs c)))

module _ (f : Fields) (v : Valid f) (other : f.mode ≡ 14 → ⊥) where
  few : precision f.mode < 16
  few =
      let most : f.mode < 14 = lt_of_le-ne v.mode_last other in
      let h : precision f.mode ≤ 12 = (known f v).few (omega arith) in
      omega arith

  -- between two such ends lies none that is scaled to 0xFC00
  value_finite : (j : ℕ) → value true f j ≡ minus_infinity → ⊥
  value_finite j e =
      ⊎_elim
      (λ lowest. inner_not _ (interpolated_span 32767 32767 _ _ _ (weight_below f.mode _) (inner_end (precision f.mode) _ few) (inner_end (precision f.mode) _ few)) lowest.0)
      (λ low. let h : value true f j % 0x8000 ≤ highest_pattern = low in omega (arith, e, h)) (value_signed f v j)

-- no value of a signed picture of another mode is minus infinity
pub narrow_finite : (f : Fields) → Valid f → (f.mode ≡ 14 → ⊥) → count_of minus_infinity (picture_as true f) ≡ 0
unfolding picture_as
narrow_finite f v other = count_never minus_infinity (value true f) (value_finite f v other) value_count
