-- The transform of sixteen bits by a difference of four. Assumes nothing.
use mathlib.Core.Path.{◌≡◌, ◌∙◌, sym, ap, subst}
use mathlib.Core.Bool.{true}
use mathlib.Core.List.{List}
use Prim.Native.Nat.{◌^◌, ◌<◌, ◌≤◌}
use native.Mathlib.Omega.{arith}
use lib.Dec.{lit<, lit≤}
use lib.IntN.{ℤ, nat_abs}
use lib.Signed.{mag}
use mir.Syntax.{w32}
use mir.Val.{to_z, of_z}
use Rattle.laws.specs.Ranges.{Below, Within}
use Rattle.laws.proofs.Num.{read}
use Rattle.bc6h_spec.specs.Half.{sign_extend}
use Rattle.bc6h_spec.specs.Picture.{delta}
use Rattle.bc6h_spec.proofs.Ranges.{delta_within}
use Rattle.bc6_endpoints.specs.Ends.{end_at, stored_in}
use Rattle.bc6_endpoints.proofs.Channels.{size, back}

module _ (n : List ℤ) (whole : Below (2 ^ 16) (end_at n 0)) (few : Below (2 ^ 4) (end_at n 1)) (d : ℤ) (ok : mag d < 2147483648)
    (told : d ≡ sign_extend 4 (nat_abs (to_z w32 (of_z w32 (end_at n 1))))) where
  first_is : to_z w32 (of_z w32 (end_at n 0)) ≡ end_at n 0
  first_is = back whole (lit≤ tt)

  difference : to_z w32 (of_z w32 d) ≡ sign_extend 4 (stored_in n 1)
  difference = read ok (told ∙ ap (λ (z : ℤ). sign_extend 4 (nat_abs z)) (back few (lit≤ tt)))

  within : Within 65536 (sign_extend 4 (stored_in n 1))
  unfolding delta
  within = delta_within true true 4 (stored_in n 1) (lit< tt) (lit≤ tt) (size few)

  pub transform_asks : (0 < 16) × (16 ≤ 16) × (Within 65536 (to_z w32 (of_z w32 (end_at n 0))) × Within 65536 (to_z w32 (of_z w32 d)))
  transform_asks = (
    lit< tt,
    lit≤ tt,
    (subst (Within 65536) (sym first_is) (record { inside = omega (arith, whole.below) }), subst (Within 65536) (sym difference) within),
  )
