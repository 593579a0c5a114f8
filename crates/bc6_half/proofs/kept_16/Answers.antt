-- `bc6_half::kept_16` meets its contract. Assumes nothing.
use mathlib.Core.Path.{◌≡◌, ◌∙◌, ap}
use native.Mathlib.Omega.{arith}
use lib.IntN.{ℤ, pos}
use mir.Syntax.{w32}
use mir.ValLaws.{to_z-of_z}
use Rattle.laws.proofs.Num.{Num, given, to_u16}
use Rattle.bc6h_spec.specs.Half.{keep}
use Rattle.bc6h_spec.proofs.Ranges.{keep_lt}
use Rattle.bc6_half.proofs.kept_16.Goals as goal

pub overflow_cast-result : goal.overflow_cast-result
overflow_cast-result c =
    let told : c.keep_bits.result ≡ pos (keep 16 c.args.x) = c.keep_bits.ensures ∙ ap (λ (z : ℤ). pos (keep 16 z)) (to_z-of_z w32 c.args.x c.ranges.x) in
    let out : Num = given 65535 c.keep_bits.result (record { sfits = c.keep_bits.type_inv }) (rw told (omega (arith, keep_lt 16 c.args.x))) in
    to_u16 out told (keep_lt 16 c.args.x)
