-- `bc6_colour::unquantize` meets its contract: by the format and the width. Assumes nothing.
use mathlib.Core.Path.{◌≡◌, sym, ap, subst, ◌∙◌}
use mathlib.Core.Bool.{Bool}
use Prim.Native.Nat.{ℕ}
use lib.IntN.{ℤ, pos, nat_abs}
use mir.Syntax.{w32}
use mir.ValLaws.{to_z-of_z}
use borrow.Author.Tests.{le-leb}
use Rattle.laws.specs.Ranges.{InBits}
use Rattle.laws.specs.Pick.{pick}
use Rattle.bc6h_spec.specs.Half.{with_sign, unquantize_u, unquantize_m, unquantized}
use Rattle.bc6_colour.proofs.unquantize.Goals as goal

-- the range, where the format is known
at : {signed t : Bool} {bits : ℕ} {c : ℤ} → signed ≡ t → InBits signed bits c → InBits t bits c
at {bits = p} {c = x} e h = subst (λ (t : Bool). InBits t p x) e h

-- the definition, where the format is known
told : {signed t : Bool} (bits : ℕ) (c : ℤ) → signed ≡ t → unquantized t bits c ≡ unquantized signed bits c
told p x e = sym (ap (λ (t : Bool). unquantized t p x) e)

pub returns-then-not-signed : goal.returns-then-not-signed
unfolding unquantized
returns-then-not-signed c =
    to_z-of_z w32 c.unquantize_unsigned.result (record { sfits = c.unquantize_unsigned.type_inv })
    ∙ c.unquantize_unsigned.ensures
    ∙ ap (λ (z : ℤ). pos (unquantize_u c.args.bits (nat_abs z))) (to_z-of_z w32 c.args.c c.ranges.c)
    ∙ told c.args.bits c.args.c (c.if-not-signed.true)

pub returns-then-bits-ge16 : goal.returns-then-bits-ge16
unfolding unquantized
returns-then-bits-ge16 c =
    to_z-of_z w32 c.args.c c.ranges.c
    ∙ sym (ap (λ (t : Bool). pick t c.args.c (with_sign c.args.c (unquantize_m c.args.bits (nat_abs c.args.c)))) (le-leb 16 c.args.bits c.if-bits-ge16.true))
    ∙ told c.args.bits c.args.c (c.if-not-signed.false)
