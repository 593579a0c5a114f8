-- `bc6_colour::unquantize_unsigned` meets its contract: by the width. Assumes nothing.
use mathlib.Core.Path.{sym, ap, ◌∙◌}
use lib.IntN.{pos, nat_abs}
use lib.Signed.{pos-nat_abs}
use mir.Syntax.{w32}
use mir.ValLaws.{to_z-of_z}
use Rattle.bc6_colour.proofs.Unquantising.{u_u_wide}
use Rattle.bc6_colour.proofs.unquantize_unsigned.Goals as goal

pub returns-then-bits-ge15 : goal.returns-then-bits-ge15
returns-then-bits-ge15 c =
    to_z-of_z w32 c.args.c c.ranges.c ∙ sym (pos-nat_abs c.args.c c.requires.2.nonneg)
    ∙ ap pos (sym (u_u_wide c.args.bits (nat_abs c.args.c) c.if-bits-ge15.true))
