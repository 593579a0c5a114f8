-- `check_floats::bits_of` meets its contract. Assumes nothing.
use mathlib.Core.Path.{ap, ◌∙◌}
use Rattle.check_floats.specs.Shown.{float_bits}
use Rattle.check_floats.proofs.Bits.{itself, shown_none, shown_number}
use Rattle.check_floats.proofs.bits_of.Goals as goal

pub returns-then-value : goal.returns-then-value
returns-then-value c = shown_none _ c.if-value.true ∙ ap float_bits c.float_of-value.ensures

pub float_to_bits-result : goal.float_to_bits-result
float_to_bits-result c = itself _ c.if-value.false

pub returns : goal.returns
returns c = shown_number _ (itself _ c.if-value.false) ∙ ap float_bits c.float_of-value.ensures
