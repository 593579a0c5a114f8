-- `bc6_runs::one_region::tens` meets its contract. Assumes nothing.
use native.Mathlib.Omega.{arith}
use lib.Bits.{and_le_r}
use Rattle.bc6_runs.proofs.Threes.{tens_are}
use Rattle.bc6_runs.proofs.one_region.tens.Goals as goal

pub overflow_add-result : goal.overflow_add-result
overflow_add-result c = omega (arith, and_le_r c.args.word 0x3FF, and_le_r c.args.word 0xFFC00)

pub overflow_add-result-2 : goal.overflow_add-result-2
overflow_add-result-2 c = omega (arith, and_le_r c.args.word 0x3FF, and_le_r c.args.word 0xFFC00, and_le_r c.args.word 0x3FF00000)

pub returns : goal.returns
returns c = tens_are c.args.word
