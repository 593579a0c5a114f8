-- `bc6_table::bit_at` meets its contract: one bit, moved by less than the width, is not cut. Assumes nothing.
use native.Mathlib.Omega.{arith}
use lib.Pow.{shl_exact}
use Rattle.bc6_table.proofs.bit_at.Goals as goal

pub returns : goal.returns
returns c = shl_exact 1 c.args.at 16 c.requires.0 (omega arith)
