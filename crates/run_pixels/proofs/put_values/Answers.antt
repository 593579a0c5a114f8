-- `run_pixels::put_values` meets its contract: two stores a turn. Assumes nothing.
use borrow.Author.Rules.{rules}
use Prim.Native.Nat.{◌*◌}
use native.Mathlib.Omega.{arith}
use Rattle.laws.proofs.Rows.{made_none, made_upto}
use Rattle.run_pixels.proofs.Bytes.{two_stored, le_low, le_high}
use Rattle.run_pixels.proofs.put_values.Goals as goal

pub loop-j-init : goal.loop-j-init
loop-j-init c = made_none _ _

pub loop-j-preserved : goal.loop-j-preserved
loop-j-preserved c =
    let l = c.loop-j in
    two_stored _ _ l.out l.j _ _ (le_low _ c.to_le_bytes.ensures) (le_high _ (search rules) c.to_le_bytes.ensures) (omega arith) (omega arith) l.invariant

pub returns : goal.returns
returns c = made_upto _ _ _ 96 (2 * c.loop-j.j) c.loop-j.invariant (omega arith) (omega arith)
