use native.Mathlib.Omega.{arith}
use Rattle.store_faulty.proofs.Forms.{size_some}
use Rattle.store_faulty.proofs.records_in.Goals as goal

pub nonzero_div-result : goal.nonzero_div-result
nonzero_div-result g c = omega (arith, size_some g.F.Form.byte)

pub returns : goal.returns
returns g c = rw c.size.ensures
