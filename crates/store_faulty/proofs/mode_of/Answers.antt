use native.Mathlib.Omega.{arith}
use Rattle.store_faulty.proofs.Forms.{is_plain}
use Rattle.store_faulty.proofs.mode_of.Goals as goal

pub mode_in-requires-2 : goal.mode_in-requires-2
mode_in-requires-2 c = rw (is_plain 24 (λ e. omega arith)) (rw (is_plain _ c.if-form-eq-PLACED.false) at c.requires)

pub returns-then-form-eq-PLACED : goal.returns-then-form-eq-PLACED
returns-then-form-eq-PLACED c = rw c.if-form-eq-PLACED.true c.mode_in.ensures

pub returns : goal.returns
returns c = rw (is_plain _ c.if-form-eq-PLACED.false) (rw (is_plain 24 (λ e. omega arith)) at c.mode_in-2.ensures)
