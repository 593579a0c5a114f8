use native.Mathlib.Omega.{arith}
use Rattle.store_faulty.proofs.Forms.{is_plain}
use Rattle.store_faulty.proofs.store_refusal.Goals as goal

pub returns-then-form-eq-PLACED : goal.returns-then-form-eq-PLACED
returns-then-form-eq-PLACED c = rw c.if-form-eq-PLACED.true c.refusal_in.ensures

pub returns : goal.returns
returns c = rw (is_plain _ c.if-form-eq-PLACED.false) (rw (is_plain 24 (λ e. omega arith)) at c.refusal_in-2.ensures)
