use native.Mathlib.Omega.{arith}
use Rattle.store_faulty.proofs.Forms.{is_plain}
use Rattle.store_faulty.proofs.tile_of.Goals as goal

pub tile-requires-2 : goal.tile-requires-2
tile-requires-2 c = rw (is_plain 24 (λ e. omega arith)) (rw (is_plain _ c.if-form-eq-PLACED.false) at c.requires)

pub returns-then-form-eq-PLACED : goal.returns-then-form-eq-PLACED
returns-then-form-eq-PLACED c = rw c.if-form-eq-PLACED.true c.tile.ensures

pub returns : goal.returns
returns c = rw (is_plain _ c.if-form-eq-PLACED.false) (rw (is_plain 24 (λ e. omega arith)) at c.tile-2.ensures)
