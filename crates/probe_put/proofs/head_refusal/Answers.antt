-- `probe_put::head_refusal` meets its contract. Assumes nothing.
use Rattle.probe_put.proofs.Checks.{head_other, head_own}
use Rattle.probe_put.proofs.head_refusal.Goals as goal

pub returns-then-refusal-eq-BAD_PLACE : goal.returns-then-refusal-eq-BAD_PLACE
returns-then-refusal-eq-BAD_PLACE c = head_other _ _ c.place_record_refusal-refusal.ensures c.if-refusal-eq-BAD_PLACE.true

pub returns : goal.returns
returns c = head_own _ _ c.place_record_refusal-refusal.ensures c.if-refusal-eq-BAD_PLACE.false
