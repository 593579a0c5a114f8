use Rattle.probe_moves.proofs.Checks.{refused_before, is_placed, not_placed}
use Rattle.probe_moves.proofs.back_refusal.Goals as goal

pub returns-then-refusal-ne-DONE : goal.returns-then-refusal-ne-DONE
returns-then-refusal-ne-DONE c = refused_before _ _ c.place_record_refusal-refusal.ensures c.if-refusal-ne-DONE.true

pub returns-then-place_at-lt-FACES : goal.returns-then-place_at-lt-FACES
returns-then-place_at-lt-FACES c = is_placed _ _ c.place_record_refusal-refusal.ensures c.if-refusal-ne-DONE.false c.place_at.ensures c.if-place_at-lt-FACES.true

pub returns : goal.returns
returns c = not_placed _ _ c.place_record_refusal-refusal.ensures c.if-refusal-ne-DONE.false c.place_at.ensures c.if-place_at-lt-FACES.false
