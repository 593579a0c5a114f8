use mathlib.Core.Path.{◌∙◌, ap}
use native.Mathlib.Omega.{arith}
use Rattle.probe.specs.Probe.{place_number}
use Rattle.probe.proofs.Spots.{parts, refused_first, off_face, past_column, past_row, by_taken, by_free}
use Rattle.probe.proofs.Holding.{held_taken, held_free}
use Rattle.probe.proofs.record_fault.Goals as goal

pub returns-then-refusal-ne-DONE : goal.returns-then-refusal-ne-DONE
returns-then-refusal-ne-DONE c = refused_first _ _ _ c.place_record_refusal-refusal.ensures c.if-refusal-ne-DONE.true

pub returns-then-place-ge-FACES : goal.returns-then-place-ge-FACES
returns-then-place-ge-FACES c = off_face _ _ _ c.place_record_refusal-refusal.ensures c.if-refusal-ne-DONE.false (let q = parts c.place_at-place.ensures in omega arith)

pub returns-then-from-edge : goal.returns-then-from-edge
returns-then-from-edge c = past_column _ _ _ c.place_record_refusal-refusal.ensures c.if-refusal-ne-DONE.false (let q = parts c.place_at-place.ensures in omega arith) (let q = parts c.place_at-place.ensures in omega arith)

pub returns-then-from-edge-2 : goal.returns-then-from-edge-2
returns-then-from-edge-2 c = past_row _ _ _ c.place_record_refusal-refusal.ensures c.if-refusal-ne-DONE.false (let q = parts c.place_at-place.ensures in omega arith) (let q = parts c.place_at-place.ensures in omega arith) (let q = parts c.place_at-place.ensures in omega arith)

pub returns-then-holders-number-ne0 : goal.returns-then-holders-number-ne0
returns-then-holders-number-ne0 c = let s = c.requires in by_taken _ _ _ c.place_record_refusal-refusal.ensures c.if-refusal-ne-DONE.false (let q = parts c.place_at-place.ensures in omega arith) (let q = parts c.place_at-place.ensures in omega arith) (let q = parts c.place_at-place.ensures in omega arith) (held_taken s.held s.edge_le_edge_limit s.by_index (let q = parts c.place_at-place.ensures in omega arith) (let q = parts c.place_at-place.ensures in omega arith) (c.number_of-number.ensures.0 ∙ ap place_number c.place_at-place.ensures) c.if-holders-number-ne0.true)

pub returns : goal.returns
returns c = let s = c.requires in by_free _ _ _ c.place_record_refusal-refusal.ensures c.if-refusal-ne-DONE.false (let q = parts c.place_at-place.ensures in omega arith) (let q = parts c.place_at-place.ensures in omega arith) (let q = parts c.place_at-place.ensures in omega arith) (held_free s.held s.edge_le_edge_limit s.by_index (let q = parts c.place_at-place.ensures in omega arith) (let q = parts c.place_at-place.ensures in omega arith) (c.number_of-number.ensures.0 ∙ ap place_number c.place_at-place.ensures) c.if-holders-number-ne0.false)
