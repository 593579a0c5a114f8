use native.Mathlib.Omega.{arith}
use Rattle.probe.proofs.Asking.{holder_there, holder_record}
use Rattle.probe.proofs.held_record.Goals as goal

pub number_at-number-requires : goal.number_at-number-requires
number_at-number-requires c = let s = c.requires in let l = s.probe.edge_last in let f = s.face_lt_face_count in (f.0, omega arith, omega arith)

pub overflow_sub-result : goal.overflow_sub-result
overflow_sub-result c = let s = c.requires in let f = s.face_lt_face_count in omega (arith, holder_there s.probe s.held f.0 f.1 f.2 c.number_at-number.ensures.0 c.from.ensures)

pub returns : goal.returns
returns c = let s = c.requires in let f = s.face_lt_face_count in holder_record s.probe s.held f.0 f.1 f.2 c.number_at-number.ensures.0 c.from.ensures
