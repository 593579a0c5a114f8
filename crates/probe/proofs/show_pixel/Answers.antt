use native.Mathlib.Omega.{arith}
use Rattle.probe.proofs.Asking.{record_triple}
use Rattle.probe.proofs.show_pixel.Goals as goal

pub held_record-n-requires : goal.held_record-n-requires
held_record-n-requires c = let s = c.requires in let i = s.in_range in record { probe = s.probe; held = s.held; face_lt_face_count = (i.face_inside, omega arith, omega arith) }

pub triple_at-requires : goal.triple_at-requires
triple_at-requires c = let o = c.held_record-n.ensures in (o.inside, o.format, omega arith)

pub returns : goal.returns
returns c = record_triple _ _ c.held_record-n.ensures c.triple_at.ensures
