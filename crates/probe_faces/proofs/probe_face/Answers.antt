use mathlib.Core.Path.{refl, sym, ◌∙◌}
use Rattle.probe.proofs.Holding.{held_none}
use Rattle.probe.proofs.Asking.{is_probe}
use Rattle.probe_faces.proofs.Painting.{roomy, painted_fault, painted_refused, painted_done}
use Rattle.probe_faces.proofs.probe_face.Goals as goal

pub check_places-fault-requires : goal.check_places-fault-requires
check_places-fault-requires c = held_none _ _ refl

pub returns-then-fault-ne-DONE : goal.returns-then-fault-ne-DONE
returns-then-fault-ne-DONE c = painted_fault _ _ c.check_places-fault.ensures c.if-fault-ne-DONE.true

pub face_refusal-refusal-requires : goal.face_refusal-refusal-requires
face_refusal-refusal-requires c = (is_probe c.check_places-fault.ensures c.if-fault-ne-DONE.false).edge_last

pub returns-then-refusal-ne-DONE : goal.returns-then-refusal-ne-DONE
returns-then-refusal-ne-DONE c = painted_refused _ _ c.check_places-fault.ensures c.if-fault-ne-DONE.false c.face_refusal-refusal.ensures c.if-refusal-ne-DONE.true c.alone.ensures

pub paint_rows-requires : goal.paint_rows-requires
paint_rows-requires c = let d = c.check_places-fault.ensures in let z = c.if-fault-ne-DONE.false in let r = roomy _ _ _ (sym c.face_refusal-refusal.ensures ∙ c.if-refusal-ne-DONE.false) in record { probe = is_probe d z; held = d.holds z; face_lt_face_count = (r.on_face, r.enough) }

pub returns : goal.returns
returns c = painted_done _ _ c.check_places-fault.ensures c.if-fault-ne-DONE.false c.face_refusal-refusal.ensures c.if-refusal-ne-DONE.false c.none.ensures c.paint_rows.ensures
