use Rattle.knotpasture.proofs.ProbeWords.{face_called}
use Rattle.knotpasture.proofs.probes.knot_probe_face.Goals as goal

pub returns : goal.returns
returns c = face_called c.probe_face.ensures
