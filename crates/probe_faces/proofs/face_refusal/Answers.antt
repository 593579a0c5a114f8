use Rattle.probe_faces.proofs.Painting.{off_face, short, fine}
use borrow.Author.Rules.{rules}
use Rattle.probe_faces.proofs.face_refusal.Goals as goal

pub returns-then-face-ge-FACES : goal.returns-then-face-ge-FACES
returns-then-face-ge-FACES c = off_face _ _ _ (search rules)

pub returns-then-room-edge : goal.returns-then-room-edge
returns-then-room-edge c = short _ _ _ (search rules) (search rules)

pub returns : goal.returns
returns c = fine _ _ _ (search rules) (search rules)
