use Rattle.text_probe.proofs.Shown.{all_numbers, map_shown, exr_shown}
use Rattle.text_probe.proofs.Answers.{face-fault, map-file, exr-file}
use Rattle.exr_square.proofs.Squares.{square_few}
use Rattle.text.proofs.Texts.{said}
use Rattle.probe_faces.proofs.Painting.{done_probe}
use Rattle.probe_faces.specs.Face.{face_fault}
use lib.ListN.{length-replicate}
use Prim.Native.Nat.{ℕ, ◌*◌}
use mathlib.Core.Path.{ap, ◌∙◌}
use native.Mathlib.Omega.{arith}
use borrow.Author.Rules.{rules}
use Rattle.text_probe.proofs.put_face.Goals as goal

pub returns-then-fault-ne-DONE : goal.returns-then-fault-ne-DONE
returns-then-fault-ne-DONE c = record { upper_bound = search rules; written = said c.put_fault.ensures.written (face-fault _ _ _ (c.probe_face-fault.ensures.answers ∙ ap (face_fault _ _ _) (length-replicate {A = ℕ} 12288 0)) _ c.if-fault-ne-DONE.true) }

pub put_square-requires : goal.put_square-requires
put_square-requires c =
    let p = done_probe c.probe_face-fault.ensures c.if-fault-ne-DONE.false in
    let few = square_few (4 * c.args.edge) (omega (arith, p.edge_last)) in
    record { le_edge = (p.edge_first, p.edge_last); edge_in_bounds = (search rules, search rules) }

pub returns-then-exr : goal.returns-then-exr
returns-then-exr c =
    let d = c.probe_face-fault.ensures in
    let z = c.if-fault-ne-DONE.false in
    record { upper_bound = search rules; written = said c.put_square.ensures.written (exr_shown d z ∙ exr-file _ _ _ (c.probe_face-fault.ensures.answers ∙ ap (face_fault _ _ _) (length-replicate {A = ℕ} 12288 0)) _ z c.if-exr.true) }

pub overflow_mul-edge : goal.overflow_mul-edge
overflow_mul-edge c = let l = (done_probe c.probe_face-fault.ensures c.if-fault-ne-DONE.false).edge_last in record { fits = omega arith }

pub put_image-requires : goal.put_image-requires
put_image-requires c =
    let d = c.probe_face-fault.ensures in
    let z = c.if-fault-ne-DONE.false in
    let first = (done_probe d z).edge_first in
    let last = (done_probe d z).edge_last in
    let few = square_few (4 * c.args.edge) (omega arith) in
    record { le_side = (omega arith, omega arith, search rules, search rules); pixels_numbers = all_numbers d z }

pub returns : goal.returns
returns c =
    let d = c.probe_face-fault.ensures in
    let z = c.if-fault-ne-DONE.false in
    record { upper_bound = search rules; written = said c.put_image.ensures.written (map_shown d z ∙ map-file _ _ _ (c.probe_face-fault.ensures.answers ∙ ap (face_fault _ _ _) (length-replicate {A = ℕ} 12288 0)) _ z c.if-exr.false) }
