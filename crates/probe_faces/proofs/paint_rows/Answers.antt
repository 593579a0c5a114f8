use Prim.Native.Nat.{ℕ, ◌≤◌, ◌+◌, ◌-◌, ◌*◌}
use mathlib.Core.Path.{refl, ◌∙◌}
use native.Mathlib.Omega.{arith}
use lib.ListN.{length, drop, length-take, length-drop}
use borrow.Rule.Slice.PartMut.{mid_of, same_len_mid}
use Rattle.probe_faces.specs.Strip.{four_rows}
use Rattle.laws.proofs.Joined.{run_start, run_step, run_end, run_room}
use Rattle.probe_faces.proofs.Strips.{four_length, four_shown}
use Rattle.probe_faces.proofs.Painting.{face_painted}
use borrow.Author.Rules.{rules}
use Rattle.probe_faces.proofs.paint_rows.Goals as goal

pub loop-row-init : goal.loop-row-init
loop-row-init c = (search rules, run_start (four_rows _ _ _) (48 * c.args.edge) (four_length _ _ _) _, refl, refl)

pub hold_strip-requires : goal.hold_strip-requires
hold_strip-requires c = let s = c.requires in let l = c.loop-row.invariant in let e = s.probe.edge_last in record { probe = s.probe; held = s.held; face_lt_face_count = (s.face_lt_face_count.0, search rules, omega arith) }

pub overflow_mul-at-in-loop-row : goal.overflow_mul-at-in-loop-row
overflow_mul-at-in-loop-row c =
    let room : 48 * c.args.edge * c.loop-row.row + 48 * c.args.edge ≤ length c.loop-row.out = run_room (four_rows c.args.store.now c.args.edge c.args.face) (48 * c.args.edge) (four_length _ _ _) c.args.edge c.loop-row.row (length c.loop-row.out) (search rules) (omega arith) in
    let m = room in search rules

pub offset_bounds-out-at : goal.offset_bounds-out-at
offset_bounds-out-at c =
    let room : 48 * c.args.edge * c.loop-row.row + 48 * c.args.edge ≤ length c.loop-row.out = run_room (four_rows c.args.store.now c.args.edge c.args.face) (48 * c.args.edge) (four_length _ _ _) c.args.edge c.loop-row.row (length c.loop-row.out) (search rules) (omega arith) in
    let m = room in search rules

pub slice_bounds-write_strip-count : goal.slice_bounds-write_strip-count
slice_bounds-write_strip-count c =
    let room : 48 * c.args.edge * c.loop-row.row + 48 * c.args.edge ≤ length c.loop-row.out = run_room (four_rows c.args.store.now c.args.edge c.args.face) (48 * c.args.edge) (four_length _ _ _) c.args.edge c.loop-row.row (length c.loop-row.out) (search rules) (omega arith) in
    let m = room in search rules

pub slice_bounds-write_strip-start : goal.slice_bounds-write_strip-start
slice_bounds-write_strip-start c =
    let room : 48 * c.args.edge * c.loop-row.row + 48 * c.args.edge ≤ length c.loop-row.out = run_room (four_rows c.args.store.now c.args.edge c.args.face) (48 * c.args.edge) (four_length _ _ _) c.args.edge c.loop-row.row (length c.loop-row.out) (search rules) (omega arith) in
    let m = room in search rules

pub slice_bounds-write_strip-end-in-loop-row : goal.slice_bounds-write_strip-end-in-loop-row
slice_bounds-write_strip-end-in-loop-row c =
    let room : 48 * c.args.edge * c.loop-row.row + 48 * c.args.edge ≤ length c.loop-row.out = run_room (four_rows c.args.store.now c.args.edge c.args.face) (48 * c.args.edge) (four_length _ _ _) c.args.edge c.loop-row.row (length c.loop-row.out) (search rules) (omega arith) in
    let m = room in search rules

pub write_strip-requires : goal.write_strip-requires
write_strip-requires c =
    let room : 48 * c.args.edge * c.loop-row.row + 48 * c.args.edge ≤ length c.loop-row.out = run_room (four_rows c.args.store.now c.args.edge c.args.face) (48 * c.args.edge) (four_length _ _ _) c.args.edge c.loop-row.row (length c.loop-row.out) (search rules) (omega arith) in
    let m = room in (c.requires.probe.edge_last, c.hold_strip.auto.strip ∙ c.loop-row.invariant.3, simp (length-take, length-drop) (omega arith))

pub loop-row-preserved : goal.loop-row-preserved
loop-row-preserved c = let w = c.write_strip in let l = c.loop-row in let e = c.args.edge in (search rules, run_step (four_rows _ _ _) (48 * e) (four_length _ _ _) _ _ _ l.row l.invariant.1 (four_shown _ _ _ l.row _ _ (drop (48 * e) (mid_of (48 * e * l.row) (length l.out - 48 * e * l.row) l.out)) c.hold_strip.ensures w.ensures), same_len_mid {X = ℕ} (48 * e * l.row) (length l.out - 48 * e * l.row) l.out w.new.out w.auto.out ∙ l.invariant.2, c.hold_strip.auto.strip ∙ l.invariant.3)

pub returns : goal.returns
returns c = let e = c.args.edge in face_painted _ _ _ _ (run_end (four_rows _ _ _) (48 * e) (four_length _ _ _) _ _ e c.loop-row.row c.loop-row.invariant.1 (search rules) (search rules))
