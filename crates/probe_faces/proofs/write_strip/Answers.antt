use Prim.Native.Nat.{ℕ, ◌≤◌, ◌+◌, ◌-◌, ◌*◌}
use mathlib.Core.Path.{◌≡◌, refl, ◌∙◌}
use native.Mathlib.Omega.{arith}
use lib.ListN.{length, length-take, length-drop}
use borrow.Rule.Slice.PartMut.{same_len_mid}
use Rattle.probe_faces.specs.Strip.{strip_row}
use Rattle.laws.proofs.Joined.{run_start, run_step, run_end, run_room}
use Rattle.probe_faces.proofs.Strips.{strip_row_length}
use borrow.Author.Rules.{rules}
use Rattle.probe_faces.proofs.write_strip.Goals as goal

pub loop-k-init : goal.loop-k-init
loop-k-init c = (search rules, run_start (strip_row _ _) (12 * c.args.edge) (strip_row_length _ _) _, refl)

pub overflow_mul-at : goal.overflow_mul-at
overflow_mul-at c =
    let room : 12 * c.args.edge * c.loop-k.k + 12 * c.args.edge ≤ length c.loop-k.out = run_room (strip_row c.args.strip.now c.args.edge) (12 * c.args.edge) (strip_row_length _ _) 4 c.loop-k.k (length c.loop-k.out) (search rules) (omega arith) in
    let m = room in search rules

pub overflow_mul-at-in-loop-k : goal.overflow_mul-at-in-loop-k
overflow_mul-at-in-loop-k c =
    let room : 12 * c.args.edge * c.loop-k.k + 12 * c.args.edge ≤ length c.loop-k.out = run_room (strip_row c.args.strip.now c.args.edge) (12 * c.args.edge) (strip_row_length _ _) 4 c.loop-k.k (length c.loop-k.out) (search rules) (omega arith) in
    let m = room in search rules

pub offset_bounds-out-at : goal.offset_bounds-out-at
offset_bounds-out-at c =
    let room : 12 * c.args.edge * c.loop-k.k + 12 * c.args.edge ≤ length c.loop-k.out = run_room (strip_row c.args.strip.now c.args.edge) (12 * c.args.edge) (strip_row_length _ _) 4 c.loop-k.k (length c.loop-k.out) (search rules) (omega arith) in
    let m = room in search rules

pub slice_bounds-write_row-count : goal.slice_bounds-write_row-count
slice_bounds-write_row-count c =
    let room : 12 * c.args.edge * c.loop-k.k + 12 * c.args.edge ≤ length c.loop-k.out = run_room (strip_row c.args.strip.now c.args.edge) (12 * c.args.edge) (strip_row_length _ _) 4 c.loop-k.k (length c.loop-k.out) (search rules) (omega arith) in
    let m = room in search rules

pub slice_bounds-write_row-start : goal.slice_bounds-write_row-start
slice_bounds-write_row-start c =
    let room : 12 * c.args.edge * c.loop-k.k + 12 * c.args.edge ≤ length c.loop-k.out = run_room (strip_row c.args.strip.now c.args.edge) (12 * c.args.edge) (strip_row_length _ _) 4 c.loop-k.k (length c.loop-k.out) (search rules) (omega arith) in
    let m = room in search rules

pub slice_bounds-write_row-end : goal.slice_bounds-write_row-end
slice_bounds-write_row-end c =
    let room : 12 * c.args.edge * c.loop-k.k + 12 * c.args.edge ≤ length c.loop-k.out = run_room (strip_row c.args.strip.now c.args.edge) (12 * c.args.edge) (strip_row_length _ _) 4 c.loop-k.k (length c.loop-k.out) (search rules) (omega arith) in
    let m = room in search rules

pub write_row-requires : goal.write_row-requires
write_row-requires c =
    let room : 12 * c.args.edge * c.loop-k.k + 12 * c.args.edge ≤ length c.loop-k.out = run_room (strip_row c.args.strip.now c.args.edge) (12 * c.args.edge) (strip_row_length _ _) 4 c.loop-k.k (length c.loop-k.out) (search rules) (omega arith) in
    let m = room in let s = c.requires in (s.0, search rules, s.1, simp (length-take, length-drop) (omega arith))

pub loop-k-preserved : goal.loop-k-preserved
loop-k-preserved c = let w = c.write_row in let l = c.loop-k in let e = c.args.edge in (search rules, run_step (strip_row _ _) (12 * e) (strip_row_length _ _) _ _ _ l.k l.invariant.1 w.ensures, same_len_mid {X = ℕ} (12 * e * l.k) (length l.out - 12 * e * l.k) l.out w.new.out w.auto.out ∙ l.invariant.2)

pub returns : goal.returns
returns c = let e = c.args.edge in let q : 12 * e * 4 ≡ 48 * e = omega arith in rw q at (run_end (strip_row _ _) (12 * e) (strip_row_length _ _) _ _ 4 c.loop-k.k c.loop-k.invariant.1 (search rules) (search rules))
