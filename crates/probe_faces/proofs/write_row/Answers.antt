-- `probe_faces::write_row` meets its contract: a turn copies the row of the next block. Assumes nothing.
use mathlib.Core.Path.{refl, ◌∙◌, ap}
use mathlib.Core.List.{List, ◌++◌}
use Prim.Native.Nat.{ℕ, ◌+◌, ◌-◌, ◌*◌}
use native.Mathlib.Omega.{arith}
use lib.ListN.{length, drop, length-take, length-drop}
use borrow.Rule.Slice.PartMut.{mid_of, same_len_mid}
use borrow.Author.Rules.{rules}
use Rattle.laws.proofs.Joined.{run_start, run_step, run_end}
use Rattle.probe_faces.specs.Strip.{strip_piece}
use Rattle.probe_faces.proofs.Strips.{piece_is, piece_length, pieces_row}
use Rattle.probe_faces.proofs.write_row.Goals as goal

pub loop-column-init : goal.loop-column-init
loop-column-init c = (search rules, run_start (strip_piece _ _) 12 (piece_length _ _) _, refl)

pub copy_piece-requires : goal.copy_piece-requires
copy_piece-requires c = (search rules, simp (length-take, length-drop) (omega arith))

pub loop-column-preserved : goal.loop-column-preserved
loop-column-preserved c =
    let w = c.copy_piece in
    let l = c.loop-column in
    let s = c.args in
    let n = l.column in (
      search rules,
      run_step (strip_piece s.strip.now s.k) 12 (piece_length _ _) s.out.now l.out _ n l.invariant.1
          (piece_is s.strip.now (mid_of (12 * n) (length l.out - 12 * n) l.out) n s.k w.ensures),
      same_len_mid {X = ℕ} (12 * n) (length l.out - 12 * n) l.out w.new.out w.auto.out ∙ l.invariant.2,
    )

pub returns : goal.returns
returns c =
    let l = c.loop-column in
    let s = c.args in
    run_end (strip_piece s.strip.now s.k) 12 (piece_length _ _) s.out.now l.out s.edge l.column l.invariant.1 (search rules) (search rules)
    ∙ ap (λ (t : List ℕ). t ++ drop (12 * s.edge) s.out.now) (pieces_row s.strip.now s.edge s.k)
