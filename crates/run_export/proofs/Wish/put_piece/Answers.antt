-- `run_export::Wish::put_piece` meets its contract. Assumes nothing.
use borrow.Author.Rules.{rules}
use Rattle.run_export.proofs.Starts.{rows_fit, lines_fit, piece_pfm, piece_exr}
use Rattle.run_export.proofs.Asked.{ours_of, pfm_is, exr_is}
use Rattle.run_export.proofs.Wish.put_piece.Goals as goal

pub put_rows-requires : goal.put_rows-requires
put_rows-requires c = rows_fit (ours_of c.args.self) _ _ _ _ _ c.rows_in-rows.ensures (search rules) (search rules) (search rules)

pub returns-in-Pfm : goal.returns-in-Pfm
returns-in-Pfm c =
    let w = c.args.self in
    piece_pfm (pfm_is c.in-Pfm.is) w.format w.width w.height c.args.n c.args.band.now c.args.out.now c.blocks_along.ensures c.rows_in-rows.ensures c.put_rows.ensures

pub put_lines-requires : goal.put_lines-requires
put_lines-requires c =
    lines_fit (ours_of c.args.self) c.args.n _ _ _ _ (search rules) c.rows_in-rows-in-Exr.ensures (search rules) (search rules) (search rules)

pub returns-in-Exr : goal.returns-in-Exr
returns-in-Exr c =
    let w = c.args.self in
    piece_exr (exr_is c.in-Exr.is) w.format w.width w.height c.args.n c.args.band.now c.args.out.now c.rows_in-rows-in-Exr.ensures c.put_lines.ensures
