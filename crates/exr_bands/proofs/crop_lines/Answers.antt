-- `exr_bands::crop_lines` meets its contract. Assumes nothing.
use Prim.Native.Nat.{◌-◌}
use native.Mathlib.Omega.{arith}
use lib.ListN.{length}
use borrow.Author.Rules.{rules}
use Rattle.pfm_bands.proofs.Runs.{fill_start, fill_step}
use Rattle.exr_bands.proofs.Lines.{Turn, turn, line_length_lem, line_stored, lines_stored}
use Rattle.exr_bands.proofs.crop_lines.Goals as goal

pub loop-row-init : goal.loop-row-init
loop-row-init c = (search rules, fill_start _ _ _)

pub overflow_mul-across-in-loop-row : goal.overflow_mul-across-in-loop-row
overflow_mul-across-in-loop-row c =
    let here : (let a = c.args in Turn a.across a.width c.loop-row.row (length a.lines.now) (length a.out.now)) = turn _ _ c.args.rows _ _ _ (search rules) (search rules) (search rules) (search rules) (search rules) (search rules) in
    let p = here in record { fits = omega (arith, p.first) }

pub overflow_mul-width-in-loop-row : goal.overflow_mul-width-in-loop-row
overflow_mul-width-in-loop-row c =
    let here : (let a = c.args in Turn a.across a.width c.loop-row.row (length a.lines.now) (length a.out.now)) = turn _ _ c.args.rows _ _ _ (search rules) (search rules) (search rules) (search rules) (search rules) (search rules) in
    let p = here in record { fits = omega (arith, p.place) }

pub crop_line-requires : goal.crop_line-requires
crop_line-requires c =
    let here : (let a = c.args in Turn a.across a.width c.loop-row.row (length a.lines.now) (length a.out.now)) = turn _ _ c.args.rows _ _ _ (search rules) (search rules) (search rules) (search rules) (search rules) (search rules) in
    let p = here in
    record { across_le_most_across = (search rules, search rules); across_in_bounds = (p.from, omega (arith, p.to, c.loop-row.invariant.1.long)) }

pub loop-row-preserved : goal.loop-row-preserved
loop-row-preserved c =
    let here : (let a = c.args in Turn a.across a.width c.loop-row.row (length a.lines.now) (length a.out.now)) = turn _ _ c.args.rows _ _ _ (search rules) (search rules) (search rules) (search rules) (search rules) (search rules) in
    let w = c.crop_line in
    let l = c.loop-row in
    let p = here in (
      search rules,
      fill_step _ _ l.row l.invariant.1 (line_length_lem _ _ _ _ l.row (search rules) p.from) (search rules)
          (line_stored _ _ _ _ l.out _ l.row (search rules) p.from (omega (arith, p.to, l.invariant.1.long)) w.ensures),
    )

pub returns : goal.returns
returns c = let l = c.loop-row in lines_stored _ _ _ _ _ l.row (search rules) (search rules) l.invariant.1
