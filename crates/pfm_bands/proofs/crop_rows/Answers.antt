-- `pfm_bands::crop_rows` meets its contract. Assumes nothing.
use Prim.Native.Nat.{◌-◌}
use native.Mathlib.Omega.{arith}
use lib.ListN.{length}
use borrow.Author.Rules.{rules}
use Rattle.pfm_bands.proofs.Runs.{fill_start, fill_step}
use Rattle.pfm_bands.proofs.Rows.{Turn, turn, row_length, row_copied, rows_copied}
use Rattle.pfm_bands.proofs.crop_rows.Goals as goal

pub loop-i-init : goal.loop-i-init
loop-i-init c = (search rules, fill_start _ _ _)

pub overflow_mul-across-in-loop-i : goal.overflow_mul-across-in-loop-i
overflow_mul-across-in-loop-i c =
    let here : (let a = c.args in Turn a.across a.width a.rows c.loop-i.i (length a.lines.now) (length a.out.now)) = turn _ _ _ _ _ _ (search rules) (search rules) (search rules) (search rules) (search rules) (search rules) in
    let p = here in record { fits = omega (arith, p.first) }

pub overflow_mul-width-in-loop-i-2 : goal.overflow_mul-width-in-loop-i-2
overflow_mul-width-in-loop-i-2 c =
    let here : (let a = c.args in Turn a.across a.width a.rows c.loop-i.i (length a.lines.now) (length a.out.now)) = turn _ _ _ _ _ _ (search rules) (search rules) (search rules) (search rules) (search rules) (search rules) in
    let p = here in record { fits = omega (arith, p.place) }

pub copy_part-requires : goal.copy_part-requires
copy_part-requires c =
    let here : (let a = c.args in Turn a.across a.width a.rows c.loop-i.i (length a.lines.now) (length a.out.now)) = turn _ _ _ _ _ _ (search rules) (search rules) (search rules) (search rules) (search rules) (search rules) in
    let p = here in record { size_in_bounds = p.from; size_in_bounds_2 = omega (arith, p.to, c.loop-i.invariant.1.long) }

pub loop-i-preserved : goal.loop-i-preserved
loop-i-preserved c =
    let here : (let a = c.args in Turn a.across a.width a.rows c.loop-i.i (length a.lines.now) (length a.out.now)) = turn _ _ _ _ _ _ (search rules) (search rules) (search rules) (search rules) (search rules) (search rules) in
    let w = c.copy_part in
    let l = c.loop-i in
    let p = here in
    (search rules, fill_step _ _ l.i l.invariant.1 (row_length _ _ _ _ l.i p.from) (search rules) (row_copied _ _ _ _ l.out _ l.i w.ensures))

pub returns : goal.returns
returns c = let l = c.loop-i in rows_copied _ _ _ _ l.i (search rules) (search rules) l.invariant.1
