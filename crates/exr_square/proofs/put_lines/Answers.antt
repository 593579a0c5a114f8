-- `exr_square::put_lines` meets its contract. Assumes nothing.
use mathlib.Core.Path.{refl}
use Prim.Native.Nat.{◌+◌, ◌-◌, ◌*◌}
use native.Mathlib.Omega.{arith}
use lib.ListN.{length}
use borrow.Author.Rules.{rules}
use Rattle.exr_square.specs.Square.{square_line, square_lines}
use Rattle.exr_square.proofs.Runs.{none_put, one_put, all_put}
use Rattle.exr_square.proofs.Squares.{Within, within, all_few, each_line}
use Rattle.exr_square.proofs.put_lines.Goals as goal

pub loop-y-init : goal.loop-y-init
loop-y-init c = (search rules, refl, none_put (square_line _ _) _ _)

pub overflow_mul-edge-in-loop-y : goal.overflow_mul-edge-in-loop-y
overflow_mul-edge-in-loop-y c =
    let here : Within c.args.edge c.loop-y.y c.args.at (length c.args.out.now) = within _ _ _ _ (search rules) (search rules) (search rules) in
    record { fits = omega (arith, here.most) }

pub overflow_add-at : goal.overflow_add-at
overflow_add-at c =
    let here : Within c.args.edge c.loop-y.y c.args.at (length c.args.out.now) = within _ _ _ _ (search rules) (search rules) (search rules) in
    record { fits = omega (arith, here.behind) }

pub put_line-requires : goal.put_line-requires
put_line-requires c =
    let here : Within c.args.edge c.loop-y.y c.args.at (length c.args.out.now) = within _ _ _ _ (search rules) (search rules) (search rules) in
    record { edge_bound = search rules; edge_in_bounds = (search rules, omega (arith, here.behind)) }

pub loop-y-preserved : goal.loop-y-preserved
loop-y-preserved c =
    let l = c.loop-y in
    let s = c.args in
    (search rules, search rules, one_put (square_line s.values.now (4 * s.edge)) (8 + 24 * s.edge) (each_line s.values.now s.edge) _ l.out _ s.at l.y l.invariant.2 c.put_line.ensures.exit_is)

pub overflow_mul-result-2 : goal.overflow_mul-result-2
overflow_mul-result-2 c = record { fits = omega (arith, all_few c.args.edge (search rules)) }

pub returns : goal.returns
unfolding square_lines
returns c =
    let l = c.loop-y in
    let s = c.args in
    all_put (square_line s.values.now (4 * s.edge)) (8 + 24 * s.edge) (each_line s.values.now s.edge) _ _ _ _ l.y l.invariant.2 (search rules) (search rules)
