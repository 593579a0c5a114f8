-- `exr_square::put_channel` meets its contract. Assumes nothing.
use mathlib.Core.Path.{refl}
use Prim.Native.Nat.{◌+◌, ◌-◌, ◌*◌, ◌≤◌, ◌<◌}
use native.Mathlib.Omega.{arith}
use borrow.Author.Rules.{rules}
use Rattle.exr_square.specs.Square.{square_value, square_channel}
use Rattle.exr_square.proofs.Runs.{none_put, one_put, all_put}
use Rattle.exr_square.proofs.Squares.{pixel_inside, square_few, value_length}
use Rattle.exr_square.proofs.put_channel.Goals as goal

pub loop-x-init : goal.loop-x-init
loop-x-init c = (search rules, refl, none_put (square_value _ _ _ _) _ _)

pub overflow_mul-y : goal.overflow_mul-y
overflow_mul-y c =
    let here : (c.args.y * c.args.side + c.loop-x.x < c.args.side * c.args.side) × (c.args.side * c.args.side ≤ 4096) = (pixel_inside _ _ _ (search rules) (search rules), square_few _ (search rules)) in
    let p = here in record { fits = omega (arith, p.0, p.1) }

pub overflow_add-y : goal.overflow_add-y
overflow_add-y c =
    let here : (c.args.y * c.args.side + c.loop-x.x < c.args.side * c.args.side) × (c.args.side * c.args.side ≤ 4096) = (pixel_inside _ _ _ (search rules) (search rules), square_few _ (search rules)) in
    let p = here in record { fits = omega (arith, p.0, p.1) }

pub overflow_mul-y-in-loop-x : goal.overflow_mul-y-in-loop-x
overflow_mul-y-in-loop-x c =
    let here : (c.args.y * c.args.side + c.loop-x.x < c.args.side * c.args.side) × (c.args.side * c.args.side ≤ 4096) = (pixel_inside _ _ _ (search rules) (search rules), square_few _ (search rules)) in
    let p = here in record { fits = omega (arith, p.0, p.1) }

pub overflow_add-y-in-loop-x : goal.overflow_add-y-in-loop-x
overflow_add-y-in-loop-x c =
    let here : (c.args.y * c.args.side + c.loop-x.x < c.args.side * c.args.side) × (c.args.side * c.args.side ≤ 4096) = (pixel_inside _ _ _ (search rules) (search rules), square_few _ (search rules)) in
    let p = here in record { fits = omega (arith, p.0, p.1) }

pub offset_bounds-values-y : goal.offset_bounds-values-y
offset_bounds-values-y c =
    let here : (c.args.y * c.args.side + c.loop-x.x < c.args.side * c.args.side) × (c.args.side * c.args.side ≤ 4096) = (pixel_inside _ _ _ (search rules) (search rules), square_few _ (search rules)) in
    let p = here in record { fits = omega (arith, p.0, p.1) }

pub bounds-values-y : goal.bounds-values-y
bounds-values-y c =
    let here : (c.args.y * c.args.side + c.loop-x.x < c.args.side * c.args.side) × (c.args.side * c.args.side ≤ 4096) = (pixel_inside _ _ _ (search rules) (search rules), square_few _ (search rules)) in
    let p = here in omega (arith, p.0)

pub loop-x-preserved : goal.loop-x-preserved
unfolding square_value
loop-x-preserved c =
    let l = c.loop-x in
    let s = c.args in
    (search rules, search rules, one_put (square_value s.values.now s.side s.channel s.y) 2 (value_length s.values.now s.side s.channel s.y) _ l.out _ s.at l.x l.invariant.2 c.put_half.ensures)

pub returns : goal.returns
unfolding square_channel
returns c =
    let l = c.loop-x in
    let s = c.args in
    all_put (square_value s.values.now s.side s.channel s.y) 2 (value_length s.values.now s.side s.channel s.y) _ _ _ _ l.x l.invariant.2 (search rules) (search rules)
