use native.Mathlib.Omega.{arith}
use Rattle.text_probe.proofs.Images.{Here, here, up_is}
use Rattle.exr_square.proofs.Squares.{square_few}
use borrow.Author.Rules.{rules}
use Rattle.text_probe.proofs.pixel_up.Goals as goal

pub overflow_sub-result-2 : goal.overflow_sub-result-2
overflow_sub-result-2 c =
    let place : Here c.args.side c.args.j = here _ _ (search rules) (search rules) in
    let p = place in omega arith

pub overflow_mul-result : goal.overflow_mul-result
overflow_mul-result c =
    let place : Here c.args.side c.args.j = here _ _ (search rules) (search rules) in
    let p = place in let s = square_few c.args.side (search rules) in record { fits = omega arith }

pub overflow_add-result : goal.overflow_add-result
overflow_add-result c =
    let place : Here c.args.side c.args.j = here _ _ (search rules) (search rules) in
    let p = place in let s = square_few c.args.side (search rules) in record { fits = omega arith }

pub returns : goal.returns
returns c =
    let place : Here c.args.side c.args.j = here _ _ (search rules) (search rules) in
    (up_is _ _, place.inside)
