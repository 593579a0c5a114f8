use Rattle.text_probe.proofs.Images.{header_few, file_written}
use Rattle.exr_square.proofs.Squares.{square_few}
use native.Mathlib.Omega.{arith}
use borrow.Author.Rules.{rules}
use Rattle.text_probe.proofs.put_image.Goals as goal

pub put_header-at-requires : goal.put_header-at-requires
put_header-at-requires c = (search rules, search rules, let f = header_few c.args.side in omega arith)

pub put_pixels-requires : goal.put_pixels-requires
put_pixels-requires c =
    let few = square_few c.args.side (search rules) in
    let header = header_few c.args.side in
    let at = c.put_header-at.ensures.next_is in
    let kept = c.put_header-at.auto.out in
    record { le_side = (search rules, search rules, search rules, omega arith); pixels_numbers = c.requires.pixels_numbers }

pub returns : goal.returns
returns c =
    let both = file_written c.args.values.now c.args.side c.put_header-at.ensures c.put_pixels.ensures (search rules) in
    record { upper_bound = both.0; written = both.1 }
