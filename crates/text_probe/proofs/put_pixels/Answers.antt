use Rattle.pfm.specs.File.{colour_at}
use Rattle.text_probe.proofs.Images.{pixels_more, pixels_done}
use Rattle.exr_square.proofs.Runs.{none_put}
use Rattle.exr_square.proofs.Squares.{square_few}
use Rattle.text_probe.specs.Image.{image_pixel}
use native.Mathlib.Omega.{arith}
use Prim.Native.Nat.{◌-◌}
use mathlib.Core.Path.{refl, ap, ◌∙◌}
use borrow.Author.Rules.{rules}
use Rattle.text_probe.proofs.put_pixels.Goals as goal

pub overflow_mul-count : goal.overflow_mul-count
overflow_mul-count c = record { fits = let s = square_few c.args.side (search rules) in omega arith }

pub loop-j-init : goal.loop-j-init
loop-j-init c = (search rules, refl, none_put (image_pixel _ _) _ _)

pub put_rgb-requires : goal.put_rgb-requires
put_rgb-requires c = (search rules, rw c.of.ensures (c.requires.pixels_numbers.each c.pixel_up-k.result c.pixel_up-k.ensures.1))

pub loop-j-preserved : goal.loop-j-preserved
loop-j-preserved c =
    let l = c.loop-j in
    let values = c.args.values.now in (
      search rules,
      search rules,
      pixels_more values _ _ l.out _ l.j l.invariant.2 (c.of.ensures ∙ ap (colour_at values) c.pixel_up-k.ensures.0) c.put_rgb.ensures,
    )

pub returns : goal.returns
returns c = let l = c.loop-j in pixels_done _ _ _ _ _ l.j l.invariant.2 (search rules) (search rules)
