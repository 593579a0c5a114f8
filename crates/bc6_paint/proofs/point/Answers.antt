-- `bc6_paint::point` meets its contract. Assumes nothing.
use mathlib.Core.Path.{◌∙◌}
use mathlib.Core.Bool.{not}
use lib.Dec.{eqb}
use Rattle.laws.proofs.Num.{read}
use Rattle.bc6_paint.specs.Values.{point_of}
use Rattle.bc6_paint.proofs.Points.{ends_within, point_is}
use Rattle.bc6_paint.proofs.point.Goals as goal

pub interpolate-requires : goal.interpolate-requires
interpolate-requires g c = ends_within _ _ _ _ c.select.type_inv c.select-2.type_inv c.requires _ _ (read c.number.type_inv c.number.ensures) (read c.number-2.type_inv c.number-2.ensures)

pub returns : goal.returns
returns g c =
    read c.interpolate.type_inv
    (point_is _ _ _ _ c.select.type_inv c.select-2.type_inv c.requires _ _ _ (read c.number.type_inv c.number.ensures) (read c.number-2.type_inv c.number-2.ensures)
    c.interpolate.ensures)
    ∙ (λ i. point_of (not (eqb g.row.SIGNED 0)) (c.select.ensures i) (c.select-2.ensures i) c.args.w)
