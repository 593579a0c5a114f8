-- `bc6_colour::Colour::unquantize` meets its contract: channel by channel. Assumes nothing.
use borrow.Author.Rules.{rules}
use mathlib.Core.Path.{ap, ◌∙◌}
use mir.Syntax.{w32}
use mir.Val.{SFits}
use mir.ValLaws.{to_z-of_z}
use Rattle.laws.proofs.Num.{read}
use Rattle.bc6h_spec.specs.Half.{unquantized}
use Rattle.bc6_colour.specs.Colours.{unquantized_of}
use Rattle.bc6_colour.proofs.Ends.{colour_is}
use Rattle.bc6_colour.proofs.Colour.unquantize.Goals as goal

pub returns : goal.returns
unfolding unquantized_of
returns c =
    let s = c.args in
    let x = c.unquantize in
    let y = c.unquantize-2 in
    let z = c.unquantize-3 in
    let fx : SFits w32 s.self.r = search rules in
    let fy : SFits w32 s.self.g = search rules in
    let fz : SFits w32 s.self.b = search rules in
    colour_is
    (read x.type_inv (x.ensures ∙ ap (unquantized s.signed s.bits) (to_z-of_z w32 s.self.r fx)))
    (read y.type_inv (y.ensures ∙ ap (unquantized s.signed s.bits) (to_z-of_z w32 s.self.g fy)))
    (read z.type_inv (z.ensures ∙ ap (unquantized s.signed s.bits) (to_z-of_z w32 s.self.b fz)))
