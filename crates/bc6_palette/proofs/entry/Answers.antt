-- `bc6_palette::entry` meets its contract: what is interpolated stays in the format's range. Assumes nothing.
use mathlib.Core.Path.{◌≡◌, sym, ap, subst, ◌∙◌}
use native.Mathlib.Omega.{arith}
use lib.IntN.{pos}
use mir.Syntax.{w32}
use mir.Val.{to_z, of_z}
use mir.ValLaws.{to_z-of_z}
use Prim.Native.Nat.{◌<◌}
use Rattle.laws.specs.Ranges.{InBits}
use Rattle.bc6h_spec.specs.Half.{interpolated}
use Rattle.bc6h_spec.proofs.Ranges.{interpolated_in}
use Rattle.bc6_half.specs.Halves.{half_of}
use Rattle.bc6_half.proofs.Told.{half_marked}
use Rattle.bc6_palette.proofs.entry.Goals as goal

pub finish_unquantize-requires : goal.finish_unquantize-requires
finish_unquantize-requires c =
    let told : to_z w32 (of_z w32 c.interpolate.result) ≡ interpolated c.args.a c.args.b (pos c.args.w) = to_z-of_z w32 c.interpolate.result (record { sfits = c.interpolate.type_inv })
    ∙ c.interpolate.ensures
    ∙ (λ i. interpolated (to_z-of_z w32 c.args.a c.ranges.a i) (to_z-of_z w32 c.args.b c.ranges.b i) (pos c.args.w)) in
    let inside : InBits c.args.signed 16 (interpolated c.args.a c.args.b (pos c.args.w)) = let light : c.args.w < 65 = omega (arith, c.requires.1) in
    interpolated_in c.args.signed c.args.a c.args.b (pos c.args.w) (record { nonneg = tt; below = light }) c.requires.0.0 c.requires.0.1 in
    subst (InBits c.args.signed 16) (sym told) inside

pub returns : goal.returns
returns c =
    let told : to_z w32 (of_z w32 c.interpolate.result) ≡ interpolated c.args.a c.args.b (pos c.args.w) = to_z-of_z w32 c.interpolate.result (record { sfits = c.interpolate.type_inv })
    ∙ c.interpolate.ensures
    ∙ (λ i. interpolated (to_z-of_z w32 c.args.a c.ranges.a i) (to_z-of_z w32 c.args.b c.ranges.b i) (pos c.args.w)) in
    let inside : InBits c.args.signed 16 (interpolated c.args.a c.args.b (pos c.args.w)) = let light : c.args.w < 65 = omega (arith, c.requires.1) in
    interpolated_in c.args.signed c.args.a c.args.b (pos c.args.w) (record { nonneg = tt; below = light }) c.requires.0.0 c.requires.0.1 in
    c.finish_unquantize.ensures ∙ ap (half_of c.args.signed) told ∙ half_marked c.args.signed _ inside
