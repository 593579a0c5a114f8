-- `bc6_colour::Colour::other` meets its contract: channel by channel. Assumes nothing.
use borrow.Author.Rules.{rules}
use mathlib.Core.Path.{◌≡◌, ap, ◌∙◌}
use native.Mathlib.Omega.{arith}
use Prim.Native.Nat.{◌+◌, ◌*◌}
use lib.Dec.{lit<}
use mir.Syntax.{w32}
use mir.Val.{SFits, to_z, of_z}
use mir.ValLaws.{to_z-of_z}
use Rattle.laws.proofs.Num.{read}
use Rattle.bc6h_spec.specs.Layout.{own_width}
use Rattle.bc6h_spec.specs.Picture.{endpoint}
use Rattle.bc6_mode.specs.declared.ModeBits.{ModeBits}
use Rattle.bc6_colour.specs.declared.Colour.{Colour}
use Rattle.bc6_mode.specs.Modes.{bits_for}
use Rattle.bc6_colour.specs.Colours.{end_of}
use Rattle.bc6_colour.proofs.Ends.{colour_is, other_asks, other_is}
use Rattle.bc6_colour.proofs.Colour.other.Goals as goal

pub other_end-requires : goal.other_end-requires
unfolding end_of bits_for
other_end-requires c =
    let red : to_z w32 (of_z w32 c.args.self.r) ≡ endpoint c.args.signed c.args.f 0 0 = let h : SFits w32 c.args.self.r = search rules in to_z-of_z w32 _ h ∙ ap (λ (x : Colour). x.r) c.requires.1.0 in
    let red-width : c.args.bits.r ≡ own_width c.args.f.mode 0 = ap (λ (x : ModeBits). x.r) c.requires.0.1 in
    other_asks c.args.signed _ c.requires.0.0 _ c.requires.0.1 c.args.e 0 _ _ c.requires.1.1 c.requires.1.2 (lit< tt) (omega arith) red-width _ red

pub other_end-requires-2 : goal.other_end-requires-2
unfolding end_of bits_for
other_end-requires-2 c =
    let green : to_z w32 (of_z w32 c.args.self.g) ≡ endpoint c.args.signed c.args.f 0 1 = let h : SFits w32 c.args.self.g = search rules in to_z-of_z w32 _ h ∙ ap (λ (x : Colour). x.g) c.requires.1.0 in
    let green-width : c.args.bits.g ≡ own_width c.args.f.mode 1 = ap (λ (x : ModeBits). x.g) c.requires.0.1 in
    other_asks c.args.signed _ c.requires.0.0 _ c.requires.0.1 c.args.e 1 _ _ c.requires.1.1 c.requires.1.2 (lit< tt) (omega arith) green-width _ green

pub other_end-requires-3 : goal.other_end-requires-3
unfolding end_of bits_for
other_end-requires-3 c =
    let blue : to_z w32 (of_z w32 c.args.self.b) ≡ endpoint c.args.signed c.args.f 0 2 = let h : SFits w32 c.args.self.b = search rules in to_z-of_z w32 _ h ∙ ap (λ (x : Colour). x.b) c.requires.1.0 in
    let blue-width : c.args.bits.b ≡ own_width c.args.f.mode 2 = ap (λ (x : ModeBits). x.b) c.requires.0.1 in
    other_asks c.args.signed _ c.requires.0.0 _ c.requires.0.1 c.args.e 2 _ _ c.requires.1.1 c.requires.1.2 (lit< tt) (omega arith) blue-width _ blue

pub returns : goal.returns
unfolding end_of bits_for
returns c =
    let red : to_z w32 (of_z w32 c.args.self.r) ≡ endpoint c.args.signed c.args.f 0 0 = let h : SFits w32 c.args.self.r = search rules in to_z-of_z w32 _ h ∙ ap (λ (x : Colour). x.r) c.requires.1.0 in
    let green : to_z w32 (of_z w32 c.args.self.g) ≡ endpoint c.args.signed c.args.f 0 1 = let h : SFits w32 c.args.self.g = search rules in to_z-of_z w32 _ h ∙ ap (λ (x : Colour). x.g) c.requires.1.0 in
    let blue : to_z w32 (of_z w32 c.args.self.b) ≡ endpoint c.args.signed c.args.f 0 2 = let h : SFits w32 c.args.self.b = search rules in to_z-of_z w32 _ h ∙ ap (λ (x : Colour). x.b) c.requires.1.0 in
    let red-width : c.args.bits.r ≡ own_width c.args.f.mode 0 = ap (λ (x : ModeBits). x.r) c.requires.0.1 in
    let green-width : c.args.bits.g ≡ own_width c.args.f.mode 1 = ap (λ (x : ModeBits). x.g) c.requires.0.1 in
    let blue-width : c.args.bits.b ≡ own_width c.args.f.mode 2 = ap (λ (x : ModeBits). x.b) c.requires.0.1 in
    let x = c.other_end in
    let y = c.other_end-2 in
    let z = c.other_end-3 in
    colour_is
    (read x.type_inv (other_is c.args.signed _ c.requires.0.0 _ c.requires.0.1 c.args.e 0 (3 * c.args.e) _ c.requires.1.1 c.requires.1.2 (lit< tt) (omega arith) red-width _ _ red x.ensures))
    (read y.type_inv (other_is c.args.signed _ c.requires.0.0 _ c.requires.0.1 c.args.e 1 (3 * c.args.e + 1) _ c.requires.1.1 c.requires.1.2 (lit< tt) (omega arith) green-width _ _ green y.ensures))
    (read z.type_inv (other_is c.args.signed _ c.requires.0.0 _ c.requires.0.1 c.args.e 2 (3 * c.args.e + 2) _ c.requires.1.1 c.requires.1.2 (lit< tt) (omega arith) blue-width _ _ blue z.ensures))
