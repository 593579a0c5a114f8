-- `bc6_colour::end_at` meets its contract: by the mode. Assumes nothing.
use mathlib.Core.Path.{◌≡◌, sym, ap, subst, ◌∙◌}
use mathlib.Core.Bool.{Bool, not}
use Prim.Native.Nat.{ℕ}
use lib.Dec.{eqb}
use lib.IntN.{ℤ}
use mir.Syntax.{w32}
use mir.Val.{to_z, of_z}
use mir.ValLaws.{to_z-of_z}
use Rattle.laws.specs.Ranges.{Within}
use Rattle.laws.specs.Pick.{pick}
use Rattle.bc6h_spec.specs.Half.{transform}
use Rattle.bc6h_spec.specs.Picture.{delta, other_end}
use Rattle.laws.proofs.Num.{passed, read}
use Rattle.bc6h_spec.proofs.Ranges.{delta_within}
use Rattle.bc6_colour.proofs.end_at.Goals as goal

-- the definition, where the mode is known
known : (signed : Bool) {moved t : Bool} (bits width : ℕ) (a : ℤ) (field : ℕ) → moved ≡ t
    → other_end signed moved bits width a field ≡ pick t (transform signed bits a (delta signed moved width field)) (delta signed moved width field)
unfolding other_end
known signed {moved = m} bits width a field e = ap (λ (t : Bool). pick t (transform signed bits a (delta signed m width field)) (delta signed m width field)) e

pub transform_one-requires : goal.transform_one-requires
transform_one-requires g c =
    let told : to_z w32 (of_z w32 c.delta_of-d.result) ≡ delta (not (eqb g.row.SIGNED 0)) c.args.moved c.args.width c.args.field = read c.delta_of-d.type_inv c.delta_of-d.ensures in (
      c.requires.0.0,
      c.requires.0.1,
      (
        passed (Within 65536) c.ranges.a c.requires.2,
        subst (Within 65536) (sym told) (delta_within (not (eqb g.row.SIGNED 0)) c.args.moved c.args.width c.args.field c.requires.1.0 c.requires.1.1 c.requires.1.2),
      ),
    )

pub returns-then-moved : goal.returns-then-moved
returns-then-moved g c =
    let told : to_z w32 (of_z w32 c.delta_of-d.result) ≡ delta (not (eqb g.row.SIGNED 0)) c.args.moved c.args.width c.args.field = read c.delta_of-d.type_inv c.delta_of-d.ensures in
    read c.transform_one.type_inv c.transform_one.ensures
    ∙ (λ i. transform (not (eqb g.row.SIGNED 0)) c.args.bits (to_z-of_z w32 c.args.a c.ranges.a i) (told i))
    ∙ sym (known (not (eqb g.row.SIGNED 0)) c.args.bits c.args.width c.args.a c.args.field c.if-moved.true)

pub returns : goal.returns
returns g c =
    let told : to_z w32 (of_z w32 c.delta_of-d.result) ≡ delta (not (eqb g.row.SIGNED 0)) c.args.moved c.args.width c.args.field = read c.delta_of-d.type_inv c.delta_of-d.ensures in
    told ∙ sym (known (not (eqb g.row.SIGNED 0)) c.args.bits c.args.width c.args.a c.args.field c.if-moved.false)
