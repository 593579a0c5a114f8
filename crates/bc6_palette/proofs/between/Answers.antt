-- `bc6_palette::between` meets its contract: channel by channel. Assumes nothing.
use borrow.Author.Rules.{rules}
use mathlib.Core.Path.{◌≡◌, ◌∙◌}
use mathlib.Core.Bool.{Bool}
use mathlib.Core.List.{[], ◌∷◌}
use Prim.Native.Nat.{ℕ}
use lib.IntN.{ℤ, pos}
use mir.Syntax.{w32}
use mir.Val.{SFits, to_z, of_z}
use mir.ValLaws.{to_z-of_z}
use Rattle.bc6h_spec.specs.Half.{interpolated, finished}
use Rattle.bc6_half.specs.declared.Half.{Half}
use Rattle.bc6_half.specs.Halves.{marked}
use Rattle.bc6_palette.specs.Palettes.{blend_of}
use Rattle.bc6_palette.proofs.between.Goals as goal

-- the numbers that a callee is handed are read back from bits
plain : (s : Bool) (w : ℕ) {a b : ℤ} {r : Half} → SFits w32 a → SFits w32 b
    → r ≡ marked (finished s (interpolated (to_z w32 (of_z w32 a)) (to_z w32 (of_z w32 b)) (pos w))) → r ≡ marked (finished s (interpolated a b (pos w)))
plain s w {a} {b} f g e = e ∙ (λ i. marked (finished s (interpolated (to_z-of_z w32 a f i) (to_z-of_z w32 b g i) (pos w))))

pub returns : goal.returns
unfolding blend_of
returns c =
    let x = plain c.args.signed c.args.w {a = c.args.a.r} {b = c.args.b.r} (search rules) (search rules) c.entry-red.ensures in
    let y = plain c.args.signed c.args.w {a = c.args.a.g} {b = c.args.b.g} (search rules) (search rules) c.entry-green.ensures in
    let z = plain c.args.signed c.args.w {a = c.args.a.b} {b = c.args.b.b} (search rules) (search rules) c.entry-blue.ensures in
    (λ i. x i ∷ y i ∷ z i ∷ [])
