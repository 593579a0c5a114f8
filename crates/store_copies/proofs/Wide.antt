-- Demand 3 on more blocks, from bytes to bytes: one format, one mode up to 13, one partition, either number of regions. Assumes nothing.
use mathlib.Core.Path.{◌≡◌, sym, ap, ◌∙◌, subst}
use mathlib.Core.List.{List}
use Prim.Native.Nat.{ℕ, ◌≤◌, ◌<◌}
use Rattle.bc6h_spec.specs.Fields.{fields_of}
use Rattle.bc6h_spec.specs.Picture.{is_signed, picture_as}
use Rattle.bc6h_spec.specs.Block.{pixels_of}
use Rattle.bc6h_spec.proofs.Formats.{number_again}
use Rattle.bc6h_spec.proofs.Reading.{fields_valid, fields_format, fields_mode}
use Rattle.bc6h_spec.proofs.Pixel.{shows_as}
use Rattle.bc6h_spec.proofs.Undo.{fields_determine_bytes}
use Rattle.store_copies.specs.Wide.{regions, Suited, Matched, Copies}
use Rattle.store_copies.proofs.SameFields.{same_fields}

-- what a suited block shows
shown : (format : ℕ) (x : List ℕ) → Suited format x → pixels_of (is_signed format) x ≡ picture_as (is_signed format) (fields_of format x)
shown format x s = shows_as (is_signed format) x s.mode_from ∙ ap (λ (n : ℕ). picture_as (is_signed format) (fields_of n x)) (number_again format s.known_format)

-- of one format
one_format : (format : ℕ) (x y : List ℕ) → Suited format x → Suited format y → Matched format x format y
    → pixels_of (is_signed format) x ≡ pixels_of (is_signed format) y → x ≡ y
one_format format x y sx sy k e =
    fields_determine_bytes format x y sx.bytes sy.bytes sx.mode_from
    (same_fields (is_signed format) (fields_of format x) (fields_of format y)
    (fields_valid format x sx.known_format sx.mode_from) (fields_valid format y sy.known_format sy.mode_from)
    (subst (λ (n : ℕ). n ≤ 13) (sym (fields_mode format x)) sx.mode_to)
    (fields_format format x sx.mode_from ∙ sym (fields_format format y sy.mode_from))
    (fields_mode format x ∙ k.one_mode ∙ sym (fields_mode format y)) k.one_partition sx.spanning sy.spanning
    (λ r b. k.differ r (subst (λ (n : ℕ). r < regions n) (fields_mode format x) b))
    (sym (shown format x sx) ∙ e ∙ shown format y sy))

pub copies : Copies
copies format other x y sx sy k =
    subst (λ (g : ℕ). Suited g y → Matched format x g y → pixels_of (is_signed format) x ≡ pixels_of (is_signed g) y → x ≡ y) k.one_format
    (one_format format x y sx) sy k
