-- S-98, S-99: a wish that is taken, and what is written for it. Assumes nothing.
use Rattle.std.specs.Prelude.{◌≡◌, true, List, ℕ}
use Rattle.run_export.specs.Export.{wish_ours, front_for, piece_for}
use Rattle.run_export.specs.declared.Kind.{Kind}
use Rattle.run_export.specs.declared.Kind.TheVariants.{Pfm, Exr}
use Rattle.run_export.specs.declared.Wish.{Wish}

-- the number of a kind
unfoldable pub kind_number : Kind → ℕ
kind_number Pfm = 0
kind_number Exr = 1

-- what was read is ours, and the wish has it
pub record IsAsked (kind format width height : ℕ) (wish : Wish) : Type 0 where
  pub ours : wish_ours kind format width height ≡ true
  pub kind_is : kind_number wish.kind ≡ kind
  pub format_is : wish.format ≡ format
  pub width_is : wish.width ≡ width
  pub height_is : wish.height ≡ height

abbrev pub front_asked : Wish → List ℕ
front_asked wish = front_for (kind_number wish.kind) wish.width wish.height

abbrev pub piece_asked : Wish → ℕ → List ℕ → List ℕ
piece_asked wish n band = piece_for (kind_number wish.kind) wish.format wish.width wish.height n band
