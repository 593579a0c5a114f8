-- `exr_bands::put_lines` meets its contract. Assumes nothing.
use mathlib.Core.Path.{refl, ap, ◌∙◌}
use mathlib.Core.List.{List, ◌++◌}
use Prim.Native.Nat.{ℕ, ◌+◌, ◌*◌, ◌/◌}
use native.Mathlib.Omega.{arith}
use lib.ListN.{drop}
use borrow.Author.Rules.{rules}
use Rattle.exr_header.specs.Header.{line_length}
use Rattle.exr_bands.specs.Bands.{piece_of}
use Rattle.exr_bands.proofs.Lines.{lines_cropped}
use Rattle.exr_bands.proofs.put_lines.Goals as goal

pub returns : goal.returns
unfolding line_length piece_of
returns c =
    let s = c.args in
    let across = (s.width + 3) / 4 in
    record {
      count = refl;
      holds = c.crop_lines.ensures
          ∙ ap (λ (t : List ℕ). t ++ drop ((8 + 6 * s.width) * s.rows) s.out.now)
          (lines_cropped s.band.now s.format across s.first s.width (omega arith) _ c.put_band.ensures s.rows (search rules));
    }
