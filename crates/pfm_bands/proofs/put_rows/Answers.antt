-- `pfm_bands::put_rows` meets its contract. Assumes nothing.
use mathlib.Core.Path.{refl, ap, ◌∙◌}
use mathlib.Core.List.{List, ◌++◌}
use Prim.Native.Nat.{ℕ, ◌+◌, ◌*◌, ◌/◌}
use native.Mathlib.Omega.{arith}
use lib.ListN.{drop}
use borrow.Author.Rules.{rules}
use Rattle.pfm_bands.proofs.Rows.{rows_cropped}
use Rattle.pfm_bands.proofs.put_rows.Goals as goal

pub returns : goal.returns
returns c =
    let s = c.args in
    let across = (s.width + 3) / 4 in
    record {
      count = refl;
      holds = c.crop_rows.ensures
          ∙ ap (λ (t : List ℕ). t ++ drop (12 * s.width * s.rows) s.out.now)
          (rows_cropped s.band.now s.format across s.width s.rows (omega arith) (search rules) _ c.put_band.ensures);
    }
