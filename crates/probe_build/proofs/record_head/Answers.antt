use Prim.Native.Nat.{◌/◌, ◌%◌}
use mathlib.Core.List.{[], ◌∷◌}
use mathlib.Core.Path.{ap, ◌∙◌}
use native.Mathlib.Omega.{arith}
use Rattle.probe_build.specs.Building.{record_head}
use Rattle.probe_build.proofs.record_head.Goals as goal

pub returns : goal.returns
unfolding record_head
returns c =
    rw (c.to_le_bytes-tile.ensures, c.to_le_bytes-column.ensures ∙ ap (λ v. v % 256 ∷ v / 256 % 256 ∷ []) {y = c.args.place.column} (omega arith), c.to_le_bytes-row.ensures)
