-- The fix-up pixel of region 1 is one of pixels 1 to 15. Assumes nothing.
use mathlib.Core.Path.{◌≡◌, ap}
use Prim.Native.Nat.{ℕ, ◌<◌, ◌≤◌}
use native.Mathlib.Omega.{arith}
use Rattle.bcn_spec.specs.Regions.{fixup_of}
use Rattle.bcn_spec.proofs.Partitions.{rule, fixup_positive}
use Rattle.bcn_data.specs.declared.Subset2Map.{Subset2Map}
use Rattle.bcn_data.specs.Subsets.{subset2}

pub fixup_range : {map : Subset2Map} (p : ℕ) → p < 32 → map ≡ subset2 p → (1 ≤ map.fixup_index_2) × (map.fixup_index_2 ≤ 15)
fixup_range {map} p h e =
    let f : map.fixup_index_2 ≡ fixup_of p = ap (λ (m : Subset2Map). m.fixup_index_2) e in
    let r = (rule p h).fixup_fits in
    omega (arith, f, fixup_positive p h)
