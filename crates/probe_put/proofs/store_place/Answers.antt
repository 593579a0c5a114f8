use Prim.Native.Nat.{◌+◌, ◌*◌, ◌/◌, ◌%◌}
use mathlib.Core.List.{[], ◌∷◌}
use mathlib.Core.Path.{ap, ◌∙◌}
use native.Mathlib.Omega.{arith}
use Rattle.probe_put.proofs.Putting.{five}
use Rattle.probe_put.proofs.store_place.Goals as goal

pub returns : goal.returns
returns c =
    five c.args.out.now _ _ (c.args.n * 32 + 5) _ _ _ _ _
    (c.copy_from_slice.ensures.after ∙ c.to_le_bytes.ensures ∙ ap (λ v. v % 256 ∷ v / 256 % 256 ∷ []) {y = c.args.column} (omega arith))
    (c.copy_from_slice-2.ensures.after ∙ c.to_le_bytes-2.ensures) (omega arith)
