-- Painted values under another name. Assumes nothing.
use mathlib.Core.Path.{◌≡◌, subst}
use mathlib.Core.List.{List}
use Prim.Native.Nat.{ℕ}
use Rattle.bc6_paint.specs.Values.{PaintedAs}

pub painted_as : {x y out after : List ℕ} {n : ℕ} → PaintedAs x out n after → x ≡ y → PaintedAs y out n after
painted_as {out = out} {after = after} {n = n} h e = subst (λ (l : List ℕ). PaintedAs l out n after) e h
