use Rattle.text_probe.specs.Image.{image_pixel}
use Rattle.laws.specs.Made.{made, join}
use lib.Seq.{sets}
use lib.ListN.{length}
use Prim.Native.Nat.{◌-◌, ◌≤◌}
use mathlib.Core.Path.{◌≡◌}
use Rattle.text_probe.proofs.put_pixels.Given as goal

abbrev pub invariant-loop-j : goal.invariant-loop-j
invariant-loop-j l = (l.j ≤ l.count) × (length l.out ≡ length l.initial.out) × (l.out ≡ sets l.initial.out l.at (join (made (image_pixel l.values l.side) l.j)))
