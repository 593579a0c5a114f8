-- `pixels::knot_block_pixels` meets its contract. Assumes nothing.
use mathlib.Core.Path.{ap, sym, ◌∙◌}
use native.Mathlib.Omega.{arith}
use Prim.Native.Nat.{ℕ, ◌+◌, ◌*◌}
use Rattle.bc6.specs.Call.{told}
use Rattle.knotpasture.specs.Pixels.{pixels_word}
use Rattle.knotpasture.proofs.PixelWords.{called}
use Rattle.knotpasture.proofs.pixels.knot_block_pixels.Goals as goal

pub returns-in-Ok : goal.returns-in-Ok
returns-in-Ok c =
    called c.block_pixels.ensures
    (ap (λ (low : ℕ). low + c.in-Ok.shown.infinite * 0x10000) c.two_bytes.ensures ∙ ap (λ r. pixels_word (told r)) (sym c.in-Ok.is))

pub returns-in-Err : goal.returns-in-Err
returns-in-Err c =
    called c.block_pixels.ensures (c.number.ensures ∙ omega arith ∙ ap (λ r. pixels_word (told r)) (sym c.in-Err.is))
