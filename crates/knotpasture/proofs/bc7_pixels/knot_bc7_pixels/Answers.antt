-- `bc7_pixels::knot_bc7_pixels` meets its contract. Assumes nothing.
use mathlib.Core.Path.{ap, sym, ◌∙◌}
use native.Mathlib.Omega.{arith}
use Rattle.bc7.specs.Call.{told}
use Rattle.knotpasture.specs.Bc7.{bc7_word}
use Rattle.knotpasture.proofs.Bc7Words.{called}
use Rattle.knotpasture.proofs.bc7_pixels.knot_bc7_pixels.Goals as goal

pub returns-in-Ok : goal.returns-in-Ok
returns-in-Ok c = called c.bc7_pixels.ensures (c.two_bytes.ensures ∙ ap (λ r. bc7_word (told r)) (sym c.in-Ok.is))

pub returns-in-Err : goal.returns-in-Err
returns-in-Err c = called c.bc7_pixels.ensures (c.number.ensures ∙ omega arith ∙ ap (λ r. bc7_word (told r)) (sym c.in-Err.is))
