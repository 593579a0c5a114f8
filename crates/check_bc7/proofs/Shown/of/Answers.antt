-- `Shown::of` meets its contract. Assumes nothing.
use mathlib.Core.Path.{ap, sym, ◌∙◌}
use Prim.Native.Nat.{ℕ}
use Rattle.bc7.specs.Call.{told}
use Rattle.check_bc7.specs.Shown.{shown_as}
use Rattle.check_bc7.proofs.Pieces.{shown_is}
use Rattle.check_bc7.proofs.Shown.of.Goals as goal

pub returns-in-Ok : goal.returns-in-Ok
returns-in-Ok c = ap (λ r. shown_as (told r) c.bc7_pixels.new.out) (sym c.in-Ok.is) ∙ shown_is c.bc7_pixels.ensures

pub returns-in-Err : goal.returns-in-Err
returns-in-Err c =
    ap (λ (n : ℕ). shown_as (record { answer = n; mode = 0 }) c.bc7_pixels.new.out) c.number.ensures
    ∙ ap (λ r. shown_as (told r) c.bc7_pixels.new.out) (sym c.in-Err.is) ∙ shown_is c.bc7_pixels.ensures
