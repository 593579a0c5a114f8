use mathlib.Core.Path.{◌∙◌, ap₂}
use Rattle.store_receipt.proofs.entry_at.Goals as goal

pub returns : goal.returns
returns c =
    ap₂ (λ x y. record { number = x; stays = y }) (c.from.ensures ∙ c.u16_at.ensures)
    (c.from-2.ensures ∙ c.u16_at-2.ensures)
