use mathlib.Core.Path.{sym, ◌∙◌}
use Rattle.store_spec.proofs.Keeping.{kind_reserved, kind_format}
use Rattle.store_scratch.proofs.kind_at.Goals as goal

pub returns-then-mode_at-eq0 : goal.returns-then-mode_at-eq0
returns-then-mode_at-eq0 c = kind_reserved _ _ (sym c.mode_at.ensures ∙ c.if-mode_at-eq0.true)

pub returns : goal.returns
returns c = c.from.ensures ∙ c.requires.format_value ∙ kind_format _ _ (λ z. c.if-mode_at-eq0.false (c.mode_at.ensures ∙ z))
