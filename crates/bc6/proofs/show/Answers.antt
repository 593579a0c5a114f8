-- `bc6::show` meets its contract: by the mode and the format. Assumes nothing.
use mathlib.Core.Path.{◌∙◌, sym}
use mathlib.Core.Bool.{true, false}
use Rattle.bc6.proofs.Whole.{shown_black, shown_picture, some_mode}
use Rattle.bc6.proofs.show.Goals as goal

pub returns-then-mode-eq0 : goal.returns-then-mode-eq0
returns-then-mode-eq0 c = shown_black c.args.signed _ (sym c.requires.0 ∙ c.if-mode-eq0.true) c.write_black.ensures

pub returns-then-signed : goal.returns-then-signed
returns-then-signed c = shown_picture c.args.signed true _ c.if-signed.true (rw c.requires.0 at (some_mode _ c.if-mode-eq0.false)) c.show_as.ensures

pub returns : goal.returns
returns c = shown_picture c.args.signed false _ c.if-signed.false (rw c.requires.0 at (some_mode _ c.if-mode-eq0.false)) c.show_as-2.ensures
