use borrow.Author.Rules.{rules}
use mathlib.Core.Path.{sym}
use Rattle.probe.proofs.Checking.{no_face, no_column, no_row, in_range}
use Rattle.probe.proofs.question_refusal.Goals as goal

pub returns-then-face-ge-FACES : goal.returns-then-face-ge-FACES
returns-then-face-ge-FACES c = sym (no_face _ _ _ _ (search rules))

pub returns-then-x-edge : goal.returns-then-x-edge
returns-then-x-edge c = sym (no_column _ _ _ _ (search rules) (search rules))

pub returns-then-y-edge : goal.returns-then-y-edge
returns-then-y-edge c = sym (no_row _ _ _ _ (search rules) (search rules) (search rules))

pub returns : goal.returns
returns c = sym (in_range _ _ _ _ (search rules) (search rules) (search rules))
