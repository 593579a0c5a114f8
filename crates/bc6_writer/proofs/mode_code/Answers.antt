-- `bc6_writer::mode_code` meets its contract. Assumes nothing.
use borrow.Author.Rules.{rules}
use Rattle.bc6_writer.proofs.Scattering.{code_two, code_five, code_last}
use Rattle.bc6_writer.proofs.mode_code.Goals as goal

pub returns-then-mode-le2 : goal.returns-then-mode-le2
returns-then-mode-le2 c = code_two _ (search rules) (search rules) (search rules)

pub returns-then-mode-le10 : goal.returns-then-mode-le10
returns-then-mode-le10 c = code_five _ (search rules) (search rules) (search rules) (search rules)

pub returns : goal.returns
returns c = code_last _ (search rules) (search rules) (search rules) (search rules)
