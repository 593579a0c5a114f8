use Rattle.text_probe.proofs.Answers.{no_record}
use Rattle.text_probe.specs.Output.{faulty_part}
use Rattle.text.proofs.Texts.{said}
use mathlib.Core.Path.{sym, ◌∙◌}
use borrow.Author.Rules.{rules}
use Rattle.text_probe.proofs.put_faulty.Goals as goal

pub returns-then-not-is_of_record : goal.returns-then-not-is_of_record
returns-then-not-is_of_record c = record { upper_bound = search rules; written = no_record _ _ _ c.is_of_record.ensures (c.if-not-is_of_record.true) }

pub returns : goal.returns
unfolding faulty_part
returns c = record { upper_bound = search rules; written = said c.put_count.ensures.written (rw (sym c.is_of_record.ensures ∙ c.if-not-is_of_record.false)) }
