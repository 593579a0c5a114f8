use borrow.Author.Rules.{rules}
use Rattle.text.proofs.Texts.{said}
use Rattle.text_audit.specs.Audit.{verdict_word}
use Rattle.text_audit.proofs.put_verdict.Goals as goal

pub returns-then-copy : goal.returns-then-copy
unfolding verdict_word
returns-then-copy c = record { upper_bound = search rules; written = said c.put.ensures.written (rw c.if-copy.true) }

pub returns : goal.returns
unfolding verdict_word
returns c = record { upper_bound = search rules; written = said c.put-2.ensures.written (rw c.if-copy.false) }
