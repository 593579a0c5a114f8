use Rattle.text_audit.specs.Audit.{fault_words}
use Rattle.text.proofs.Texts.{then}
use borrow.Author.Rules.{rules}
use Rattle.text_audit.proofs.put_faults.Goals as goal

pub returns : goal.returns
unfolding fault_words
returns c = record { upper_bound = search rules; written = then c.put_count-end.ensures.written c.put_count.ensures.written }
