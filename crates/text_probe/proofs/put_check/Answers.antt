use Rattle.text_probe.proofs.Answers.{check-fault, check-probe}
use Rattle.text.proofs.Texts.{said}
use borrow.Author.Rules.{rules}
use Rattle.text_probe.proofs.put_check.Goals as goal

pub returns-then-fault-ne-DONE : goal.returns-then-fault-ne-DONE
returns-then-fault-ne-DONE c = record { upper_bound = search rules; written = said c.put_fault.ensures.written (check-fault _ _ c.probe_check-fault.ensures c.if-fault-ne-DONE.true) }

pub returns : goal.returns
returns c = record { upper_bound = search rules; written = said c.put_edge.ensures.written (check-probe _ _ c.probe_check-fault.ensures c.if-fault-ne-DONE.false) }
