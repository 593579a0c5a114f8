use Rattle.text_probe.specs.Output.{fault_line}
use Rattle.text.proofs.Texts.{then}
use borrow.Author.Rules.{rules}
use Rattle.text_probe.proofs.put_fault.Goals as goal

pub returns : goal.returns
unfolding fault_line
returns c = record { upper_bound = search rules; written = then (then c.put_count-end.ensures.written c.put_faulty-end.ensures.written) c.put.ensures.written }
