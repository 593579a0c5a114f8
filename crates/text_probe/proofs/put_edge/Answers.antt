use Rattle.text_probe.specs.Output.{probe_line}
use Rattle.text.proofs.Texts.{then}
use borrow.Author.Rules.{rules}
use Rattle.text_probe.proofs.put_edge.Goals as goal

pub returns : goal.returns
unfolding probe_line
returns c = record { upper_bound = search rules; written = then (then c.put_count-end.ensures.written c.put_count-end-2.ensures.written) c.put.ensures.written }
