use Rattle.text_infinities.proofs.Findings as findings
use borrow.Author.Rules.{rules}
use Rattle.text_infinities.proofs.put_finding.Goals as goal

pub returns : goal.returns
returns c = record { upper_bound = search rules; written = findings.line c.args.store.now c.args.n c.args.finding c.tile_at.ensures c.put_field-end.ensures.written c.put_field-end-2.ensures.written c.put_field-end-3.ensures.written c.put_field-end-4.ensures.written c.put_channel.ensures.written }
