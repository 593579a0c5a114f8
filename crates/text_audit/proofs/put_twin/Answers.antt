use Rattle.text_audit.specs.Audit.{twin_line}
use Rattle.text.proofs.Texts.{then}
use borrow.Author.Rules.{rules}
use Rattle.text_audit.proofs.put_twin.Goals as goal

pub returns : goal.returns
unfolding twin_line
returns c = record { upper_bound = search rules; written = then (then c.put_pair-end.ensures.written c.put_verdict-end.ensures.written) c.put_cover.ensures.written }
