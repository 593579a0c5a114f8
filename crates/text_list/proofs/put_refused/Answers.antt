use Rattle.text_list.proofs.Lines as lines
use borrow.Author.Rules.{rules}
use Rattle.text_list.proofs.put_refused.Goals as goal

pub returns : goal.returns
returns c = record { upper_bound = search rules; written = lines.unshown c.args.store.now c.args.n c.requires.mark_value c.put-end.ensures.written c.put_field-end.ensures.written c.put.ensures.written }
