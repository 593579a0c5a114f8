use Rattle.text_list.proofs.Lines as lines
use borrow.Author.Rules.{rules}
use Rattle.text_list.proofs.put_picture.Goals as goal

pub returns : goal.returns
returns c = record { upper_bound = search rules; written = lines.shown c.args.store.now c.args.n c.picture_of-values.result c.mode_at.ensures c.requires.mark_value c.picture_of-values.ensures c.put_field-end.ensures.written c.put_field-end-2.ensures.written c.put_triple.ensures.written }
