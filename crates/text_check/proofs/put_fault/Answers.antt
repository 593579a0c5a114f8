use Rattle.text_check.proofs.Lines as lines
use borrow.Author.Rules.{rules}
use Rattle.text_check.proofs.put_fault.Goals as goal

pub returns : goal.returns
returns g c = record { upper_bound = search rules; written = lines.line _ c.args.store.now _ _ c.tile.ensures c.put_field-end.ensures.written c.put_field-end-2.ensures.written c.put_decimal-end.ensures.written c.put.ensures.written }
