use Rattle.text_audit.proofs.Twins as twins
use borrow.Author.Rules.{rules}
use Rattle.text_audit.proofs.put_pair.Goals as goal

pub returns : goal.returns
returns c = record { upper_bound = search rules; written = twins.pair c.args.store.now _ _ c.tile_at.ensures c.tile_at-2.ensures c.put_field-end.ensures.written c.put_field-end-2.ensures.written c.put_field-end-3.ensures.written c.put_field.ensures.written }
