use Rattle.text_clean.proofs.Lines.{line_put}
use borrow.Author.Rules.{rules}
use Rattle.text_clean.proofs.put_removed.Goals as goal

pub returns : goal.returns
returns c = record { upper_bound = search rules; written = line_put c.args.store.now _ _ c.tile_at.ensures c.tile_at-2.ensures c.put_field-end.ensures.written c.put_field-end-2.ensures.written c.put_field-end-3.ensures.written c.put_decimal-end.ensures.written c.put.ensures.written }
