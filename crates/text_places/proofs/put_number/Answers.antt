use Rattle.text_places.proofs.Lines as lines
use borrow.Author.Rules.{rules}
use Rattle.text_places.proofs.put_number.Goals as goal

pub returns : goal.returns
returns c = record { upper_bound = search rules; written = lines.number c.args.store.now c.args.n c.tile_at.ensures c.put_field-end.ensures.written c.put_field.ensures.written }
