use Rattle.text_places_audit.proofs.Lines as lines
use borrow.Author.Rules.{rules}
use Rattle.text_places_audit.proofs.put_where.Goals as goal

pub returns : goal.returns
returns c = record { upper_bound = search rules; written = lines.where_is c.args.store.now c.args.n c.place_at.ensures c.put_number-end.ensures.written c.put_place.ensures.written }
