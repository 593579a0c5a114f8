use Rattle.text.proofs.Texts.{said}
use Rattle.text_places.proofs.Lines as lines
use borrow.Author.Rules.{rules}
use Rattle.text_places.proofs.put_place.Goals as goal

pub returns-then-place-ge-FACES : goal.returns-then-place-ge-FACES
returns-then-place-ge-FACES c = record { upper_bound = search rules; written = said c.put.ensures.written (lines.no_place c.args.place c.if-place-ge-FACES.true) }

pub returns : goal.returns
returns c = record { upper_bound = search rules; written = lines.with_place c.args.place c.if-place-ge-FACES.false c.put_field-end.ensures.written c.put_field-end-2.ensures.written c.put_decimal.ensures.written }
