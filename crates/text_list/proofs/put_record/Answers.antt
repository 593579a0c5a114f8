use mathlib.Core.Path.{◌∙◌}
use Rattle.store_records.proofs.Readings.{unrefused, format_is, refused}
use Rattle.text_list.proofs.Lines as lines
use borrow.Author.Rules.{rules}
use Rattle.text_list.proofs.put_record.Goals as goal

pub returns-in_default : goal.returns-in_default
returns-in_default c = let d = c.record_at-reading.ensures in record { upper_bound = search rules; written = lines.refused_line c.args.store.now c.args.n c.tile_at.ensures (c.answer_number.ensures ∙ d.answers) c.put_field-end.ensures.written c.put_field-end-2.ensures.written c.put_field-end-3.ensures.written (refused d c.in_default.is) c.put_refused.ensures.written }

pub put_picture-requires : goal.put_picture-requires
put_picture-requires c = let d = c.record_at-reading.ensures in
    let e = c.in-Ok.is in record { at_in_bounds = search rules; unrefused = unrefused d e; format_value = format_is d e; mark_value = search rules }

pub returns : goal.returns
returns c =
    let d = c.record_at-reading.ensures in
    record { upper_bound = search rules; written = lines.shown_line c.args.store.now c.args.n c.tile_at.ensures (c.answer_number.ensures ∙ d.answers) c.put_field-end.ensures.written c.put_field-end-2.ensures.written c.put_field-end-3.ensures.written (unrefused d c.in-Ok.is) c.put_picture.ensures.written }
