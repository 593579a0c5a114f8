use mathlib.Core.Path.{◌∙◌}
use Rattle.probe_places.proofs.Readings.{unrefused, refused}
use Rattle.text_places.proofs.Lines as lines
use borrow.Author.Rules.{rules}
use Rattle.text_places.proofs.put_record.Goals as goal

pub returns-in_default : goal.returns-in_default
returns-in_default c =
    let d = c.placed_record_at-reading.ensures in
    record { upper_bound = search rules; written = lines.refused_line c.args.store.now c.args.n (c.number.ensures ∙ d.answers) c.put_number-end.ensures.written c.put_field-end.ensures.written (refused d c.in_default.is) c.put.ensures.written }

pub put_shown-requires : goal.put_shown-requires
put_shown-requires c =
    let d = c.placed_record_at-reading.ensures in
    let e = c.in-Record.is in record { at_in_bounds = search rules; readable = unrefused d e; place_value = lines.place_is d e }

pub returns : goal.returns
returns c =
    let d = c.placed_record_at-reading.ensures in
    record { upper_bound = search rules; written = lines.shown_line c.args.store.now c.args.n (c.number.ensures ∙ d.answers) c.put_number-end.ensures.written c.put_field-end.ensures.written (unrefused d c.in-Record.is) c.put_shown.ensures.written }
