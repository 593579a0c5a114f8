use mathlib.Core.Path.{◌∙◌}
use Rattle.knotpasture.proofs.StoreWords.{record_word, refused_word}
use Rattle.knotpasture.proofs.store.knot_record_at.Goals as goal

pub returns-in-Ok : goal.returns-in-Ok
returns-in-Ok c = record_word c.record_at-reading.ensures c.in-Ok.is

pub returns-in-Err : goal.returns-in-Err
returns-in-Err c = c.number.ensures ∙ refused_word c.record_at-reading.ensures c.in-Err.is
