use native.Mathlib.Omega.{arith}
use Rattle.text_places.proofs.Lines as lines
use borrow.Author.Rules.{rules}
use Rattle.text_places.proofs.put_shown.Goals as goal

pub triple_at-triple-requires : goal.triple_at-triple-requires
triple_at-triple-requires c = lines.in_format c.args.store.now c.args.n _ (omega arith) c.requires.readable

pub mode_in-requires : goal.mode_in-requires
mode_in-requires c = lines.readable c.args.store.now c.args.n c.requires.readable

pub returns : goal.returns
returns c = record { upper_bound = search rules; written = lines.shown c.args.store.now c.args.n c.triple_at-triple.result c.mode_in.ensures c.requires.place_value c.triple_at-triple.ensures c.put_field-end.ensures.written c.put_place-end.ensures.written c.put-end.ensures.written c.put_triple.ensures.written }
