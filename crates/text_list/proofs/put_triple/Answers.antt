use Rattle.text_list.specs.Lines.{hex_triple}
use Rattle.text.proofs.Texts.{then}
use borrow.Author.Rules.{rules}
use Rattle.text_list.proofs.put_triple.Goals as goal

pub returns : goal.returns
unfolding hex_triple
returns c = record { value = search rules; written = then (then (then (then (then c.put_hex-end.ensures.written c.put-end.ensures.written) c.put_hex-end-2.ensures.written) c.put-end-2.ensures.written) c.put_hex-end-3.ensures.written) c.put.ensures.written }
