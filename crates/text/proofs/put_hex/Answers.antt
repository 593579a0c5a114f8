use Rattle.text.proofs.Texts.{said, hex_is}
use borrow.Author.Rules.{rules}
use Rattle.text.proofs.put_hex.Goals as goal

pub returns : goal.returns
returns c = record { value = search rules; written = said c.put.ensures.written (hex_is c.args.value (search rules) (search rules) (search rules) (search rules)) }
