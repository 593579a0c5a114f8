-- `pfm_header::put_header` meets its contract. Assumes nothing.
use Rattle.pfm_header.proofs.Text as text
use Rattle.pfm_header.proofs.put_header.Goals as goal

pub returns : goal.returns
returns c = text.whole c.args.width c.args.height c.put-front.ensures.written c.put_decimal-blank.ensures c.put-next.ensures.written c.put_decimal-end.ensures c.put.ensures.written
