use Rattle.store_receipt.proofs.Walking.{stays_here, as_remembered}
use Rattle.store_receipt.proofs.first_along.Goals as goal

pub returns-then-earlier-n : goal.returns-then-earlier-n
returns-then-earlier-n c = stays_here c.repeated_along-earlier.ensures c.if-earlier-n.true

pub returns : goal.returns
returns c = as_remembered c.repeated_along-earlier.ensures c.requires.known c.if-earlier-n.false c.from.ensures
