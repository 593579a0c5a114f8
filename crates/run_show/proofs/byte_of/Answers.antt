-- `run_show::byte_of` meets its contract. Assumes nothing.
use borrow.Author.Tests.{eq-eqb, ne_eqb}
use Rattle.run_show.specs.Picture.{picture_byte}
use Rattle.run_show.proofs.byte_of.Goals as goal

pub returns-then-k-eq0 : goal.returns-then-k-eq0
unfolding picture_byte
returns-then-k-eq0 c = rw (eq-eqb _ _ c.if-k-eq0.true)

pub returns : goal.returns
unfolding picture_byte
returns c = rw (ne_eqb _ _ c.if-k-eq0.false) c.low_or_high.ensures
