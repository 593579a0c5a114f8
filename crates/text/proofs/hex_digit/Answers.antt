use Rattle.text.specs.Text.{hex_digit}
use borrow.Author.Tests.{lt-ltb, le-ltb}
use Rattle.text.proofs.hex_digit.Goals as goal

pub returns-then-digit-lt10 : goal.returns-then-digit-lt10
unfolding hex_digit
returns-then-digit-lt10 c = rw (lt-ltb _ _ c.if-digit-lt10.true)

pub returns : goal.returns
unfolding hex_digit
returns c = rw (le-ltb _ _ c.if-digit-lt10.false)
