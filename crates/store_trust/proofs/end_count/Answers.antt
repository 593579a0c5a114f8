-- `store_trust::end_count` meets its contract. Assumes nothing.
use mathlib.Core.Path.{refl}
use borrow.Author.Tests.{lt-leb, le-leb}
use Rattle.store_trust.proofs.end_count.Goals as goal

pub returns-then-fields-gt10 : goal.returns-then-fields-gt10
returns-then-fields-gt10 c = rw (lt-leb _ 10 c.if-fields-gt10.true) refl

pub returns : goal.returns
returns c = rw (le-leb _ 10 c.if-fields-gt10.false) refl
